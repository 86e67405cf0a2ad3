-- What is known of the texts at a place, from what is walked.
use Rattle.std.proofs.Common.{inl, inr, ◌≡◌, ℕ, ◌≤◌, true, List, [], ◌∷◌, Option, Some, None, refl, sym, ap, subst, arith, true≢false, length}
use Rattle.std.specs.List.{AllByRecursion}
use Rattle.std.specs.Prelude.{unwrap_or}
use Rattle.std.specs.Ordering.{nat_cmp}
use Rattle.std.specs.Cmp.Lexicographic.{slice_cmp}
use Rattle.std.specs.FinMap as texts
use Rattle.gw_er7.specs.Message.{Texts, SegmentValue}
use Rattle.gw_profile.specs.Shapes as shapes
use Rattle.gw_profile.specs.Shapes.{ProfileValue}
use Rattle.gw_profile.specs.Deterministic.{AtMost}
use Rattle.gw_profile.specs.WellFormed.{LawfulField}
use Rattle.gw_resolve.specs.Intervals.{Interval, never, is_never}
use Rattle.gw_resolve.specs.Places as elements
use Rattle.gw_resolve.specs.Places.{Element, Found, found, known_of, element_of}
use Rattle.gw_interp.specs.Occurrences.{Occurrence, a_segment, nodes, at_place, texts_of_first}
use Rattle.gw_interp.specs.Meaning.{walked}
use Rattle.gw_check.specs.Levels.{sources}
use Rattle.gw_interp.proofs.Walks.{IsOccurrence, NoText, IsKnown, IsWalked}
use Rattle.gw_interp.proofs.Paths.{Several, Finds, place_finds}
use Rattle.gw_interp.proofs.Splits.{from_nat_le}
use Rattle.gw_interp.proofs.LevelsSound.{from_eq, LawfulElement, lawful_found, Scoped}

no_text : NoText texts.empty
no_text f r c s = ap (λ o. unwrap_or o []) (texts.get-empty (slice_cmp nat_cmp) (f ∷ r ∷ c ∷ s ∷ []))

module _ (names : List (List ℕ)) (profile : ProfileValue) (m : List SegmentValue) where
  nothing_known : (t : Texts) → NoText t → IsKnown names profile (record { count = never; fields = [] }) t
  nothing_known t none = record { lawful = tt; meets = inr none; sure = λ e. absurd (true≢false (sym e)); never = λ e. none }

  -- at a segment's place
  segment_known : (s : shapes.SegmentValue) (c : Interval) (os : List Occurrence) → AllByRecursion (LawfulField names) s.fields → Several profile m (elements.a_segment s) c os → IsKnown names profile (record { count = c; fields = s.fields }) (texts_of_first m os)
  segment_known s c [] l h =
      record {
        lawful = l;
        meets = inr no_text;
        sure = λ e. let one : 1 ≤ c.least = from_nat_le 1 c.least e in absurd (omega (arith, one, h.enough));
        never = λ e. no_text;
      }
  segment_known s c (a_segment i ∷ os) l h =
      record {
        lawful = l;
        meets = inl h.each.0.meets;
        sure = λ e. h.each.0.meets;
        never = λ e. absurd (one_there c.greatest e h.few);
      }
    where
      one_there : (g : Option ℕ) → is_never g ≡ true → AtMost g (length (a_segment i ∷ os)) → ⊥
      one_there None e f = true≢false (sym e)
      one_there (Some most) e f = let zero : most ≡ 0 = from_eq most 0 e in omega (arith, zero, f)
  segment_known s c (nodes t ∷ os) l h = absurd h.each.0

  -- at a group's place there is no text
  no_segment : (e : Element) (os : List Occurrence) → ((i : ℕ) → IsOccurrence profile m e (a_segment i) → ⊥) → AllByRecursion (IsOccurrence profile m e) os → NoText (texts_of_first m os)
  no_segment e [] none h = no_text
  no_segment e (a_segment i ∷ os) none h = absurd (none i h.0)
  no_segment e (nodes t ∷ os) none h = no_text

  found_known : (f : Option Found) (os : List Occurrence) → LawfulElement names (element_of f) → Finds profile m f os → IsKnown names profile (known_of f) (texts_of_first m os)
  found_known None os l h = nothing_known (texts_of_first m os) (subst (λ o. NoText (texts_of_first m o)) (sym h) no_text)
  found_known (Some f) os l h = go f.element refl l h
    where
      go : (e : Element) → f.element ≡ e → LawfulElement names e → Several profile m e f.count os → IsKnown names profile (known_of (Some (record { element = e; count = f.count }))) (texts_of_first m os)
      go (elements.a_segment s) same l h = segment_known s f.count os l.each h
      go (elements.a_group g inner) same l h = nothing_known (texts_of_first m os) (no_segment (elements.a_group g inner) os (λ i k. k) h.each)
      go (elements.the_whole inner) same l h = nothing_known (texts_of_first m os) (no_segment (elements.the_whole inner) os (λ i k. k) h.each)

pub walked_known : (from : ProfileValue) (from_names : List (List ℕ)) (m : List SegmentValue) (es : List Element) (os : List Occurrence) → Scoped from from_names m es os → IsWalked from_names (sources from es) (walked m os)
walked_known from from_names m es os h =
    record {
      places = λ place. found_known from_names from m (found es place) (at_place os place) (lawful_found from_names es place h.lawful) (place_finds from m es os place h.walks);
      current = tt;
    }

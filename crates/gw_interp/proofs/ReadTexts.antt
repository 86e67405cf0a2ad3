-- The texts that are read at sources.
use Rattle.std.proofs.Common.{◌≡◌, inl, inr, ℕ, ◌≤◌, ◌<◌, List, [], ◌∷◌, Option, Some, None, refl, sym, ap, ◌∙◌, arith, slice_get}
use Rattle.std.specs.Prelude.{unwrap_or}
use Rattle.std.specs.FinMap as texts
use Rattle.std.specs.Ordering.{nat_cmp}
use Rattle.std.specs.Cmp.Lexicographic.{slice_cmp}
use Rattle.gw_er7.specs.Message.{Texts, text_of, SegmentValue}
use Rattle.gw_er7.specs.Presence.{RepAt, FieldAt, IsLast}
use Rattle.gw_validate.specs.Fitting.{OccValue, numbered, segment_of}
use Rattle.gw_validate.specs.Conforming as conforming
use Rattle.gw_interp.specs.Occurrences.{Occurrence, texts_of_first}
use Rattle.gw_interp.specs.Meaning.{InFirst}
use Rattle.gw_interp.specs.own.Borrowed as lent
use Rattle.gw_interp.specs.own.Borrowed.{occurrence, IsFirstOf}
use Rattle.gw_interp.proofs.Shaped.{text_there}
use Rattle.gw_interp.specs.own.Sourced.{texts_of, IsFirstRep}

-- ---- the first that is present

module _ (m : Texts) (field : ℕ) where
  pub none_present : (last : ℕ) → IsLast (RepAt m field) last → last ≡ 0 → IsFirstRep m field None
  none_present last is e = λ p. let w = is.within p.0 p.1 in omega (arith, e, w.0, w.1)

  pub first_present : (last n : ℕ) → IsLast (RepAt m field) last → RepAt m field n → ((rep : ℕ) → 0 < rep → RepAt m field rep → n ≤ rep) → IsFirstRep m field (Some n)
  first_present last n is there first =
      record {
        holds = there;
        none_before = λ k less p. let w = is.within k p in let le : n ≤ k = first k w.0 p in omega (arith, less, le);
      }

-- ---- the segment of the first occurrence

numbered_texts : (m : List SegmentValue) (i : ℕ) → texts_of (slice_get m i) ≡ (conforming.segment_at m i).at
numbered_texts m i = by (slice_get m i)
  where
    by : (o : Option SegmentValue) → texts_of o ≡ (unwrap_or o (record { name = 0 ∷ 0 ∷ 0 ∷ []; at = texts.empty })).at
    by None = refl
    by (Some s) = refl

first_is : (m : List SegmentValue) (o : OccValue) (more : List Occurrence) → texts_of (numbered m o.number) ≡ texts_of_first m (occurrence o ∷ more)
first_is m o more = by o.number
  where
    by : (n : Option ℕ) → texts_of (numbered m n) ≡ texts_of_first m (lent.numbered n o.tree ∷ more)
    by None = refl
    by (Some i) = numbered_texts m i

-- the texts of the first occurrence, where it is one of the message's
pub some_first : (m : List SegmentValue) (o : OccValue) (os : List Occurrence) → IsFirstOf os (Some o) → o.message ≡ m → texts_of (segment_of o) ≡ texts_of_first m os
some_first m o os is of = ap (λ l. texts_of (numbered l o.number)) of ∙ first_is m o is.0 ∙ ap (texts_of_first m) (sym is.1)

-- ---- the text of the first repetition

pub in_none : (field comp sub : ℕ) → InFirst (texts_of None) field comp sub []
in_none field comp sub = inr ((λ p. empty_text p), refl)
  where
    empty_text : FieldAt texts.empty field → ⊥
    empty_text p = absurd (text_there (text_of texts.empty field p.0 p.1.0 p.1.1.0) p.1.1.1 (ap (λ o. unwrap_or o []) (texts.get-empty (slice_cmp nat_cmp) (field ∷ p.0 ∷ p.1.0 ∷ p.1.1.0 ∷ []))))

pub in_some : (m : Texts) (field comp sub rep : ℕ) (text : List ℕ) → IsFirstRep m field (Some rep) → text ≡ text_of m field rep comp sub → InFirst m field comp sub text
in_some m field comp sub rep text is same = inl (rep, is, same)

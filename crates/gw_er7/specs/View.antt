-- Segments as they lie in memory, and what they stand for. The code's own words.
use Rattle.std.specs.Prelude.{◌≡◌, ◌+◌, ◌<◌, ◌≤◌, ℕ, Bool, false, T, List, [], ◌∷◌, length, map, take, drop, unwrap_or, Option, None, Some, refl}
use Rattle.std.specs.List.{All, AllByRecursion, IsDistinct}
use Rattle.std.specs.List.Sorted.{IsSortedBy}
use Rattle.std.specs.Ordering.{nat_cmp, is_lt, is_le, is_gt, eq_by_cmp, ordering_then}
use Rattle.std.specs.declared.cmp.Ordering.{Ordering}
use Rattle.std.specs.declared.cmp.Ordering.TheVariants.{Less, Equal}
use Rattle.std.specs.Cmp.Lexicographic.{slice_cmp}
use Rattle.std.specs.FinMap as texts
use Rattle.std.specs.FinMap.{is_sorted}
use Rattle.std.specs.Coded.{Coded, code_by, coded×, coded_ℕ, coded_list}
use Rattle.gw_er7.specs.declared.place.Place.{Place}
use Rattle.gw_er7.specs.declared.spans.TextSpan.{TextSpan}
use Rattle.gw_er7.specs.declared.start.SegmentHead.{SegmentHead}
use Rattle.gw_er7.specs.declared.view.Value.{Value}
use Rattle.gw_er7.specs.Message.{numbers, Texts, SegmentValue, IsEntry, IsSegment, IsMessage}
use Rattle.gw_er7.specs.Building.{IsBegun}
use Rattle.gw_er7.specs.Entries.{Entry}

-- a text, and the place at which it is held
pub record Held : Type 0 where
  pub place : Place
  pub text : List ℕ

-- it is stored as its numbers and its text
abbrev pub held_code : Coded Held
held_code =
    code_by (ℕ × (ℕ × (ℕ × (ℕ × List ℕ)))) (coded× coded_ℕ (coded× coded_ℕ (coded× coded_ℕ (coded× coded_ℕ (coded_list coded_ℕ)))))
    (λ h. (h.place.field, (h.place.rep, (h.place.comp, (h.place.sub, h.text))))) (λ p. record { place = record { field = p.0; rep = p.1.0; comp = p.1.1.0; sub = p.1.1.1.0 }; text = p.1.1.1.1 }) (λ _. refl)

-- the text of a span lies within the bytes
abbrev pub IsInside : List ℕ → TextSpan → Type 0
IsInside bytes l = l.from + l.len ≤ length bytes

abbrev pub AreInside : List ℕ → List TextSpan → Type 0
AreInside bytes spans = All (IsInside bytes) spans

-- what a span says of the bytes in which its text lies
abbrev pub held_at : List ℕ → TextSpan → Held
held_at bytes l = record { place = l.place; text = take l.len (drop l.from bytes) }

abbrev pub held : List ℕ → List TextSpan → List Held
held bytes spans = map (held_at bytes) spans

abbrev pub entry_of : Held → Entry
entry_of h = (numbers h.place, h.text)

abbrev pub entries_of : List Held → List Entry
entries_of = map entry_of

-- texts that are borrowed, each with its place
abbrev pub placed : List Value → List Entry
placed = map (λ v. (numbers v.place, v.text.now))

-- the text is held at a place below this one
abbrev pub is_below : List ℕ → Held → Bool
is_below key h = is_lt (slice_cmp nat_cmp (numbers h.place) key)

-- the segment of values in order
abbrev pub stored : List ℕ → List Held → SegmentValue
stored name values = record { name = name; at = texts.from_sorted (entries_of values) }

-- values in order, of a segment with this name
pub record IsLent (name : List ℕ) (values : List Held) : Type 0 where
  pub sorted : T (is_sorted (slice_cmp nat_cmp) (entries_of values))
  pub segment : IsSegment (stored name values)

-- values in order, each with a text that may stand at its place
pub record AreValues (values : List Held) : Type 0 where
  pub sorted : T (is_sorted (slice_cmp nat_cmp) (entries_of values))
  pub each : AllByRecursion (IsEntry 1) (entries_of values)

-- how the first numbers of a key compare with these
abbrev pub compare_begin : List ℕ → List ℕ → Ordering
compare_begin key [] = Equal
compare_begin [] (p ∷ ps) = Less
compare_begin (k ∷ key) (p ∷ ps) = ordering_then (nat_cmp k p) (compare_begin key ps)

-- the key doesn't begin above these numbers
abbrev pub is_within : List ℕ → Held → Bool
is_within ps h = is_le (compare_begin (numbers h.place) ps)

-- a text stands at the key
abbrev pub StandsAt : Texts → List ℕ → Type 0
StandsAt m key = 0 < length (unwrap_or (texts.get m key) [])

-- the last place whose numbers begin with these, if there is one
abbrev pub IsLastUnder : Texts → List ℕ → Option Place → Type 0
IsLastUnder m ps None = (key : List ℕ) → StandsAt m key → compare_begin key ps ≡ Equal → ⊥
IsLastUnder m ps (Some p) =
    StandsAt m (numbers p) × (compare_begin (numbers p) ps ≡ Equal) × ((key : List ℕ) → StandsAt m key → compare_begin key ps ≡ Equal → is_gt (slice_cmp nat_cmp key (numbers p)) ≡ false)

-- the segment of values in any order, of which the first counts at each place
abbrev pub drafted : List ℕ → List Held → SegmentValue
drafted name values = record { name = name; at = texts.from_entries (entries_of values) }

-- no two values stand at one place
abbrev pub AreApart : List Held → Type 0
AreApart values = IsDistinct (eq_by_cmp (slice_cmp nat_cmp)) (map (λ h. numbers h.place) values)

-- no text stands above the one behind it
abbrev pub AreSorted : List Held → Type 0
AreSorted values = IsSortedBy (λ a b. is_lt (slice_cmp nat_cmp (numbers a.place) (numbers b.place))) values

-- ---- segments whose values lie one behind the other

-- those from one number up to another
abbrev pub between : {A : Type 0} → ℕ → ℕ → List A → List A
between from to xs = drop from (take to xs)

-- where the values of a segment end: where those of the next one begin, or all end
abbrev pub end_before : {A : Type 0} → List SegmentHead → List A → ℕ
end_before [] xs = length xs
end_before (s ∷ ss) xs = s.first

abbrev pub lying : List SegmentHead → List Held → List SegmentValue
lying [] values = []
lying (s ∷ ss) values = stored s.name (between s.first (end_before ss values) values) ∷ lying ss values

-- the values of each are in order
abbrev pub AreLying : List SegmentHead → List Held → Type 0
AreLying [] values = Unit {0}
AreLying (s ∷ ss) values =
    (s.first ≤ end_before ss values) × (end_before ss values ≤ length values) × T (is_sorted (slice_cmp nat_cmp) (entries_of (between s.first (end_before ss values) values))) × AreLying ss values

-- the same, but the last segment is still being made: its values may be in any order
abbrev pub building : List SegmentHead → List Held → List SegmentValue
building [] values = []
building (s ∷ []) values = drafted s.name (drop s.first values) ∷ []
building (s ∷ t ∷ ss) values = stored s.name (between s.first t.first values) ∷ building (t ∷ ss) values

abbrev pub AreBuilding : List SegmentHead → List Held → Type 0
AreBuilding [] values = Unit {0}
AreBuilding (s ∷ []) values = (s.first ≤ length values) × AreApart (drop s.first values)
AreBuilding (s ∷ t ∷ ss) values =
    (s.first ≤ t.first) × (t.first ≤ length values) × T (is_sorted (slice_cmp nat_cmp) (entries_of (between s.first t.first values))) × AreBuilding (t ∷ ss) values

-- a message, and one whose last segment is still being made
pub record IsLying (starts : List SegmentHead) (values : List Held) : Type 0 where
  pub each : AreLying starts values
  pub message : IsMessage (lying starts values)

pub record IsBuilding (starts : List SegmentHead) (values : List Held) : Type 0 where
  pub each : AreBuilding starts values
  pub begun : IsBegun (building starts values)

-- some of the spans, whose texts lie within the bytes
pub record AreWithin (bytes : List ℕ) (from to : ℕ) (spans : List TextSpan) : Type 0 where
  pub rising : from ≤ to
  pub bound : to ≤ length spans
  pub inside : AreInside bytes spans

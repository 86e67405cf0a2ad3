-- Where the texts of a message lie, in whatever width.
use Rattle.std.specs.Prelude.{◌≡◌, ◌⊎◌, ◌≤◌, ◌/◌, ◌%◌, ℕ, List, [], ◌++◌, map, take, drop, refl}
use Rattle.std.specs.List.Sorted.{IsPermutation, IsSortedBy}
use Rattle.std.specs.Ordering.{nat_cmp, is_lt}
use Rattle.std.specs.Cmp.Lexicographic.{slice_cmp}
use Rattle.std.specs.Coded.{Coded, code_by, coded×, coded_ℕ}
use Rattle.gw_er7.specs.declared.place.Place.{Place}
use Rattle.gw_er7.specs.declared.spans.TextSpan.{TextSpan}
use Rattle.gw_er7.specs.declared.spans.ShortSpan.{ShortSpan}
use Rattle.gw_er7.specs.declared.spans.LongSpan.{LongSpan}
use Rattle.gw_er7.specs.Message.{numbers}
use Rattle.gw_er7.specs.View.{between}

-- a span is stored as its numbers
abbrev pub span_code : Coded TextSpan
span_code =
    code_by (ℕ × (ℕ × (ℕ × (ℕ × (ℕ × ℕ))))) (coded× coded_ℕ (coded× coded_ℕ (coded× coded_ℕ (coded× coded_ℕ (coded× coded_ℕ coded_ℕ)))))
    (λ l. (l.place.field, (l.place.rep, (l.place.comp, (l.place.sub, (l.from, l.len)))))) (λ p. record { place = record { field = p.0; rep = p.1.0; comp = p.1.1.0; sub = p.1.1.1.0 }; from = p.1.1.1.1.0; len = p.1.1.1.1.1 }) (λ _. refl)

-- no number of the span's place is larger than the first of these, and no other than the second
abbrev pub IsUpTo : ℕ → ℕ → TextSpan → Type 0
IsUpTo at most l = (l.place.field ≤ at) × (l.place.rep ≤ at) × (l.place.comp ≤ at) × (l.place.sub ≤ at) × (l.from ≤ most) × (l.len ≤ most)

-- spans of one width, and others
abbrev pub all_said : {N : Type 0} → (N → TextSpan) → List N → List TextSpan → List TextSpan
all_said said narrow others = map said narrow ++ others

-- all are of this width, or none
abbrev pub AreAlike : {N : Type 0} → List N → List TextSpan → Type 0
AreAlike narrow others = (narrow ≡ []) ⊎ (others ≡ [])

-- spans of one width: those from one number up to another, or none
abbrev pub AreOf : {N : Type 0} → (N → TextSpan) → ℕ → ℕ → List N → List TextSpan → Type 0
AreOf said from to narrow spans = (narrow ≡ []) ⊎ (map said narrow ≡ between from to spans)

-- what a span of 12 bytes says
abbrev pub short_span : ShortSpan → TextSpan
short_span l = record { place = record { field = l.field; rep = l.rep; comp = l.comp; sub = l.sub }; from = l.from; len = l.len }

-- three numbers in 64 bits: the lowest has 24 of them, and each of the two above it 20
abbrev pub lows : ℕ
lows = 16777216

abbrev pub higher : ℕ
higher = 1048576

abbrev pub low_of : ℕ → ℕ
low_of three = three % lows

abbrev pub middle_of : ℕ → ℕ
middle_of three = three / lows % higher

abbrev pub high_of : ℕ → ℕ
high_of three = three / lows / higher

-- what a span of 16 bytes says
abbrev pub long_span : LongSpan → TextSpan
long_span l = record {
  place = record { field = middle_of l.from; rep = high_of l.from; comp = middle_of l.len; sub = high_of l.len };
  from = low_of l.from;
  len = low_of l.len;
}

-- those from this number on were put in the order of their places
pub record AreSortedFrom {A : Type 0} (place : A → Place) (first : ℕ) (old new : List A) : Type 0 where
  pub kept : take first new ≡ take first old
  pub moved : IsPermutation (drop first old) (drop first new)
  pub sorted : IsSortedBy (λ a b. is_lt (slice_cmp nat_cmp (numbers (place a)) (numbers (place b)))) (drop first new)

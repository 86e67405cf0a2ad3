-- The least breach of a segment, and how a search comes to it.
use Rattle.std.specs.Prelude.{◌≡◌, ℕ, ◌<◌, ◌⊎◌, Bool, false, nat_eq, List, [], ◌∷◌, Option, Some, None, option_map}
use Rattle.std.specs.List.{AllByRecursion}
use Rattle.gw_er7.specs.Message.{Texts, text_of, SegmentValue}
use Rattle.gw_profile.specs.Shapes.{SubValue, CompValue, FieldValue, ProfileValue, Forest, nothing, segment, group}
use Rattle.gw_validate.specs.declared.fields.Spot.{Spot}
use Rattle.gw_validate.specs.Kinds.{number_of}
use Rattle.gw_validate.specs.Breaches.{NotAfter, SubBreach, InAny, CompBreach, SegmentBreach}
use Rattle.gw_validate.specs.Conforming.{segment_at}

-- the least of the breaches, or none
abbrev pub Least : (List ℕ → Type 0) → Option (List ℕ) → Type 0
Least B None = (q : List ℕ) → B q → ⊥
Least B (Some p) = B p × ((q : List ℕ) → B q → NotAfter p q)

-- the numbers rise from above low
abbrev pub Rises : {A : Type 0} → (A → ℕ) → ℕ → List A → Type 0
Rises number low [] = Unit {0}
Rises number low (x ∷ xs) = (low < number x) × Rises number (number x) xs

abbrev pub CompRises : CompValue → Type 0
CompRises shape = Rises (λ s. s.number) 0 shape.subs

pub record FieldRises (shape : FieldValue) : Type 0 where
  pub comps : Rises (λ c. c.number) 0 shape.comps
  pub each : AllByRecursion CompRises shape.comps

pub record ShapeRises (fields : List FieldValue) : Type 0 where
  pub rises : Rises (λ f. f.number) 0 fields
  pub each : AllByRecursion FieldRises fields

-- what a spot says
abbrev pub segment_key : Spot → List ℕ
segment_key s = s.field ∷ s.rep ∷ s.comp ∷ s.sub ∷ number_of s.kind ∷ []

abbrev pub is_full : Option ℕ → ℕ → Bool
is_full None count = false
is_full (Some most) count = nat_eq most count

abbrev pub SubsBreach : ProfileValue → Texts → ℕ → ℕ → ℕ → List SubValue → List ℕ → Type 0
SubsBreach profile m f r c subs spot = InAny (λ s. s.number) (λ s. SubBreach profile s (text_of m f r c s.number)) subs spot

abbrev pub CompsBreach : ProfileValue → Texts → ℕ → ℕ → List CompValue → List ℕ → Type 0
CompsBreach profile m f r comps spot = InAny (λ c. c.number) (CompBreach profile m f r) comps spot

-- the first of the pairs that has a breach, with its least one, or none where no pair has any
abbrev pub Searched : (List FieldValue → ℕ → List ℕ → Type 0) → List (ℕ × List FieldValue) → Option (ℕ × List ℕ) → Type 0
Searched B [] None = Unit {0}
Searched B [] (Some x) = ⊥
Searched B (p ∷ ps) None = ((q : List ℕ) → B p.1 p.0 q → ⊥) × Searched B ps None
Searched B (p ∷ ps) (Some x) =
    ((x.0 ≡ p.0) × Least (B p.1 p.0) (Some x.1)) ⊎ (((q : List ℕ) → B p.1 p.0 q → ⊥) × Searched B ps (Some x))

-- the numbers of each segment's shape rise
abbrev pub EachRises : Forest → Type 0
EachRises nothing = Unit {0}
EachRises (segment s rest) = ShapeRises s.fields × EachRises rest
EachRises (group g nodes rest) = EachRises nodes × EachRises rest

-- the breaches of a message's segments, by their numbers
abbrev pub BreachAt : ProfileValue → List SegmentValue → List FieldValue → ℕ → List ℕ → Type 0
BreachAt profile m shape i spot = SegmentBreach profile shape (segment_at m i).at spot

-- what a search found: the number of a segment, and a spot in it
abbrev pub found_at : ℕ × Spot → ℕ × List ℕ
found_at x = (x.0, segment_key x.1)

-- this is what a search finds in these segments of a message, each with its shape
abbrev pub FindsBreach : ProfileValue → List SegmentValue → List (ℕ × List FieldValue) → Option (ℕ × Spot) → Type 0
FindsBreach profile m shaped found = Searched (BreachAt profile m) shaped (option_map found_at found)

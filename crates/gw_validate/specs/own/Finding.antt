-- How all breaches of a message's segments are found.
use Rattle.std.specs.Prelude.{◌≡◌, ℕ, ◌+◌, ◌<◌, ◌^◌, List, [], ◌∷◌, ◌++◌, length, map, get_or, unwrap_or}
use Rattle.std.specs.BTreeMap.{BTreeMap, get}
use Rattle.std.specs.Ordering.{nat_cmp}
use Rattle.std.specs.Cmp.Lexicographic.{slice_cmp}
use Rattle.gw_er7.specs.Message.{SegmentValue}
use Rattle.gw_profile.specs.Shapes.{FieldValue, ProfileValue}
use Rattle.gw_profile.specs.Deterministic.{Name}
use Rattle.gw_validate.specs.declared.breach.Breach.{Breach}
use Rattle.gw_validate.specs.declared.fields.Spot.{Spot}
use Rattle.gw_validate.specs.Broken.{Breaks, sequence, spot_of}
use Rattle.gw_validate.specs.Conforming.{named, Conforms}
use Rattle.gw_validate.specs.Every.{AreAll, IsNamed}
use Rattle.gw_validate.specs.own.Least.{segment_key}

-- the number of a segment and a spot in it, in one list
abbrev pub found_key : ℕ × Spot → List ℕ
found_key x = x.0 ∷ segment_key x.1

-- these are all breaches of the segments in turn, by their numbers
abbrev pub Collects : (List FieldValue → ℕ → List ℕ → Type 0) → List (ℕ × List FieldValue) → List (List ℕ) → Type 0
Collects B [] keys = keys ≡ []
Collects B (p ∷ ps) keys = (here : List (List ℕ)) × (rest : List (List ℕ)) × (keys ≡ map (λ q. p.0 ∷ q) here ++ rest) × AreAll (B p.1 p.0) here × Collects B ps rest

-- what breaks the segments, each with its shape, was put behind what was found
pub record Finds (B : List FieldValue → ℕ → List ℕ → Type 0) (shaped : List (ℕ × List FieldValue)) (old new : List (ℕ × Spot)) : Type 0 where
  pub added : List (ℕ × Spot)
  pub is : new ≡ old ++ added
  pub all : Collects B shaped (map found_key added)

-- the one breach of a message whose names don't fit
pub record IsAlone (p : ProfileValue) (m : List SegmentValue) (x : ℕ × Breach) : Type 0 where
  pub named : IsNamed p m x
  pub alone : (i : ℕ) (name : Name) (spot : List ℕ) → Breaks p m i name spot → (x.0 ≡ i) × (spot_of x.1 ≡ spot)
  pub never : Conforms p m → ⊥

-- the breach of a spot in the segment of this number
abbrev pub breach_of : List SegmentValue → ℕ × Spot → ℕ × Breach
breach_of m (n, spot) = (
  n,
  record {
    kind = spot.kind;
    segment = named m n;
    sequence = sequence m n (named m n);
    field = spot.field;
    rep = spot.rep;
    comp = spot.comp;
    sub = spot.sub;
  },
)

-- each segment's number among those of its name, from 1
abbrev pub AreSequences : List SegmentValue → List ℕ → Type 0
AreSequences m all = (number : ℕ) → number < length m → get_or all number 0 ≡ sequence m number (named m number)

-- how many segments of a name were counted
abbrev pub count_of : BTreeMap (List ℕ) ℕ → Name → ℕ
count_of counts name = unwrap_or (get (slice_cmp nat_cmp) counts name) 0

abbrev pub IsSmall : BTreeMap (List ℕ) ℕ → Name → Type 0
IsSmall counts name = count_of counts name + 1 < 2 ^ 64

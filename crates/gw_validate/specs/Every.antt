-- All breaches of a message, in order.
use Rattle.std.specs.Prelude.{◌≡◌, ℕ, ◌<◌, ◌⊎◌, List, [], ◌∷◌, map}
use Rattle.std.specs.List.{AllByRecursion}
use Rattle.gw_er7.specs.Message.{SegmentValue}
use Rattle.gw_profile.specs.Shapes.{ProfileValue}
use Rattle.gw_profile.specs.Deterministic.{Name}
use Rattle.gw_validate.specs.declared.breach.Breach.{Breach}
use Rattle.gw_validate.specs.Broken.{Breaks, sequence, spot_of}

-- the first number that differs is less
abbrev pub Before : List ℕ → List ℕ → Type 0
Before [] q = ⊥
Before (a ∷ p) [] = ⊥
Before (a ∷ p) (b ∷ q) = (a < b) ⊎ ((a ≡ b) × Before p q)

abbrev pub Has : List (List ℕ) → List ℕ → Type 0
Has [] q = ⊥
Has (p ∷ ps) q = (p ≡ q) ⊎ Has ps q

-- each comes before those behind it
abbrev pub Rising : List (List ℕ) → Type 0
Rising [] = Unit {0}
Rising (p ∷ ps) = ((q : List ℕ) → Has ps q → Before p q) × Rising ps

-- these are all that P holds of, in order, each once
pub record AreAll (P : List ℕ → Type 0) (ps : List (List ℕ)) : Type 0 where
  pub each : (q : List ℕ) → Has ps q → P q
  pub every : (q : List ℕ) → P q → Has ps q
  pub rising : Rising ps

-- a breach by the number of its segment (from 0) and its spot, in one list
abbrev pub place_of : ℕ × Breach → List ℕ
place_of x = x.0 ∷ spot_of x.1

-- the message breaks so, in the segment of this number
abbrev pub BreaksAt : ProfileValue → List SegmentValue → List ℕ → Type 0
BreaksAt p m [] = ⊥
BreaksAt p m (i ∷ spot) = (name : Name) × Breaks p m i name spot

-- a breach says its segment's name, and which of the segments of that name it is
pub record IsNamed (p : ProfileValue) (m : List SegmentValue) (x : ℕ × Breach) : Type 0 where
  pub breaks : Breaks p m x.0 x.1.segment (spot_of x.1)
  pub counted : x.1.sequence ≡ sequence m x.0 x.1.segment

-- these are all breaches of the message, in order, each once, by the numbers of their segments
pub record AreBreaches (p : ProfileValue) (m : List SegmentValue) (found : List (ℕ × Breach)) : Type 0 where
  pub all : AreAll (BreaksAt p m) (map place_of found)
  pub named : AllByRecursion (IsNamed p m) found

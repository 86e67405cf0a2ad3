-- What a walk over a segment says to its visitor.
use Rattle.std.specs.Prelude.{◌≡◌, ℕ, ◌<◌, ◌≤◌, ◌⊎◌, List, [], ◌∷◌, ◌++◌, Bool, true, Result, MatchResult}
use Rattle.gw_er7.specs.Message.{Texts}
use Rattle.gw_er7.specs.Presence.{RepAt}
use Rattle.gw_profile.specs.Shapes.{FieldValue, ProfileValue}
use Rattle.gw_validate.specs.Breaches.{Counted, RepBreach, NotAfter}
use Rattle.gw_validate.specs.Every.{AreAll, Has}

-- behind these numbers, what P holds of
abbrev pub Under : List ℕ → (List ℕ → Type 0) → List ℕ → Type 0
Under [] P q = P q
Under (n ∷ pre) P [] = ⊥
Under (n ∷ pre) P (k ∷ q) = (n ≡ k) × Under pre P q

-- this one, where the test holds
abbrev pub Only : Bool → List ℕ → List ℕ → Type 0
Only test key q = (test ≡ true) × (key ≡ q)

-- all that P holds of was seen behind these
pub record Gathers (P : List ℕ → Type 0) (old new : List (List ℕ)) : Type 0 where
  pub added : List (List ℕ)
  pub is : new ≡ old ++ added
  pub all : AreAll P added

-- at a key of P the visitor ended the walk with e: it saw the others of P, or they don't come before this key
pub record Stops {E : Type 0} (stopped : List (List ℕ) → List ℕ → E → Type 0) (P : List ℕ → Type 0) (old : List (List ℕ)) (e : E) : Type 0 where
  pub added : List (List ℕ)
  pub key : List ℕ
  pub ends : stopped (old ++ added) key e
  pub here : P key
  pub others : (q : List ℕ) → P q → Has added q ⊎ NotAfter key q

-- what a walk over all that P holds of answers
abbrev pub Visits : {U E : Type 0} → (List (List ℕ) → List ℕ → E → Type 0) → (List ℕ → Type 0) → List (List ℕ) → List (List ℕ) → Result U E → Type 0
Visits stopped P old new result = MatchResult result (λ _. Gathers P old new) (Stops stopped P old)

-- a breach in a repetition up to this number
abbrev pub RepsTo : ProfileValue → Texts → FieldValue → ℕ → List ℕ → Type 0
RepsTo profile m shape n [] = ⊥
RepsTo profile m shape n (r ∷ q) = (r ≤ n) × RepAt m shape.number r × RepBreach profile m shape r q

-- a breach in a repetition behind this number
abbrev pub RepsFrom : ProfileValue → Texts → FieldValue → ℕ → List ℕ → Type 0
RepsFrom profile m shape n [] = ⊥
RepsFrom profile m shape n (r ∷ q) = (n < r) × RepAt m shape.number r × RepBreach profile m shape r q

-- where a walk over the repetitions stands
pub record RepsGone (profile : ProfileValue) (m : Texts) (shape : FieldValue) (n count : ℕ) : Type 0 where
  pub counted : Counted (RepAt m shape.number) n count
  pub small : count ≤ n

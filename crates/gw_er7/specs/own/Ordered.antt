-- Entries in rising order, and cut behind those of one number. The writer's own words.
use Rattle.std.specs.Prelude.{◌≡◌, ℕ, ◌+◌, ◌<◌, ◌≤◌, T, map, List, [], ◌∷◌, ◌++◌}
use Rattle.std.specs.List.{AllByRecursion}
use Rattle.std.specs.Ordering.{nat_cmp}
use Rattle.std.specs.Cmp.Lexicographic.{slice_cmp}
use Rattle.std.specs.FinMap.{is_sorted}
use Rattle.gw_er7.specs.Entries.{Entry}

-- no first number is below this one
abbrev pub IsAtLeast : ℕ → List ℕ → Type 0
IsAtLeast n [] = Unit {0}
IsAtLeast n (m ∷ key) = n ≤ m

-- the first number is above this one
abbrev pub IsAbove : ℕ → List ℕ → Type 0
IsAbove n [] = ⊥
IsAbove n (m ∷ key) = n < m

abbrev pub Above : ℕ → List Entry → Type 0
Above n es = AllByRecursion (λ e. IsAbove n e.0) es

-- keys of positive numbers in rising order, none of which begins below the first
pub record IsOrdered (first : ℕ) (es : List Entry) : Type 0 where
  pub rising : T (is_sorted (slice_cmp nat_cmp) es)
  pub from : AllByRecursion (λ e. IsAtLeast first e.0) es
  pub positive : AllByRecursion (λ e. AllByRecursion (λ n. 0 < n) e.0) es

-- entries cut in two: those under the number n, without it, and those above it
pub record IsCut (n : ℕ) (es these later : List Entry) : Type 0 where
  pub whole : es ≡ map (λ e. (n ∷ e.0, e.1)) these ++ later
  pub above : Above n later
  pub inner : IsOrdered 1 these
  pub outer : IsOrdered (n + 1) later

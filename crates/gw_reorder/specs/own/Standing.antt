-- What a desk holds after what became due, was kept and was released.
use Rattle.std.specs.Prelude.{◌≡◌, ◌≢◌, ℕ, ◌+◌, ◌<◌, List, Option, None, Some, get_or, map, take, length, All}
use Rattle.gw_reorder.specs.State.{DeskState}

-- A desk stands where these numbers became due, these were released, and this is the value that was kept for a number, released or not
pub record Stands {T : Type 0} (s : DeskState T) (due : List ℕ) (given : List (ℕ × T)) (kept : ℕ → Option T) : Type 0 where
  pub due_is : s.due ≡ due
  pub places : s.released + length s.kept ≡ length due
  pub count : length given ≡ s.released
  -- what waits in the window is what was kept for the numbers not yet released
  pub slots : (i : ℕ) → i < length s.kept → get_or s.kept i None ≡ kept (get_or due (s.released + i) 0)
  -- a value was kept for each number that was released, and none for a number that was never due
  pub past : (i : ℕ) → i < s.released → (x : T) × (kept (get_or due i 0) ≡ Some x)
  pub strangers : (n : ℕ) → ((k : ℕ) → k < length due → get_or due k 0 ≢ n) → kept n ≡ None
  -- the first of the due numbers were released, each with the value kept for it
  pub numbers : map (λ p. p.0) given ≡ take s.released due
  pub values : All (λ p. kept p.0 ≡ Some p.1) given

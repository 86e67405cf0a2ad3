-- What is given out, by what stands first in the window.
use Rattle.std.proofs.Common.{◌≡◌, ℕ, ◌+◌, ◌-◌, ◌<◌, ◌≤◌, List, ◌∷◌, Option, Some, length, get_or, drop, min, slice_get, refl, sym, ap, ◌∙◌, arith}
use Rattle.std.proofs.lemmas.Option.{slice_get_read}
use Rattle.gw_reorder.specs.State.{DeskState}
use Rattle.gw_reorder.specs.Calls.{next_of, kept_pair}

pub below : (released waiting all : ℕ) → released + waiting ≡ all → 0 < waiting → released < all
below released waiting all places some = omega arith

pub places_after : (released waiting fewer all : ℕ) → released + waiting ≡ all → fewer + 1 ≡ waiting → (released + 1) + fewer ≡ all
places_after released waiting fewer all places one = omega arith

pub room_after : (room other capacity slots waiting fewer : ℕ) → min other (capacity - waiting) ≡ room → slots ≡ capacity → fewer + 1 ≡ waiting → room ≤ min other (slots - fewer)
room_after room other capacity slots waiting fewer is same one = omega arith

module _ {T : Type 0} where
  pub gives : {seen s : DeskState T} (view : seen ≡ s) (n : ℕ) (x : T) (more : List (Option T)) → seen.released < length seen.due → n ≡ get_or seen.due seen.released n → seen.kept ≡ Some x ∷ more → Some (n, x) ≡ next_of s
  gives {seen} view n x more inside read first =
      sym (ap next_of (sym view)
      ∙ (ap (λ at. kept_pair at (slice_get seen.kept 0)) (slice_get_read seen.due (length seen.due) seen.released n refl inside read)
      ∙ ap (λ xs. kept_pair (Some n) (slice_get xs 0)) first))

  pub dropped : {seen s : DeskState T} (view : seen ≡ s) (x : Option T) (more : List (Option T)) → seen.kept ≡ x ∷ more → more ≡ drop 1 s.kept
  dropped view x more first = sym (ap (drop 1) (ap (λ s. s.kept) (sym view) ∙ first))

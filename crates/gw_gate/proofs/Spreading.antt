-- A number that becomes due at the desk of one receiver of a route after another.
use Rattle.std.proofs.Common.{◌≡◌, [], ◌≢◌, ℕ, zero, suc, ◌+◌, ◌<◌, ◌==◌, ◌||◌, Bool, true, false, if◌then◌else◌, List, ◌∷◌, Some, slice_get, ◌⊎◌, inl, inr, length, take, refl, sym, ap, subst, ◌∙◌, arith}
use Rattle.std.specs.Prelude.{nat_eq}
use Rattle.std.specs.List.{list_any, AllByRecursion, IsDistinct}
use Rattle.std.proofs.lemmas.Bool.{cases_eq}
use Rattle.std.proofs.lemmas.Option.{get_or_from_slice_get, slice_get_within}
use Rattle.std.proofs.lemmas.List.Folds.{list_any_at, list_any_more}
use Rattle.std.proofs.lemmas.Map.Keys.{IsDistinct-head, IsDistinct-tail}
use Rattle.gw_reorder.specs.State.{DeskState, with_due}
use Rattle.gw_reorder.proofs.Places.{equals, differs}
use Rattle.gw_gate.specs.Parts.{TranslatedSeen}
use Rattle.gw_gate.specs.own.Desks.{Held, desk_at}

-- where there is room there is a desk
pub room_there : (desks : List Held) (k : ℕ) → 0 < (desk_at desks k).room → k < length desks
room_there [] k room = let none : 0 < 0 = room in absurd (omega (arith, none))
room_there (d ∷ desks) zero room = omega arith
room_there (d ∷ desks) (suc k) room = let l = room_there desks k room in omega arith

-- whether a receiver is one of these
abbrev pub among : List ℕ → ℕ → Bool
among to r = list_any (λ q. q == r) to

-- the number is due where the receiver is one of these
abbrev pub due_among : List ℕ → ℕ → ℕ → DeskState TranslatedSeen → DeskState TranslatedSeen
due_among to n r s = if among to r then with_due s n else s

pub among_all : (to : List ℕ) (k r : ℕ) → slice_get to k ≡ Some r → among to r ≡ true
among_all to k r at =
    list_any_at (λ q. q == r) to k 0 (slice_get_within to k r at) (ap (λ q. q == r) (get_or_from_slice_get to k r 0 at) ∙ equals r r refl)

among_more : (to : List ℕ) (k r q : ℕ) → slice_get to k ≡ Some r → among (take (k + 1) to) q ≡ (among (take k to) q || (r == q))
among_more to k r q at =
    list_any_more (λ x. x == q) to k 0 (slice_get_within to k r at) ∙ ap (λ x. among (take k to) q || (x == q)) (get_or_from_slice_get to k r 0 at)

-- a receiver that comes once isn't among those before it
not_before : (to : List ℕ) (k r : ℕ) → IsDistinct nat_eq to → slice_get to k ≡ Some r → among (take k to) r ≡ false
not_before [] k r once at = absurd (cc)
not_before (x ∷ to) zero r once at = refl
not_before (x ∷ to) (suc k) r once at = ap (λ b. b || among (take k to) r) (other to k (IsDistinct-head nat_eq x to once) at) ∙ not_before to k r (IsDistinct-tail nat_eq x to once) at
  where
    other : (xs : List ℕ) (j : ℕ) → AllByRecursion (λ y. nat_eq x y ≡ false) xs → slice_get xs j ≡ Some r → (x == r) ≡ false
    other [] j each at = absurd (cc)
    other (y ∷ xs) zero each at = let same : y ≡ r = cc in subst (λ z. (x == z) ≡ false) same each.0
    other (y ∷ xs) (suc j) each at = other xs j each.1 at

module _ (to : List ℕ) (n k r : ℕ) (start now : List Held) (at : slice_get to k ≡ Some r) (was : (q : ℕ) → desk_at now q ≡ due_among (take k to) n q (desk_at start q)) where
  -- its desk is as it was
  pub unmoved : IsDistinct nat_eq to → desk_at now r ≡ desk_at start r
  unmoved once = was r ∙ ap (λ b. if b then with_due (desk_at start r) n else desk_at start r) (not_before to k r once at)

  pub due_more : (next : List Held) → IsDistinct nat_eq to → desk_at next r ≡ with_due (desk_at now r) n → ((q : ℕ) → q ≢ r → desk_at next q ≡ desk_at now q)
      → (q : ℕ) → desk_at next q ≡ due_among (take (k + 1) to) n q (desk_at start q)
  due_more next once this others q = by (cases_eq q r)
    where
      or_true : (b : Bool) → (b || true) ≡ true
      or_true true = refl
      or_true false = refl

      or_false : (b : Bool) → (b || false) ≡ b
      or_false true = refl
      or_false false = refl

      here : among (take (k + 1) to) r ≡ true
      here = among_more to k r r at ∙ ap (λ b. among (take k to) r || b) (equals r r refl) ∙ or_true (among (take k to) r)

      by : (q ≡ r) ⊎ (q ≢ r) → desk_at next q ≡ due_among (take (k + 1) to) n q (desk_at start q)
      by (inl e) =
          subst (λ z. desk_at next z ≡ due_among (take (k + 1) to) n z (desk_at start z)) (sym e)
          (this ∙ ap (λ s. with_due s n) (unmoved once) ∙ sym (ap (λ b. if b then with_due (desk_at start r) n else desk_at start r) here))
      by (inr other) =
          others q other ∙ was q
          ∙ sym (ap (λ b. if b then with_due (desk_at start q) n else desk_at start q)
          (among_more to k r q at ∙ ap (λ b. among (take k to) q || b) (differs r q (λ e. other (sym e))) ∙ or_false (among (take k to) q)))

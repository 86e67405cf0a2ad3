-- Tests that are joined.
use Rattle.std.proofs.Common.{◌≡◌, ℕ, zero, suc, ◌⊎◌, inl, inr, Bool, true, false, refl, arith, ◌↔◌}
use Rattle.std.specs.Prelude.{◌&&◌, ◌||◌}
use Rattle.gw_validate.specs.own.Tests.{is_zero}

pub both : (a b : Bool) → a && b ≡ true → (a ≡ true) × (b ≡ true)
both true true e = (refl, refl)
both true false e = absurd (cc)
both false b e = absurd (cc)

pub and_of : (a b : Bool) → a ≡ true → b ≡ true → a && b ≡ true
and_of true true e f = refl
and_of true false e f = f
and_of false b e f = e

pub either : (a b : Bool) → a || b ≡ true → (a ≡ true) ⊎ (b ≡ true)
either true b e = inl refl
either false b e = inr e

pub or_left : (a b : Bool) → a ≡ true → a || b ≡ true
or_left true b e = refl
or_left false b e = absurd (cc)

pub or_right : (a b : Bool) → b ≡ true → a || b ≡ true
or_right true b e = refl
or_right false b e = e

pub zero_is : (n : ℕ) → (is_zero n ≡ true) ↔ (n ≡ 0)
zero_is zero = (λ e. refl, λ e. refl)
zero_is (suc n) = (λ e. absurd (cc), λ e. absurd (omega arith))

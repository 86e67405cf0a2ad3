-- Tests as facts.
use Rattle.std.proofs.Common.{◌≡◌, ℕ, ◌<◌, ◌≤◌, ◌⊎◌, inl, inr, Bool, true, false, Option, Some, None, List, [], ◌∷◌, refl, arith}
use Rattle.std.specs.Prelude.{◌&&◌, ◌||◌, not, nat_le, if◌then◌else◌}
use Rattle.std.specs.List.{list_all}
use Rattle.std.proofs.lemmas.Grind.{common_steps}
use Rattle.std.proofs.lemmas.Bool.Decides.{nat_tests}

pub both : (a b : Bool) → a && b ≡ true → (a ≡ true) × (b ≡ true)
both true b e = (refl, e)
both false b e = absurd (cc)

pub and_of : (a b : Bool) → a ≡ true → b ≡ true → a && b ≡ true
and_of true b e f = f
and_of false b e f = e

pub either : (a b : Bool) → a || b ≡ true → (a ≡ true) ⊎ (b ≡ true)
either true b e = inl refl
either false b e = inr e

pub or_left : (a b : Bool) → a ≡ true → a || b ≡ true
or_left true b e = refl
or_left false b e = absurd (cc)

pub or_right : (a b : Bool) → b ≡ true → a || b ≡ true
or_right true b e = refl
or_right false b e = e

pub neither : (a b : Bool) → a || b ≡ false → (a ≡ false) × (b ≡ false)
neither true b e = absurd (cc)
neither false b e = (refl, e)

pub not_true : (a : Bool) → not a ≡ true → a ≡ true → ⊥
not_true true e f = absurd (cc)
not_true false e f = absurd (cc)

pub true_not : (a : Bool) → (a ≡ true → ⊥) → not a ≡ true
true_not true f = absurd (f refl)
true_not false f = refl

pub false_not : (a : Bool) → (a ≡ true → ⊥) → a ≡ false
false_not true f = absurd (f refl)
false_not false f = refl

pub not_false : (a : Bool) → not a ≡ false → a ≡ true
not_false true e = refl
not_false false e = absurd (cc)

pub no_clash : true ≡ false → ⊥
no_clash e = cc

pub tells : (a : Bool) → (a ≡ true) ⊎ (a ≡ false)
tells true = inl refl
tells false = inr refl

pub both_false : (a b : Bool) → a ≡ false → b ≡ false → a || b ≡ false
both_false true b e f = absurd (cc)
both_false false b e f = f

pub not_of : (b : Bool) → b ≡ true → not b ≡ false
not_of true e = refl
not_of false e = absurd (cc)

pub not_is : (b : Bool) → not b ≡ true → b ≡ false
not_is true e = absurd (cc)
not_is false e = refl

-- ---- choices

pub if_true : {A : Type 0} (b : Bool) (x y : A) → b ≡ true → (if b then x else y) ≡ x
if_true true x y e = refl
if_true false x y e = absurd (cc)

pub if_false : {A : Type 0} (b : Bool) (x y : A) → b ≡ false → (if b then x else y) ≡ y
if_false true x y e = absurd (cc)
if_false false x y e = refl

-- a number that isn't chosen
pub unchosen : (b : Bool) (at : ℕ) (o : Option ℕ) → (if b then Some at else o) ≡ None → (b ≡ false) × (o ≡ None)
unchosen true at o e = absurd (cc)
unchosen false at o e = (refl, e)

-- ---- numbers

pub le_is : (a b : ℕ) → nat_le a b ≡ true → a ≤ b
le_is a b e = grind (arith, common_steps)

pub lt_is : (a b : ℕ) → nat_le a b ≡ false → b < a
lt_is a b e = grind (arith, nat_tests)

pub le_test : (a b : ℕ) → a ≤ b → nat_le a b ≡ true
le_test a b h = grind (arith, nat_tests)

pub all_map : {A : Type 0} (p q : A → Bool) → ((x : A) → p x ≡ true → q x ≡ true) → (xs : List A) → list_all p xs ≡ true → list_all q xs ≡ true
all_map p q h [] e = refl
all_map p q h (x ∷ xs) e = let r = both (p x) _ e in and_of _ _ (h x r.0) (all_map p q h xs r.1)

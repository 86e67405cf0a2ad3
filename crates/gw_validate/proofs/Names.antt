-- Names and their test.
use Rattle.std.proofs.Common.{◌≡◌, ◌⊎◌, inl, inr, Bool, true, false, refl}
use Rattle.std.specs.Str.{bytes_eq}
use Rattle.std.proofs.lemmas.Slice.Eq.{bytes_eq-Decides}
use Rattle.std.proofs.lemmas.Bool.Decides.{not_from_Decides}
use Rattle.gw_profile.specs.Deterministic.{Name}

pub equal_names : (a b : Name) → a ≡ b → bytes_eq a b ≡ true
equal_names a b e = (bytes_eq-Decides a b).1 e

pub name_tells : (a b : Name) → ((bytes_eq a b ≡ true) × (a ≡ b)) ⊎ ((bytes_eq a b ≡ false) × (a ≡ b → ⊥))
name_tells a b = by (bytes_eq a b) refl
  where
    by : (t : Bool) → bytes_eq a b ≡ t → ((bytes_eq a b ≡ true) × (a ≡ b)) ⊎ ((bytes_eq a b ≡ false) × (a ≡ b → ⊥))
    by true e = inl (e, (bytes_eq-Decides a b).0 e)
    by false e = inr (e, not_from_Decides _ (bytes_eq-Decides a b) e)

pub names_equal : (a b : Name) → bytes_eq a b ≡ true → a ≡ b
names_equal a b e = (bytes_eq-Decides a b).0 e

pub names_differ : (a b : Name) → bytes_eq a b ≡ false → a ≡ b → ⊥
names_differ a b e = not_from_Decides _ (bytes_eq-Decides a b) e

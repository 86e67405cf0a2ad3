-- What holds of some element: of those that others stand for, and of the keys of a set with one more.
use Rattle.std.proofs.Common.{◌≡◌, Bool, true, List, [], ◌∷◌, map, refl, ap, arith}
use Rattle.std.specs.Prelude.{◌||◌}
use Rattle.std.specs.List.{list_any}
use Rattle.indexmap.specs.IndexSet.{insert_key}
use Rattle.std.proofs.lemmas.List.Folds.{list_any-append}

pub any_map : {A B : Type 0} (f : A → B) (p : B → Bool) (xs : List A) → list_any p (map f xs) ≡ list_any (λ x. p (f x)) xs
any_map f p [] = refl
any_map f p (x ∷ xs) = ap (λ b. p (f x) || b) (any_map f p xs)

module _ {K : Type 0} (eq : K → K → Bool) (test : K → Bool) (k : K) (alike : (x : K) → eq k x ≡ true → test k ≡ test x) where
  found : (ks : List K) → list_any (eq k) ks ≡ true → test k ≡ true → list_any test ks ≡ true
  found [] h t = h
  found (x ∷ ks) h t = let same = alike x in let more = found ks in grind arith

  pub inserted : (ks : List K) → list_any test (insert_key eq ks k) ≡ (list_any test ks || test k)
  inserted ks = let there = found ks in let last = list_any-append test ks (k ∷ []) in grind arith

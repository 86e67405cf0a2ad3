-- What holds of each element of a list.
use Rattle.std.proofs.Common.{◌≡◌, ℕ, Bool, true, false, cond, List, [], ◌∷◌, ◌++◌, take, drop, refl}
use Rattle.std.proofs.lemmas.List.Elements.{All-from_recursion, recursion_from_All, All-take, All-drop}
use Rattle.std.specs.List.{slice_split, onto_first, AllByRecursion}

module _ {X : Type 0} (P : X → Type 0) where
  pub Each-append : (xs ys : List X) → AllByRecursion P xs → AllByRecursion P ys → AllByRecursion P (xs ++ ys)
  Each-append [] ys h k = k
  Each-append (x ∷ xs) ys h k = (h.0, Each-append xs ys h.1 k)

  pub Each-take : (n : ℕ) (xs : List X) → AllByRecursion P xs → AllByRecursion P (take n xs)
  Each-take n xs h = recursion_from_All P (take n xs) (All-take P n xs (All-from_recursion P xs h))

  pub Each-drop : (n : ℕ) (xs : List X) → AllByRecursion P xs → AllByRecursion P (drop n xs)
  Each-drop n xs h = recursion_from_All P (drop n xs) (All-drop P n xs (All-from_recursion P xs h))

  pub Each-weaker : (Q : X → Type 0) → ((x : X) → P x → Q x) → (xs : List X) → AllByRecursion P xs → AllByRecursion Q xs
  Each-weaker Q to [] h = tt
  Each-weaker Q to (x ∷ xs) h = (to x h.0, Each-weaker Q to xs h.1)

-- of each byte of the parts, where it is so of those that don't cut
pub Each-split : (P Q : ℕ → Type 0) (p : ℕ → Bool) → ((b : ℕ) → P b → p b ≡ false → Q b) → (bytes : List ℕ) → AllByRecursion P bytes → AllByRecursion (AllByRecursion Q) (slice_split p bytes)
Each-split P Q p to [] h = (tt, tt)
Each-split P Q p to (b ∷ bs) h =
    elim (p b) as (λ v. p b ≡ v → AllByRecursion (AllByRecursion Q) (cond v ([] ∷ slice_split p bs) (onto_first b (slice_split p bs)))) [
      | true ↦ λ _. (tt, Each-split P Q p to bs h.1)
      | false ↦ λ inside. onto (slice_split p bs) (to b h.0 inside) (Each-split P Q p to bs h.1)
    ] refl
  where
    onto : (ps : List (List ℕ)) → Q b → AllByRecursion (AllByRecursion Q) ps → AllByRecursion (AllByRecursion Q) (onto_first b ps)
    onto [] is h = ((is, tt), tt)
    onto (x ∷ ps) is h = ((is, h.0), h.1)

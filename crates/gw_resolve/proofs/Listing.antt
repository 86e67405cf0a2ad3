-- Lists made one element after the other, and the failures noted on the way, as invariants.
use Rattle.std.proofs.Common.{◌≡◌, ℕ, List, ◌++◌, map, flat_map, drop}
use Rattle.gw_maplang.specs.Shapes.{TableValue}
use Rattle.gw_resolve.specs.declared.failure.Failure.{Failure as Noted}
use Rattle.gw_resolve.specs.Failures.{Failure}
use Rattle.gw_resolve.specs.Seen.{failures}

-- what was made and is still to be made, and what was noted and is still to be noted
abbrev pub Makes : {A B C D : Type 0} → (B → C) → (A → B) → (D → C) → List A → ℕ → List D → Type 0
Makes f view seen xs i ys = map f (map view xs) ≡ map seen ys ++ map f (map view (drop i xs))

abbrev pub Tells : {A B C : Type 0} → (B → List C) → (A → B) → List C → List C → ℕ → List A → Type 0
Tells f view first now i xs = first ++ flat_map f (map view xs) ≡ now ++ flat_map f (map view (drop i xs))

-- both, whatever the map's tables are
pub record Lists {A B C D : Type 0} (f : List TableValue → B → C) (tell : B → List Failure) (view : A → B) (seen : List TableValue → D → C) (first now : List Noted) (xs : List A) (i : ℕ) (ys : List D) : Type 0 where
  pub made : (tables : List TableValue) → Makes (f tables) view (seen tables) xs i ys
  pub failures : Tells tell view (failures first) (failures now) i xs

-- Which shape each segment of a message has, by the walk over its names.
use Rattle.std.specs.Prelude.{◌≡◌, ℕ, List, [], ◌∷◌, length, map}
use denote.Ref.{Bor}
use Rattle.gw_profile.specs.declared.shape.FieldShape.{FieldShape}
use Rattle.gw_profile.specs.Seen.{field}
use Rattle.gw_profile.specs.Shapes.{FieldValue, Forest}
use Rattle.gw_profile.specs.Deterministic.{Name}
use Rattle.gw_validate.specs.Trees.{Tree, IsTree, assigned}

-- the list has a tree that assigns these shapes
pub record Assigned (named : ℕ → Name) (f : Forest) (l : List ℕ) (pairs : List (ℕ × List FieldValue)) : Type 0 where
  pub tree : Tree
  pub is : IsTree named tree f l
  pub pairs_are : assigned tree f ≡ pairs

-- A segment of this shape takes the name: with it in front, a tree of what is left is one of the whole forest.
abbrev pub Takes : Forest → Name → List FieldValue → Forest → Type 0
Takes f x shape g =
    (named : ℕ → Name) (i : ℕ) (l : List ℕ) (t : Tree) → named i ≡ x → IsTree named t g l → Assigned named f (i ∷ l) ((i, shape) ∷ assigned t g)

abbrev pub shape_of : Bor (List FieldShape) → List FieldValue
shape_of fields = map field fields.now

-- segments of these shapes take the names in turn
abbrev pub TakesAll : Forest → List Name → List (Bor (List FieldShape)) → Forest → Type 0
TakesAll f [] [] g = f ≡ g
TakesAll f [] (s ∷ shapes) g = ⊥
TakesAll f (x ∷ names) [] g = ⊥
TakesAll f (x ∷ names) (s ∷ shapes) g = (h : Forest) × Takes f x (shape_of s) h × TakesAll h names shapes g

-- each number with the shape beside it
abbrev pub paired : List ℕ → List (Bor (List FieldShape)) → List (ℕ × List FieldValue)
paired [] shapes = []
paired (i ∷ l) [] = []
paired (i ∷ l) (s ∷ shapes) = (i, shape_of s) ∷ paired l shapes

-- the shapes are those of segments of these names
pub record Suits (f : Forest) (names : List Name) (shapes : List (Bor (List FieldShape))) : Type 0 where
  pub same : length shapes ≡ length names
  pub assigns : (named : ℕ → Name) (l : List ℕ) → map named l ≡ names → Assigned named f l (paired l shapes)

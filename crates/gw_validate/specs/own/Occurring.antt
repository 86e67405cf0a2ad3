-- The occurrences that the program keeps, those of each node that occurs, as a tree.
use Rattle.std.specs.Prelude.{ℕ, suc, ◌<◌, ◌==◌, if◌then◌else◌, List, [], ◌∷◌, take, drop, Option, Some, None}
use Rattle.std.specs.List.{AllByRecursion}
use Rattle.gw_profile.specs.Shapes.{Forest, nothing, segment, group}
use Rattle.gw_validate.specs.declared.occurrences.Occurrences.{Occurrences, Segments, OneGroup, Groups', items-the_row-Found}
use Rattle.gw_validate.specs.declared.occurrences.Child.{Child}
use Rattle.gw_validate.specs.declared.occurrences.Found.{Found, out-Found}
use Rattle.gw_validate.specs.Trees.{Tree, leaf, segments, groups, Trees, no_trees, trees}

-- the number of each child is below those of all behind it
abbrev pub Rising : List Child → Type 0
Rising [] = Unit {0}
Rising (one ∷ more) = AllByRecursion (λ other. one.node < other.node) more × Rising more

-- the occurrences of the child of this number
abbrev pub numbered : List Child → ℕ → Option Occurrences
numbered [] k = None
numbered (one ∷ more) k = if one.node == k then Some one.occurrences else numbered more k

-- the child nodes that occur
abbrev pub children_of : Found → List Child
children_of x = (out-Found x).children.items

-- the occurrences of the node of this number
abbrev pub kept : Found → ℕ → Option Occurrences
kept x k = numbered (children_of x) k

-- those of a segment, of the numbers that are listed
abbrev pub numbers_of : List ℕ → Option Occurrences → List ℕ
numbers_of listed None = []
numbers_of listed (Some (Segments from count)) = take count (drop from listed)
numbers_of listed (Some (OneGroup x)) = []
numbers_of listed (Some (Groups' shape row)) = []

-- those of a group
abbrev pub found_of : Option Occurrences → List Found
found_of None = []
found_of (Some (Segments from count)) = []
found_of (Some (OneGroup x)) = x ∷ []
found_of (Some (Groups' shape row)) = items-the_row-Found _ row

abbrev pub each_tree : (Found → Tree) → List Found → Trees
each_tree f [] = no_trees
each_tree f (x ∷ xs) = trees (f x) (each_tree f xs)

-- the tree of the nodes from this number on
abbrev pub tree_from : List ℕ → (ℕ → Option Occurrences) → ℕ → Forest → Tree
tree_from listed at k nothing = leaf
tree_from listed at k (segment s rest) = segments (numbers_of listed (at k)) (tree_from listed at (suc k) rest)
tree_from listed at k (group g nodes rest) = groups (each_tree (λ x. tree_from listed (kept x) 0 nodes) (found_of (at k))) (tree_from listed at (suc k) rest)

-- the tree of an occurrence of a group of these nodes, or of the whole profile
abbrev pub tree_of : List ℕ → Forest → Found → Tree
tree_of listed nodes x = tree_from listed (kept x) 0 nodes

-- the tree of one node alone, by its occurrences
abbrev pub node_tree : List ℕ → Forest → Option Occurrences → Tree
node_tree listed f found = tree_from listed (λ _. found) 0 f

abbrev pub trees_of : List ℕ → Forest → List Found → Trees
trees_of listed nodes xs = each_tree (tree_of listed nodes) xs

-- in the groups of the nodes from this number on, the numbers of the nodes that occur rise
abbrev pub AreOrdered : (ℕ → Option Occurrences) → ℕ → Forest → Type 0
AreOrdered at k nothing = Unit {0}
AreOrdered at k (segment s rest) = AreOrdered at (suc k) rest
AreOrdered at k (group g nodes rest) =
    AllByRecursion (λ x. Rising (children_of x) × AreOrdered (kept x) 0 nodes) (found_of (at k)) × AreOrdered at (suc k) rest

abbrev pub IsOrdered : Forest → Found → Type 0
IsOrdered nodes x = Rising (children_of x) × AreOrdered (kept x) 0 nodes

-- the nodes that occur have numbers below this one
pub record IsUpTo (n : ℕ) (x : Found) : Type 0 where
  pub rising : Rising (children_of x)
  pub below : AllByRecursion (λ child. child.node < n) (children_of x)

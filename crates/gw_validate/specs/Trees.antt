-- The tree of occurrences of a list that is cut as the nodes of a profile say.
use Rattle.std.specs.Prelude.{◌≡◌, ℕ, suc, ◌≤◌, List, [], ◌++◌, length, map}
use Rattle.std.specs.List.{AllByRecursion}
use Rattle.gw_profile.specs.Shapes.{Forest, nothing, segment, group, FieldValue}
use Rattle.gw_validate.specs.Cuts.{Cut}
use Rattle.gw_profile.specs.Deterministic.{Name, AtMost}

mutual
  -- for each node its occurrences: of a segment their numbers in the message, of a group the tree of each
  pub data Tree : Type 0 where
    leaf : Tree
    segments : List ℕ → Tree → Tree
    groups : Trees → Tree → Tree

  pub data Trees : Type 0 where
    no_trees : Trees
    trees : Tree → Trees → Trees

abbrev pub count_of : Trees → ℕ
count_of no_trees = 0
count_of (trees t ts) = suc (count_of ts)

abbrev mutual
  -- the tree is a cut of the list of numbers
  pub IsTree : (ℕ → Name) → Tree → Forest → List ℕ → Type 0
  IsTree named leaf nothing list = list ≡ []
  IsTree named (segments ns t) (segment s rest) list =
      (s.card.min ≤ length ns) × AtMost s.card.max (length ns) × AllByRecursion (λ i. named i ≡ s.name) ns
      × Cut (λ l. l ≡ ns) (IsTree named t rest) list
  IsTree named (groups ts t) (group g nodes rest) list =
      (g.card.min ≤ count_of ts) × AtMost g.card.max (count_of ts) × Cut (AreTrees named ts nodes) (IsTree named t rest) list
  IsTree named _ _ list = ⊥

  pub AreTrees : (ℕ → Name) → Trees → Forest → List ℕ → Type 0
  AreTrees named no_trees nodes list = list ≡ []
  AreTrees named (trees t ts) nodes list = Cut (IsTree named t nodes) (AreTrees named ts nodes) list

abbrev mutual
  -- all numbers, in order
  pub flatten : Tree → List ℕ
  flatten leaf = []
  flatten (segments ns t) = ns ++ flatten t
  flatten (groups ts t) = flatten_all ts ++ flatten t

  pub flatten_all : Trees → List ℕ
  flatten_all no_trees = []
  flatten_all (trees t ts) = flatten t ++ flatten_all ts

abbrev mutual
  -- each segment with the shape of its node, in the order of the message
  pub assigned : Tree → Forest → List (ℕ × List FieldValue)
  assigned leaf f = []
  assigned (segments ns t) nothing = []
  assigned (segments ns t) (segment s rest) = map (λ i. (i, s.fields)) ns ++ assigned t rest
  assigned (segments ns t) (group g nodes rest) = assigned t rest
  assigned (groups ts t) nothing = []
  assigned (groups ts t) (segment s rest) = assigned t rest
  assigned (groups ts t) (group g nodes rest) = assigned_all ts nodes ++ assigned t rest

  pub assigned_all : Trees → Forest → List (ℕ × List FieldValue)
  assigned_all no_trees nodes = []
  assigned_all (trees t ts) nodes = assigned t nodes ++ assigned_all ts nodes

-- each segment meets the shape of its node
abbrev pub AllMeet : (List FieldValue → ℕ → Type 0) → List (ℕ × List FieldValue) → Type 0
AllMeet meets = AllByRecursion (λ p. meets p.1 p.0)

-- a tree whose segments meet their shapes
pub record MeetingTree (named : ℕ → Name) (meets : List FieldValue → ℕ → Type 0) (f : Forest) (list : List ℕ) : Type 0 where
  pub tree : Tree
  pub is : IsTree named tree f list
  pub met : AllMeet meets (assigned tree f)

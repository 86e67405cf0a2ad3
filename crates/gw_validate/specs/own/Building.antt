-- A tree that is cut from the front of a list.
use Rattle.std.specs.Prelude.{◌≡◌, ℕ, ◌+◌, ◌-◌, ◌≤◌, List, ◌++◌, Option, length, map, take, drop}
use Rattle.std.specs.List.{AllByRecursion}
use Rattle.gw_profile.specs.declared.shape.Card.{Card}
use Rattle.gw_profile.specs.Shapes.{Forest, segment, SegmentValue, GroupValue}
use Rattle.gw_validate.specs.Cuts.{Fits}
use Rattle.gw_profile.specs.Deterministic.{Name, AtMost, Determined, NoName}
use Rattle.gw_validate.specs.own.Residual.{append, seg, grp}
use Rattle.gw_validate.specs.Trees.{Tree, Trees, count_of, IsTree, AreTrees}
use Rattle.gw_validate.specs.declared.occurrences.Occurrences.{Occurrences}
use Rattle.gw_validate.specs.declared.occurrences.Found.{Found}
use Rattle.gw_validate.specs.own.Occurring.{found_of, node_tree, tree_of, trees_of}

-- the tree of a front of the list, behind which g fits
pub record Built (named : ℕ → Name) (f g : Forest) (list : List ℕ) (t : Tree) (rest : List ℕ) : Type 0 where
  pub front : List ℕ
  pub joined : list ≡ front ++ rest
  pub here : IsTree named t f front
  pub there : Fits g (map named rest)

-- where f and something behind it fit the list, the tree is cut from its front for f
abbrev pub Builds : (ℕ → Name) → Forest → List ℕ → Tree → List ℕ → Type 0
Builds named f list t rest =
    (g : Forest) → Determined (append f g) NoName → Fits (append f g) (map named list) → Built named f g list t rest

-- the occurrences of a group at the front of the list
pub record BuiltGroups (named : ℕ → Name) (low : ℕ) (high : Option ℕ) (children g : Forest) (list : List ℕ) (ts : Trees) (rest : List ℕ) : Type 0 where
  pub front : List ℕ
  pub joined : list ≡ front ++ rest
  pub least : low ≤ count_of ts
  pub most : AtMost high (count_of ts)
  pub here : AreTrees named ts children front
  pub there : Fits g (map named rest)

abbrev pub BuildsGroups : (ℕ → Name) → ℕ → Option ℕ → Forest → List ℕ → Trees → List ℕ → Type 0
BuildsGroups named low high children list ts rest =
    (g : Forest) (gv : GroupValue) → Determined (grp gv low high children g) NoName → Fits (grp gv low high children g) (map named list)
    → BuiltGroups named low high children g list ts rest

-- the occurrences of a segment at the front of the list
pub record BuiltSegments (named : ℕ → Name) (name : Name) (low : ℕ) (high : Option ℕ) (g : Forest) (list ns rest : List ℕ) : Type 0 where
  pub joined : list ≡ ns ++ rest
  pub least : low ≤ length ns
  pub most : AtMost high (length ns)
  pub here : AllByRecursion (λ i. named i ≡ name) ns
  pub there : Fits g (map named rest)

abbrev pub BuildsSegments : (ℕ → Name) → SegmentValue → List ℕ → List ℕ → List ℕ → Type 0
BuildsSegments named sv list ns rest =
    (g : Forest) → Determined (segment sv g) NoName → Fits (segment sv g) (map named list)
    → BuiltSegments named sv.name sv.card.min sv.card.max g list ns rest

-- ---- what was kept of the listed numbers from one place on, with the place behind it

-- of a segment: its numbers lie between the two places
abbrev pub BuildsSegmentsAt : (ℕ → Name) → SegmentValue → List ℕ → ℕ → ℕ → Type 0
BuildsSegmentsAt named sv listed at behind =
    BuildsSegments named sv (drop at listed) (take (behind - at) (drop at listed)) (drop behind listed)

-- of a group with these nodes
abbrev pub BuildsGroupsAt : (ℕ → Name) → Card → Forest → List ℕ → ℕ → Option Occurrences × ℕ → Type 0
BuildsGroupsAt named card nodes listed at b =
    BuildsGroups named card.min card.max nodes (drop at listed) (trees_of listed nodes (found_of b.0)) (drop b.1 listed)

-- of one node
abbrev pub BuildsNodeAt : (ℕ → Name) → Forest → List ℕ → ℕ → Option Occurrences × ℕ → Type 0
BuildsNodeAt named node listed at b = Builds named node (drop at listed) (node_tree listed node b.0) (drop b.1 listed)

-- of a list of nodes
abbrev pub BuildsNodesAt : (ℕ → Name) → Forest → List ℕ → ℕ → Found × ℕ → Type 0
BuildsNodesAt named nodes listed at b = Builds named nodes (drop at listed) (tree_of listed nodes b.0) (drop b.1 listed)

-- ---- where a walk stands

-- how many are still to come, and how many have come
pub record Still (low : ℕ) (high : Option ℕ) (count due_low : ℕ) (due_high : Option ℕ) : Type 0 where
  pub least : low ≤ count + due_low
  pub room : (n : ℕ) → AtMost due_high n → AtMost high (count + n)

-- where a walk over the occurrences of a segment stands
pub record GoingSegments (named : ℕ → Name) (sv : SegmentValue) (low : ℕ) (high : Option ℕ) (g : Forest) (list ns : List ℕ) (due_low : ℕ) (due_high : Option ℕ) (rest : List ℕ) : Type 0 where
  pub joined : list ≡ ns ++ rest
  pub still : Still low high (length ns) due_low due_high
  pub here : AllByRecursion (λ i. named i ≡ sv.name) ns
  pub kept : Determined (seg sv due_low due_high g) NoName
  pub there : Fits (seg sv due_low due_high g) (map named rest)

abbrev pub GoSegments : (ℕ → Name) → SegmentValue → List ℕ → List ℕ → ℕ → Option ℕ → List ℕ → Type 0
GoSegments named sv list ns due_low due_high rest =
    (g : Forest) → Determined (segment sv g) NoName → Fits (segment sv g) (map named list)
    → GoingSegments named sv sv.card.min sv.card.max g list ns due_low due_high rest

-- where a walk over the occurrences of a group stands
pub record GoingGroups (named : ℕ → Name) (gv : GroupValue) (low : ℕ) (high : Option ℕ) (children g : Forest) (list : List ℕ) (ts : Trees) (due_low : ℕ) (due_high : Option ℕ) (rest : List ℕ) : Type 0 where
  pub front : List ℕ
  pub joined : list ≡ front ++ rest
  pub still : Still low high (count_of ts) due_low due_high
  pub here : AreTrees named ts children front
  pub kept : Determined (grp gv due_low due_high children g) NoName
  pub there : Fits (grp gv due_low due_high children g) (map named rest)

abbrev pub GoGroups : (ℕ → Name) → ℕ → Option ℕ → Forest → List ℕ → Trees → ℕ → Option ℕ → List ℕ → Type 0
GoGroups named low high children list ts due_low due_high rest =
    (g : Forest) (gv : GroupValue) → Determined (grp gv low high children g) NoName → Fits (grp gv low high children g) (map named list)
    → GoingGroups named gv low high children g list ts due_low due_high rest

-- where a walk over nodes stands: those of f were passed, those of h are to come
pub record GoingNodes (named : ℕ → Name) (f h g : Forest) (list : List ℕ) (t : Tree) (rest : List ℕ) : Type 0 where
  pub front : List ℕ
  pub joined : list ≡ front ++ rest
  pub here : IsTree named t f front
  pub kept : Determined (append h g) NoName
  pub there : Fits (append h g) (map named rest)

abbrev pub GoNodes : (ℕ → Name) → Forest → Forest → Forest → List ℕ → Tree → List ℕ → Type 0
GoNodes named all f h list t rest =
    (g : Forest) → Determined (append all g) NoName → Fits (append all g) (map named list) → GoingNodes named f h g list t rest

-- The rules on target segments and groups: cardinality (4), usage R (5), RE (8) and X (11).
use Rattle.std.specs.Prelude.{ℕ, suc, Bool, true, false, ◌==◌, if◌then◌else◌, List, [], ◌++◌, Option, Some, None}
use Rattle.gw_profile.specs.declared.shape.Usage.{Usage}
use Rattle.gw_profile.specs.declared.shape.Card.{Card}
use Rattle.gw_profile.specs.Shapes.{ProfileValue, Forest, nothing, segment, group}
use Rattle.gw_resolve.specs.Intervals.{Interval, never, sum, product}
use Rattle.gw_resolve.specs.Places.{Element, child, nodes_of_child, fields_of, count_at, count_if, within, within_if}
use Rattle.gw_resolve.specs.Resolved.{Items, no_items, segment_item, group_item, flat_item, first_child}
use Rattle.gw_leaves.specs.Counts.{chosen_count}
use Rattle.gw_leaves.specs.Leaves.{Sources}
use Rattle.gw_resolve.specs.Failures.{Mark, Failure, at_line}
use Rattle.gw_check.specs.Fields.{often_failures, segment_failures}

-- ---- the items of one node; items are in the order of the nodes

abbrev pub is_of : ℕ → Option ℕ → Bool
is_of j None = false
is_of j (Some k) = k == j

-- the items of node j, which stand first
abbrev pub its : ℕ → Items → Items
its j no_items = no_items
its j (segment_item s rest) = if s.child == j then segment_item s (its j rest) else no_items
its j (group_item g items rest) = if g.child == j then group_item g items (its j rest) else no_items
its j (flat_item f items rest) = if is_of j (first_child items) then flat_item f items (its j rest) else no_items

-- those of later nodes
abbrev pub beyond : ℕ → Items → Items
beyond j no_items = no_items
beyond j (segment_item s rest) = if s.child == j then beyond j rest else segment_item s rest
beyond j (group_item g items rest) = if g.child == j then beyond j rest else group_item g items rest
beyond j (flat_item f items rest) = if is_of j (first_child items) then beyond j rest else flat_item f items rest

-- what the first item gives, or node j within the group or map at this line, which should hold one
abbrev pub node_mark : ℕ → ℕ → Items → Mark
node_mark holder j no_items = record (at_line holder) { child = Some j }
node_mark holder j (segment_item s rest) = at_line s.line
node_mark holder j (group_item g items rest) = at_line g.line
node_mark holder j (flat_item f items rest) = at_line f.line

abbrev pub has_no_item : Items → Bool
has_no_item no_items = true
has_no_item items = false

-- ---- a node

-- how often its items come
abbrev pub items_count : List Element → Items → Interval
items_count scope no_items = never
items_count scope (segment_item s rest) = sum (chosen_count s.condition (count_if scope s.place)) (items_count scope rest)
items_count scope (group_item g items rest) = sum (chosen_count g.condition (count_at scope g.place)) (items_count scope rest)
items_count scope (flat_item f items rest) =
    sum (product (chosen_count f.condition (count_at scope f.place)) (items_count (within scope f.place) items)) (items_count scope rest)

abbrev pub node_failures : Mark → Usage → Card → Interval → Items → List Failure
node_failures mark usage card count items = often_failures mark count usage card (has_no_item items)

-- the nodes from number j on, at a level whose items are in the group, or the map, at this line
abbrev pub level_failures : List Element → ℕ → ℕ → Forest → Items → List Failure
level_failures scope holder j nothing items = []
level_failures scope holder j (segment s rest) items =
    node_failures (node_mark holder j (its j items)) s.usage s.card (items_count scope (its j items)) (its j items)
    ++ level_failures scope holder (suc j) rest (beyond j items)
level_failures scope holder j (group g nodes rest) items =
    node_failures (node_mark holder j (its j items)) g.usage g.card (items_count scope (its j items)) (its j items)
    ++ level_failures scope holder (suc j) rest (beyond j items)

-- ---- within the items

abbrev pub sources : ProfileValue → List Element → Sources
sources profile scope = record { profile = profile; scope = scope; current = None }

-- of what the items give, where the target's nodes of their level are these
abbrev pub items_failures : ProfileValue → ProfileValue → List Element → Forest → Items → List Failure
items_failures from to scope nodes no_items = []
items_failures from to scope nodes (segment_item s rest) =
    segment_failures (sources from (within_if scope s.place)) to s.line s.rules (fields_of (child nodes s.child))
    ++ items_failures from to scope nodes rest
items_failures from to scope nodes (group_item g items rest) =
    level_failures (within scope g.place) g.line 0 (nodes_of_child nodes g.child) items
    ++ items_failures from to (within scope g.place) (nodes_of_child nodes g.child) items
    ++ items_failures from to scope nodes rest
items_failures from to scope nodes (flat_item f items rest) =
    items_failures from to (within scope f.place) nodes items ++ items_failures from to scope nodes rest

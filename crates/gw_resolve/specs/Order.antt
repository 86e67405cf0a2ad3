-- The rule on the order of items (3): each gives a segment or a group of the target's level, in the order of the target's nodes.
use Rattle.std.specs.Prelude.{ℕ, Bool, true, false, ◌==◌, ◌&&◌, nat_le, Option, Some, None, unwrap_or}
use Rattle.gw_profile.specs.Shapes.{Forest}
use Rattle.gw_resolve.specs.Places.{Element, a_segment, a_group, child, nodes_of_child}
use Rattle.gw_resolve.specs.Resolved.{Items, no_items, segment_item, group_item, flat_item, first_child}

abbrev pub is_segment : Option Element → Bool
is_segment (Some (a_segment s)) = true
is_segment element = false

abbrev pub is_group : Option Element → Bool
is_group (Some (a_group g nodes)) = true
is_group element = false

abbrev pub follows : Option ℕ → ℕ → Bool
follows None j = false
follows (Some k) j = nat_le j k

abbrev mutual
  -- items for node j of these, as a flat has them
  pub all_for : Forest → ℕ → Items → Bool
  all_for nodes j no_items = true
  all_for nodes j (segment_item s rest) = s.child == j && is_segment (child nodes j) && all_for nodes j rest
  all_for nodes j (group_item g items rest) = g.child == j && is_group (child nodes j) && are_placed (nodes_of_child nodes j) 0 items && all_for nodes j rest
  all_for nodes j (flat_item f items rest) = all_for nodes j items && all_for nodes j rest

  -- items for the nodes from number j on, in their order
  pub are_placed : Forest → ℕ → Items → Bool
  are_placed nodes j no_items = true
  are_placed nodes j (segment_item s rest) = nat_le j s.child && is_segment (child nodes s.child) && are_placed nodes s.child rest
  are_placed nodes j (group_item g items rest) =
      nat_le j g.child && is_group (child nodes g.child) && are_placed (nodes_of_child nodes g.child) 0 items && are_placed nodes g.child rest
  are_placed nodes j (flat_item f items rest) =
      follows (first_child items) j && all_for nodes (unwrap_or (first_child items) j) items && are_placed nodes (unwrap_or (first_child items) j) rest

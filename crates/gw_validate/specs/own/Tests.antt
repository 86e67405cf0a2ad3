-- What can come next, as tests.
use Rattle.std.specs.Prelude.{ℕ, zero, suc, Bool, true, false, ◌&&◌, ◌||◌}
use Rattle.std.specs.Str.{bytes_eq}
use Rattle.gw_profile.specs.declared.node.Node.{Node, Seg, Group'}
use Rattle.gw_profile.specs.Shapes.{Forest, nothing, segment, group}
use Rattle.gw_profile.specs.Seen.{row_forest}
use Rattle.gw_validate.specs.own.Residual.{has_room}
use Rattle.gw_profile.specs.Deterministic.{Name}

abbrev pub is_zero : ℕ → Bool
is_zero zero = true
is_zero (suc n) = false

-- whether a list that fits can begin with the name
abbrev pub can_begin : Forest → Name → Bool
can_begin nothing x = false
can_begin (segment s rest) x = (has_room s.card.max && bytes_eq s.name x) || (is_zero s.card.min && can_begin rest x)
can_begin (group g nodes rest) x = (has_room g.card.max && can_begin nodes x) || (is_zero g.card.min && can_begin rest x)

abbrev pub node_begins : Node → Name → Bool
node_begins (Seg s) x = has_room s.card.max && bytes_eq s.name x
node_begins (Group' label usage card shape nodes) x = has_room card.max && can_begin (row_forest nodes) x

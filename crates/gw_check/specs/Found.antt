-- The failures of a level and of its items, as the program finds them.
use Rattle.std.specs.Prelude.{ℕ, List}
use Rattle.gw_profile.specs.declared.shape.Usage.{Usage}
use Rattle.gw_profile.specs.Shapes.{Forest}
use Rattle.gw_profile.specs.declared.node.Node.{Node, Seg, Group'}
use Rattle.gw_profile.specs.Nodes.{card_of}
use Rattle.std.specs.Global.{Vec}
use Rattle.gw_maplang.specs.Shapes.{TableValue}
use Rattle.gw_resolve.specs.declared.resolved.Item.{Item}
use Rattle.gw_resolve.specs.declared.failure.Failure as declared
use Rattle.gw_resolve.specs.Failures.{Mark}
use Rattle.gw_resolve.specs.Places.{Element}
use Rattle.gw_profile.specs.Seen.{profile_value}
use Rattle.gw_leaves.specs.Context.{ContextValue}
use Rattle.gw_check.specs.Reached.{reached_failures}
use Rattle.gw_check.specs.Levels.{node_failures, level_failures, items_failures, items_count}
use Rattle.gw_resolve.specs.Resolved.{no_items}
use Rattle.gw_resolve.specs.Seen.{Notes, with_item, all_items}

abbrev pub usage_of : Node → Usage
usage_of (Seg s) = s.usage
usage_of (Group' label usage card shape nodes) = usage

-- with the failures of one node; the map has these tables
abbrev pub NotesNode : List TableValue → List Element → Mark → Node → List Item → Vec declared.Failure → Vec declared.Failure → Type 0
NotesNode tables scope mark node is old new =
    Notes old new (node_failures mark (usage_of node) (card_of node) (items_count scope (all_items tables is)) (all_items tables is))

-- with those of the nodes from number j on
abbrev pub NotesLevel : List TableValue → List Element → ℕ → ℕ → Forest → List Item → Vec declared.Failure → Vec declared.Failure → Type 0
NotesLevel tables scope holder j nodes is old new = Notes old new (level_failures scope holder j nodes (all_items tables is))

-- with those of what the items give
abbrev pub NotesItems : ContextValue → List Element → Forest → List Item → Vec declared.Failure → Vec declared.Failure → Type 0
NotesItems s scope nodes is old new =
    Notes old new (items_failures (profile_value s.source) (profile_value s.target) scope nodes (all_items s.map.tables is))

abbrev pub NotesItem : ContextValue → List Element → Forest → Item → Vec declared.Failure → Vec declared.Failure → Type 0
NotesItem s scope nodes i old new =
    Notes old new (items_failures (profile_value s.source) (profile_value s.target) scope nodes (with_item s.map.tables i no_items))

-- with those of their conditions and alternatives
abbrev pub NotesReachedAll : ContextValue → List Element → List Item → Vec declared.Failure → Vec declared.Failure → Type 0
NotesReachedAll s scope is old new = Notes old new (reached_failures (profile_value s.source) scope (all_items s.map.tables is))

abbrev pub NotesReached : ContextValue → List Element → Item → Vec declared.Failure → Vec declared.Failure → Type 0
NotesReached s scope i old new = Notes old new (reached_failures (profile_value s.source) scope (with_item s.map.tables i no_items))

-- The map that makes of each message of a profile the message itself, as far as the profile lists it.
use Rattle.std.specs.Prelude.{◌≡◌, ℕ, false, if◌then◌else◌, List, [], ◌∷◌, Option, Some, None}
use Rattle.gw_profile.specs.declared.node.Node.{Node}
use Rattle.gw_profile.specs.declared.node.SegNode.{SegNode}
use Rattle.gw_profile.specs.Shapes as Profile
use Rattle.gw_profile.specs.Line.{is_forbidden}
use Rattle.gw_profile.specs.Seen.{segment_value, forest, node_forest}
use Rattle.gw_maplang.specs.declared.item.Item.{Item}
use Rattle.gw_maplang.specs.Shapes.{Copies, RuleValue, Walk, Items, nothing, segment, group, MapValue}
use Rattle.gw_maplang.specs.Seen.{with_item}

-- a copy of the field of this number; the segment stands under its label
abbrev pub copy_rule : List ℕ → ℕ → RuleValue
copy_rule label number = record { line = 0; field = number; making = Copies (record { path = label ∷ []; field = number; takes_first = false }) }

-- a copy of each field that isn't X
abbrev pub field_rules : List ℕ → List Profile.FieldValue → List RuleValue
field_rules label [] = []
field_rules label (f ∷ fields) =
    if is_forbidden (Some f.usage) then field_rules label fields
    else copy_rule label f.number ∷ field_rules label fields

-- all occurrences of the node of this label
abbrev pub walk_all : List ℕ → Walk
walk_all label = record { path = label ∷ []; condition = None }

-- each segment that isn't X from itself, and each group from itself
abbrev pub same_items : Profile.Forest → Items
same_items Profile.nothing = nothing
same_items (Profile.segment s rest) =
    if is_forbidden (Some s.usage) then same_items rest
    else segment (record { line = 0; label = s.label; source = Some (walk_all s.label); rules = field_rules s.label s.fields }) (same_items rest)
same_items (Profile.group g nodes rest) = group (record { line = 0; label = g.label; walk = walk_all g.label }) (same_items nodes) (same_items rest)

abbrev pub identity : Profile.ProfileValue → MapValue
identity p = record { name = p.name; source = p.name; target = p.name; line = 0; tables = []; items = same_items p.nodes; drops = [] }

-- ---- items of the program

abbrev pub with_some : Option Item → Items → Items
with_some None rest = rest
with_some (Some item) rest = with_item item rest

-- the item, if any, is what stands for the segment
abbrev pub IsSameSegment : Option Item → SegNode → Type 0
IsSameSegment item s = (rest : Profile.Forest) → with_some item (same_items rest) ≡ same_items (Profile.segment (segment_value s) rest)

-- it is what stands for the group of this label and these nodes
abbrev pub IsSameGroup : Option Item → List ℕ → List Node → Type 0
IsSameGroup item label nodes =
    (rest : Items) → with_some item rest ≡ group (record { line = 0; label = label; walk = walk_all label }) (same_items (forest nodes)) rest

-- the item, if any, is what stands for the node
abbrev pub IsSame : Option Item → Node → Type 0
IsSame item node = (rest : Profile.Forest) → with_some item (same_items rest) ≡ same_items (node_forest node rest)

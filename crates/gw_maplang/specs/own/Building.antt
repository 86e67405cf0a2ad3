-- How the parts of a map stand for the lines that they were built from.
use Rattle.std.specs.Prelude.{◌≡◌, ℕ, List, ◌∷◌, Option, map, reverse}
use Rattle.std.specs.Global.{Vec}
use Rattle.gw_maplang.specs.declared.build.Below.{Below}
use Rattle.gw_maplang.specs.declared.build.Head as heads
use Rattle.gw_maplang.specs.declared.item.Item.{Item}
use Rattle.gw_maplang.specs.Shapes.{Walk, RuleValue, Items, segment}
use Rattle.gw_maplang.specs.Line.{Line}
use Rattle.gw_maplang.specs.Value.{Parts, Levels, Head, parts, levels, drops, each_item}
use Rattle.gw_maplang.specs.Seen.{alternative, leaf_value, rule, dropped, with_item, all_items}

-- lists that were built from their last item on
abbrev pub parts_of : Below → Parts
parts_of b = record { others = map alternative (reverse b.others.items); leaves = map leaf_value (reverse b.leaves.items); rules = map rule (reverse b.rules.items) }

abbrev pub all_behind : List (Vec Item) → List Items
all_behind behind = reverse (map (λ v. all_items (reverse v.items)) behind)

abbrev pub levels_of : Below → Levels
levels_of b = record { here = all_items (reverse b.items.items); behind = all_behind b.behind.items }

-- what these lines spell
pub record Stands (below : Below) (lines : List Line) : Type 0 where
  pub has_parts : parts_of below ≡ parts lines
  pub has_levels : levels_of below ≡ levels lines
  pub has_drops : map dropped (reverse below.drops.items) ≡ drops lines

-- this line was put above the others
abbrev pub Grows : Below → Below → Line → Type 0
Grows old new line = (lines : List Line) → Stands old lines → Stands new (line ∷ lines)

-- the item is a segment of these rules
abbrev pub IsSegment : Item → ℕ → List ℕ → Option Walk → List RuleValue → Type 0
IsSegment item at label source rules = (rest : Items) → with_item item rest ≡ segment (record { line = at; label = label; source = source; rules = rules }) rest

-- the item is a group or flat of these items
abbrev pub IsEach : Item → ℕ → Option (List ℕ) → Walk → List Item → Type 0
IsEach item at label walk items = (rest : Items) → with_item item rest ≡ each_item at label walk (all_items items) rest

abbrev pub head_value : heads.Head → Head
head_value h = record { line = h.line; name = h.name.items; source = h.source.items; target = h.target.items }

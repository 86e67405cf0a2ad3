-- The items of a level one by one, as the program counts them.
use Rattle.std.specs.Prelude.{◌≡◌, ℕ, ◌≤◌, List, Option, length, take, drop}
use Rattle.gw_maplang.specs.Shapes.{TableValue}
use Rattle.gw_resolve.specs.declared.resolved.Item.{Item}
use Rattle.gw_resolve.specs.declared.resolved.FieldCondition.{FieldCondition}
use Rattle.gw_resolve.specs.Intervals.{Interval, never, product}
use Rattle.gw_resolve.specs.Places.{Element, count_at, count_if, within}
use Rattle.gw_resolve.specs.Resolved.{Items, no_items, segment_item, group_item, flat_item}
use Rattle.gw_leaves.specs.Counts.{chosen_count}
use Rattle.gw_check.specs.Levels.{its, beyond, items_count}
use Rattle.gw_resolve.specs.Seen.{interval, saturated, some_condition, with_item, all_items}
use Rattle.gw_resolve.specs.declared.interval.Interval as declared

-- how often the first item comes
abbrev pub first_count : List Element → Items → Interval
first_count scope no_items = never
first_count scope (segment_item s rest) = chosen_count s.condition (count_if scope s.place)
first_count scope (group_item g items rest) = chosen_count g.condition (count_at scope g.place)
first_count scope (flat_item f items rest) = product (chosen_count f.condition (count_at scope f.place)) (items_count (within scope f.place) items)

-- the program's count of those that meet a condition, if there is one, by its count of all
abbrev pub CountsChosen : Option FieldCondition → declared.Interval → declared.Interval → Type 0
CountsChosen asked count chosen =
    (full : Interval) → interval count ≡ saturated full → interval chosen ≡ saturated (chosen_count (some_condition asked) full)

-- the program's count of one item, and of many, whatever the map's tables are
abbrev pub CountsOne : List Element → Item → declared.Interval → Type 0
CountsOne scope i c = (tables : List TableValue) → interval c ≡ saturated (first_count scope (with_item tables i no_items))

abbrev pub CountsAll : List Element → List Item → declared.Interval → Type 0
CountsAll scope is c = (tables : List TableValue) → interval c ≡ saturated (items_count scope (all_items tables is))

-- the items of node j are the first n, whatever the map's tables are
pub record Leads (j : ℕ) (is : List Item) (n : ℕ) : Type 0 where
  pub within : n ≤ length is
  pub these : (tables : List TableValue) → all_items tables (take n is) ≡ its j (all_items tables is)
  pub others : (tables : List TableValue) → all_items tables (drop n is) ≡ beyond j (all_items tables is)

-- The nodes of a level, one after the other.
use Rattle.std.proofs.Common.{◌≡◌, ℕ, suc, ◌+◌, ◌<◌, List, ◌++◌, length, take, drop, get_or, refl, sym, ap, ◌∙◌, arith}
use Rattle.gw_profile.specs.declared.node.Node.{Node, Seg, Group'}
use Rattle.std.specs.Global.{Vec}
use Rattle.gw_profile.specs.Nodes.{card_of}
use Rattle.gw_profile.specs.Shapes.{Forest}
use Rattle.gw_profile.specs.Seen.{forest, node_forest}
use Rattle.gw_maplang.specs.Shapes.{TableValue}
use Rattle.gw_resolve.specs.declared.resolved.Item.{Item}
use Rattle.gw_resolve.specs.declared.failure.Failure as declared
use Rattle.gw_resolve.specs.Places.{Element}
use Rattle.gw_resolve.specs.Resolved.{Items}
use Rattle.gw_check.specs.Levels.{its, beyond, node_mark, node_failures, level_failures, items_count}
use Rattle.gw_resolve.specs.Failures.{Mark, Failure}
use Rattle.gw_check.specs.own.ItemByItem.{Leads}
use Rattle.gw_resolve.specs.Seen.{failures, all_items}
use Rattle.gw_check.specs.Found.{NotesNode, usage_of}
use Rattle.gw_resolve.proofs.Noting.{front, added_one}

one_node : (scope : List Element) (holder j : ℕ) (n : Node) (rest : Forest) (is : Items) → level_failures scope holder j (node_forest n rest) is ≡ node_failures (node_mark holder j (its j is)) (usage_of n) (card_of n) (items_count scope (its j is)) (its j is) ++ level_failures scope holder (suc j) rest (beyond j is)
one_node scope holder j (Seg s) rest is = refl
one_node scope holder j (Group' label usage card shape inner) rest is = refl

-- of node j, whose items are the first that are left, and of those behind it
pub level_more : (tables : List TableValue) (scope : List Element) (holder : ℕ) (nodes : List Node) (j count : ℕ) (m : Mark) (n : Node) (whole : List Failure) (left these later : List Item) (old new : Vec declared.Failure) → j < length nodes → n ≡ get_or nodes j n
    → Leads j left count → these ≡ take count left → later ≡ drop count left → m ≡ node_mark holder j (all_items tables these) → NotesNode tables scope m n these old new
    → whole ≡ failures old.items ++ level_failures scope holder j (forest (drop j nodes)) (all_items tables left)
    → whole ≡ failures new.items ++ level_failures scope holder (j + 1) (forest (drop (j + 1) nodes)) (all_items tables later)
level_more tables scope holder nodes j count m n whole left these later old new low at leads here behind marked notes h =
    let is = all_items tables left in
    let rest = forest (drop (j + 1) nodes) in
    let next : suc j ≡ j + 1 = omega arith in
    h
    ∙ added_one (failures old.items) (failures new.items) (node_failures (node_mark holder j (its j is)) (usage_of n) (card_of n) (items_count scope (its j is)) (its j is)) (level_failures scope holder (suc j) rest (beyond j is)) (level_failures scope holder j (forest (drop j nodes)) is)
    (ap (λ f. level_failures scope holder j (forest f) is) (front nodes j n low at) ∙ one_node scope holder j n rest is)
    (notes
    ∙ ap (λ k. failures old.items ++ node_failures k (usage_of n) (card_of n) (items_count scope (all_items tables these)) (all_items tables these)) marked
    ∙ ap (λ (i : Items). failures old.items ++ node_failures (node_mark holder j i) (usage_of n) (card_of n) (items_count scope i) i) (ap (all_items tables) here ∙ leads.these tables))
    ∙ ap (λ i. failures new.items ++ level_failures scope holder (suc j) rest i) (sym (ap (all_items tables) behind ∙ leads.others tables))
    ∙ ap (λ k. failures new.items ++ level_failures scope holder k rest (all_items tables later)) next

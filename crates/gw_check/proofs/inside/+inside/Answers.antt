use Rattle.std.proofs.Common.{sym, ap, ◌∙◌}
use Rattle.gw_profile.specs.Seen.{forest, profile_value}
use Rattle.gw_resolve.specs.Seen.{scope}
use Rattle.std.proofs.lemmas.Result.{on_ok_weaker}
use Rattle.gw_check.proofs.Within.{group_noted, flat_noted, level_same}
use Rattle.gw_check.proofs.inside.+inside.Goals as goal

pub check_item-returns-in_ok-check_level-in-Group : goal.check_item-returns-in_ok-check_level-in-Group
check_item-returns-in_ok-check_level-in-Group t c =
    let tables = c.args.context.now.map.tables in
    let inner = scope c.deref-in-Group-3.result.now in
    on_ok_weaker c.check_items.result
    (group_noted tables (profile_value c.args.context.now.source) (profile_value c.args.context.now.target) (scope c.args.scope.now) inner (forest c.args.nodes.now) (forest c.nodes_within-below.result.now) c.args.item.now c.in-Group.group c.deref-in-Group-4.result.now
    c.args.found.now c.check_level.new.found c.check_items.new.found c.in-Group.is c.deref-in-Group-4.ensures.value (ap scope c.deref-in-Group-3.ensures.value ∙ c.in_ok-inner-in-Group.ensures) c.nodes_within-below.ensures
    (level_same c.deref-in-Group.result.now c.deref-in-Group-3.result.now c.deref-in-Group-2.result.now c.deref-in-Group-4.result.now (c.deref-in-Group.ensures.value ∙ sym c.deref-in-Group-3.ensures.value) (c.deref-in-Group-2.ensures.value ∙ sym c.deref-in-Group-4.ensures.value) tables c.in-Group.group.line (forest c.nodes_within-below.result.now) c.args.found.now c.check_level.new.found (c.in_ok-check_level-in-Group.ensures tables)))
    c.check_items.ensures

pub check_item-returns-in_ok-inner-in-Flat : goal.check_item-returns-in_ok-inner-in-Flat
check_item-returns-in_ok-inner-in-Flat t c =
    on_ok_weaker c.check_items-in-Flat.result
    (flat_noted c.args.context.now.map.tables (profile_value c.args.context.now.source) (profile_value c.args.context.now.target) (scope c.args.scope.now) (scope c.deref-in-Flat.result.now) (forest c.args.nodes.now) c.args.item.now c.in-Flat.flat c.deref-in-Flat-2.result.now
    c.args.found.now c.check_items-in-Flat.new.found c.in-Flat.is c.deref-in-Flat-2.ensures.value (ap scope c.deref-in-Flat.ensures.value ∙ c.in_ok-inner-in-Flat.ensures))
    c.check_items-in-Flat.ensures

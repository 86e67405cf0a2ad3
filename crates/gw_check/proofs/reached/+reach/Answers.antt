use Rattle.std.proofs.Common.{ap, ◌∙◌}
use Rattle.std.proofs.lemmas.Result.{on_ok_weaker}
use Rattle.gw_profile.specs.Seen.{profile_value}
use Rattle.gw_resolve.specs.Seen.{scope}
use Rattle.gw_check.proofs.Reaching.{group_noted, flat_noted}
use Rattle.gw_check.proofs.reached.+reach.Goals as goal

pub reach_item-returns-in_ok-check_asked-in-Group : goal.reach_item-returns-in_ok-check_asked-in-Group
reach_item-returns-in_ok-check_asked-in-Group t c =
    on_ok_weaker c.reach_items.result
    (group_noted c.args.context.now.map.tables (profile_value c.args.context.now.source) (scope c.args.scope.now) c.args.item.now c.deref-in-Group-3.result.now
    (scope c.deref-in-Group.result.now) (scope c.deref-in-Group-2.result.now) c.args.found.now c.check_asked-in-Group.new.found c.reach_items.new.found
    c.in-Group.group c.in-Group.is c.deref-in-Group-3.ensures.value (ap scope c.deref-in-Group.ensures.value ∙ c.in_ok-inner-in-Group.ensures)
    (ap scope c.deref-in-Group-2.ensures.value ∙ c.in_ok-inner-in-Group.ensures) c.in_ok-check_asked-in-Group.ensures)
    c.reach_items.ensures

pub reach_item-returns-in_ok-check_asked-in-Flat : goal.reach_item-returns-in_ok-check_asked-in-Flat
reach_item-returns-in_ok-check_asked-in-Flat t c =
    on_ok_weaker c.reach_items-in-Flat.result
    (flat_noted c.args.context.now.map.tables (profile_value c.args.context.now.source) (scope c.args.scope.now) c.args.item.now c.deref-in-Flat-3.result.now
    (scope c.deref-in-Flat.result.now) (scope c.deref-in-Flat-2.result.now) c.args.found.now c.check_asked-in-Flat.new.found c.reach_items-in-Flat.new.found
    c.in-Flat.flat c.in-Flat.is c.deref-in-Flat-3.ensures.value (ap scope c.deref-in-Flat.ensures.value ∙ c.in_ok-inner-in-Flat.ensures)
    (ap scope c.deref-in-Flat-2.ensures.value ∙ c.in_ok-inner-in-Flat.ensures) c.in_ok-check_asked-in-Flat.ensures)
    c.reach_items-in-Flat.ensures

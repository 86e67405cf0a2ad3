use Rattle.std.specs.Arc.{arc_value}
use Rattle.gw_check.proofs.rules.examine.Goals as goal

pub examine_by-requires : goal.examine_by-requires
examine_by-requires c = c.new.ensures (arc_value c.args.source) (arc_value c.args.target)

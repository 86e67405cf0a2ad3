use Rattle.std.specs.Arc.{arc_value}
use Rattle.gw_check.proofs.between.Between.new.Goals as goal

pub invariant_of-result : goal.invariant_of-result
invariant_of-result c = c.new.ensures (arc_value c.args.source) (arc_value c.args.target)

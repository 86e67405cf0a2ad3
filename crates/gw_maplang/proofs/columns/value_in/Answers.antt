use Rattle.std.proofs.Common.{◌∙◌}
use Rattle.gw_maplang.proofs.Columned.{value_none, value_some}
use Rattle.gw_maplang.proofs.columns.value_in.Goals as goal

pub returns-in-None : goal.returns-in-None
returns-in-None c = value_none c.args.k c.args.values.now c.in-None.ensures.lookup.3

pub returns-in-Some : goal.returns-in-Some
returns-in-Some c = c.as_slice.ensures.value ∙ value_some c.args.k c.args.values.now c.in-Some.value.now c.in-Some.ensures.lookup.3.0 c.in-Some.ensures.lookup.1

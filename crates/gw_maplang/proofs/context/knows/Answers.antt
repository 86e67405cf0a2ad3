use Rattle.std.proofs.Common.{◌∙◌}
use Rattle.gw_maplang.proofs.Tables.{wide_known}
use Rattle.gw_maplang.proofs.context.knows.Goals as goal

pub returns : goal.returns
returns c = c.contains_key.ensures ∙ wide_known c.args.name.now c.args.tables.now.entries

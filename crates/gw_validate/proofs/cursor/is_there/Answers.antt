use Rattle.std.proofs.Common.{sym, ◌∙◌}
use Rattle.gw_validate.proofs.Nexts.{no_field, each_some}
use Rattle.gw_validate.proofs.cursor.is_there.Goals as goal

pub returns-clause-no : goal.returns-clause-no
returns-clause-no c = λ e. no_field c.args.segment.now.at c.args.field c.args.first c.requires (sym c.is_some.ensures ∙ e)

pub returns-clause-some : goal.returns-clause-some
returns-clause-some c = each_some c.args.segment.now.at c.args.field c.args.first c.requires

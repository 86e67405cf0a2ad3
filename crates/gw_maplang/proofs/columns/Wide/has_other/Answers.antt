use Rattle.std.proofs.Common.{◌∙◌, ap}
use Rattle.gw_maplang.specs.Columns.{WideRows}
use Rattle.gw_maplang.specs.Fault.{is_said}
use Rattle.gw_maplang.proofs.Tables.{said_is}
use Rattle.gw_maplang.proofs.columns.Wide.has_other.Goals as goal

pub returns : goal.returns
returns c = c.is_some.ensures ∙ said_is c.self.inside.other ∙ ap (λ (t : WideRows). is_said t.other) c.self.view_is

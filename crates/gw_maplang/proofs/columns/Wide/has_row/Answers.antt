use Rattle.std.proofs.Common.{◌∙◌, ap}
use Rattle.gw_maplang.specs.Columns.{WideRows}
use Rattle.gw_maplang.specs.Fault.{is_among, wide_firsts}
use Rattle.gw_maplang.proofs.Tables.{wide_row_known}
use Rattle.gw_maplang.proofs.columns.Wide.has_row.Goals as goal

pub returns : goal.returns
returns c = c.contains_key.ensures ∙ wide_row_known c.args.value.now c.self.inside.rows.entries ∙ ap (λ (t : WideRows). is_among c.args.value.now (wide_firsts t.rows)) c.self.view_is

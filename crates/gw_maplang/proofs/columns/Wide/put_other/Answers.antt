use Rattle.std.proofs.Common.{◌∙◌, ap, length, Some}
use Rattle.gw_maplang.specs.Columns.{WideRows, widened}
use Rattle.gw_maplang.specs.Seen.{now_all}
use Rattle.gw_maplang.proofs.Tables.{many_now}
use Rattle.gw_maplang.proofs.columns.Wide.put_other.Goals as goal

pub returns : goal.returns
returns c =
    let width = c.widened-width.ensures ∙ ap (widened c.self.inside.width) (many_now c.args.values.now) ∙ ap (λ (t : WideRows). widened t.width (length (now_all c.args.values.now))) c.self.view_is in
    λ i. record { width = width i; rows = (c.self.view_is i).rows; other = Some (c.in_ok-values.ensures i) }

use Rattle.std.proofs.Common.{◌∙◌, ap, length, List, ℕ, [], ◌∷◌, ◌++◌, map}
use Rattle.gw_maplang.specs.Columns.{WideRows, widened}
use Rattle.gw_maplang.specs.Fault.{is_among, wide_firsts}
use Rattle.gw_maplang.specs.Seen.{wide_row, now_all}
use Rattle.gw_maplang.proofs.Tables.{wide_row_put, many_now}
use Rattle.gw_maplang.proofs.columns.Wide.put_row.Goals as goal

pub returns : goal.returns
returns c =
    let fresh = ap (λ (k : List ℕ). is_among k (wide_firsts (map wide_row c.self.inside.rows.entries))) c.in_ok-first.ensures.items
    ∙ ap (λ (t : WideRows). is_among c.args.first.now (wide_firsts t.rows)) c.self.view_is ∙ c.requires in
    let put = ap (map wide_row) c.in_ok-insert.ensures.entries ∙ wide_row_put c.self.inside.rows.entries c.in_ok-first.first c.in_ok-seconds.seconds fresh
    ∙ (λ i. map wide_row c.self.inside.rows.entries ++ record { first = c.in_ok-first.ensures.items i; seconds = c.in_ok-seconds.ensures i } ∷ [])
    ∙ ap (λ (t : WideRows). t.rows ++ record { first = c.args.first.now; seconds = now_all c.args.seconds.now } ∷ []) c.self.view_is in
    let width = c.widened-width.ensures ∙ ap (widened c.self.inside.width) (many_now c.args.seconds.now) ∙ ap (λ (t : WideRows). widened t.width (length (now_all c.args.seconds.now))) c.self.view_is in
    λ i. record { width = width i; rows = put i; other = (c.self.view_is i).other }

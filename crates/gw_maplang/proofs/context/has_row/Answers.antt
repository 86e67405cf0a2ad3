use Rattle.std.proofs.Common.{◌∙◌, ap, sym}
use Rattle.gw_maplang.specs.Columns.{WideTable}
use Rattle.gw_maplang.specs.Fault.{is_among, wide_firsts}
use Rattle.gw_maplang.proofs.Tables.{last_is}
use Rattle.gw_maplang.proofs.context.has_row.Goals as goal

pub returns-in-Some : goal.returns-in-Some
returns-in-Some c =
    c.has_row.ensures
    ∙ ap (λ (t : WideTable). is_among c.args.first.now (wide_firsts t.rows)) (last_is c.args.tables.now.entries (c.in-Some.field-0-0.now, c.in-Some.last.now) (sym c.in-Some.ensures.entry))

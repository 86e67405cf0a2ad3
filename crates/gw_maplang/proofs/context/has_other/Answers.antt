use Rattle.std.proofs.Common.{◌∙◌, ap, sym}
use Rattle.gw_maplang.specs.Columns.{WideTable}
use Rattle.gw_maplang.specs.Fault.{is_said}
use Rattle.gw_maplang.proofs.Tables.{last_is}
use Rattle.gw_maplang.proofs.context.has_other.Goals as goal

pub returns-in-Some : goal.returns-in-Some
returns-in-Some c =
    c.has_other.ensures
    ∙ ap (λ (t : WideTable). is_said t.other) (last_is c.args.tables.now.entries (c.in-Some.field-0-0.now, c.in-Some.last.now) (sym c.in-Some.ensures.entry))

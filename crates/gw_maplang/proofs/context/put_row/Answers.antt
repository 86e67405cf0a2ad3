use Rattle.std.proofs.Common.{◌∙◌, ap, sym}
use Rattle.gw_maplang.specs.Fault.{is_among, with_row, wide_firsts}
use Rattle.gw_maplang.specs.Seen.{now_all}
use Rattle.gw_maplang.proofs.Tables.{last_value_is, last_set_where}
use Rattle.gw_maplang.proofs.context.put_row.Goals as goal

pub put_row-requires : goal.put_row-requires
put_row-requires c =
    ap (λ rows. is_among c.args.first.now (wide_firsts rows)) (last_value_is c.args.tables.now.entries c.in-Some.last.now (sym c.in-Some.ensures.value)) ∙ c.requires

pub returns-in-Some : goal.returns-in-Some
returns-in-Some c =
    last_set_where c.args.tables.now.entries c.in-Some.last.now c.put_row.new.self (with_row (record { first = c.args.first.now; seconds = now_all c.args.seconds.now }))
    c.put_row.result (sym c.in-Some.ensures.value) _ c.put_row.ensures (λ e k i. record { name = k.items; width = (e i).width; rows = (e i).rows; other = (e i).other })

use Rattle.std.proofs.Common.{sym}
use Rattle.gw_maplang.specs.Fault.{with_other}
use Rattle.gw_maplang.specs.Seen.{now_all}
use Rattle.gw_maplang.proofs.Tables.{last_set_where}
use Rattle.gw_maplang.proofs.context.put_other.Goals as goal

pub returns-in-Some : goal.returns-in-Some
returns-in-Some c =
    last_set_where c.args.tables.now.entries c.in-Some.last.now c.put_other.new.self (with_other (now_all c.args.values.now))
    c.put_other.result (sym c.in-Some.ensures.value) _ c.put_other.ensures (λ e k i. record { name = k.items; width = (e i).width; rows = (e i).rows; other = (e i).other })

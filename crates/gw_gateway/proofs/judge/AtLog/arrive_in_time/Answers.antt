use Rattle.std.specs.Prelude.{Some}
use Rattle.gw_gateway.proofs.Arriving.{unsettled_of}
use Rattle.gw_gateway.proofs.judge.AtLog.arrive_in_time.Goals as goal

pub returns-clause-ok : goal.returns-clause-ok
returns-clause-ok g c =
    unsettled_of g.J.Naming.before c.args.self.now.waiting c.tries.self.waiting c.refuse.new.self.waiting c.tries.invariant.on (Some c.args.message) c.refuse.result
    c.refuse.ensures.on c.refuse.ensures.said

use Rattle.std.proofs.Common.{ap}
use Rattle.std.specs.Prelude.{Some}
use Rattle.gw_due.proofs.Numbers.{one_more, at_last}
use Rattle.gw_due.proofs.reading.numbers.Goals as goal

pub loop-preserved : goal.loop-preserved
loop-preserved c =
    rw (c.in_ok-push.ensures.items, c.u32_of.ensures, c.split_at.ensures.front, c.split_at.ensures.back)
    (one_more c.loop.to.items c.args.count c.loop.counter c.loop.rest.now _ c.loop-test.true c.loop.invariant)

pub returns : goal.returns
returns c = ap Some (at_last c.loop.to.items c.args.count c.loop.counter c.loop.rest.now _ c.loop-test.false c.loop.invariant)

use Rattle.std.proofs.Common.{rules}
use Rattle.gw_mllp.proofs.Reaching.{ends_at_front, ends_at_first, stays_open}
use Rattle.gw_mllp.proofs.reach.end_of.Goals as goal

pub returns-then-is_ended_by-clause-ends : goal.returns-then-is_ended_by-clause-ends
returns-then-is_ended_by-clause-ends c = ends_at_front c.args.content.now c.args.bytes.now (c.is_ended_by.ensures.0 c.if-is_ended_by.true)

pub returns-in-None-clause-open : goal.returns-in-None-clause-open
returns-in-None-clause-open c = stays_open c.args.content.now c.args.bytes.now c.in-None.ensures (λ s. absurd (search rules))

pub returns-in-Some-clause-ends : goal.returns-in-Some-clause-ends
returns-in-Some-clause-ends c = ends_at_first c.args.content.now c.args.bytes.now c.in-Some.at c.in-Some.ensures (λ s. absurd (search rules))

use Rattle.gw_gateway.proofs.Arriving.{settles_unsettled, stays_so, unsettled_of}
use Rattle.gw_gateway.proofs.Joining.{stays}
use Rattle.gw_gateway.proofs.judge.AtLogJudge.judge.Goals as goal

pub returns-in_default-clause-settled : goal.returns-in_default-clause-settled
returns-in_default-clause-settled g c =
    unsettled_of g.J.Naming.before c.args.self.now.waiting c.args.self.now.waiting c.refuse.new.self.waiting (stays c.args.self.now.waiting) c.args.what c.refuse.result
    c.refuse.ensures.on c.refuse.ensures.said

pub returns-then-not-has_room-clause-settled : goal.returns-then-not-has_room-clause-settled
returns-then-not-has_room-clause-settled g c =
    settles_unsettled g.J.Naming.before c.args.self.now.waiting c.outcome.new.self.waiting c.args.what _ _ (stays_so _ _ c.outcome.ensures.same) c.outcome.ensures.reply

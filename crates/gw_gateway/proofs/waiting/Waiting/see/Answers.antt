use Rattle.gw_gateway.proofs.Joining.{sees_more}
use Rattle.gw_gateway.proofs.waiting.Waiting.see.Goals as goal

pub invariant_of-self : goal.invariant_of-self
invariant_of-self g c = sees_more g.J.Naming.before c.self.inside.front c.self.inside.last c.self.inside.waits _ c.self.invariant c.longer.ensures.seen

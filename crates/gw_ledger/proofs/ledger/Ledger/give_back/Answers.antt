use Rattle.gw_ledger.proofs.Desks.{right_back}
use Rattle.gw_ledger.proofs.ledger.Ledger.give_back.Goals as goal

pub invariant_of-self : goal.invariant_of-self
invariant_of-self g c = (
  right_back g.R.Rules.routes g.J.Naming.before c.self.inside.desk c.give_back.new.self c.self.inside.state c.args.done.storage c.args.done.given c.self.invariant.0 c.give_back.ensures.back,
  c.self.invariant.1,
  c.self.invariant.2,
  c.self.invariant.3,
  c.self.invariant.4,
)

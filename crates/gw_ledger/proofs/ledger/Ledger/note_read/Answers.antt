use Rattle.gw_ledger.proofs.Desks.{right_noted}
use Rattle.gw_ledger.proofs.ledger.Ledger.note_read.Goals as goal

pub invariant_of-self : goal.invariant_of-self
invariant_of-self g c = (
  right_noted g.R.Rules.routes g.J.Naming.before c.self.inside.desk c.note.new.self c.self.inside.state c.args.place c.args.bytes.now c.note.result c.self.invariant.0 c.note.ensures.noted c.note.ensures.failed,
  c.self.invariant.1,
  c.self.invariant.2,
  c.self.invariant.3,
  c.self.invariant.4,
)

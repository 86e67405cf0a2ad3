use Rattle.std.proofs.Common.{◌∙◌, arith}
use Rattle.std.specs.Prelude.{⊤}
use Rattle.gw_ledger.proofs.Counting.{first_number}
use Rattle.gw_ledger.proofs.Ledging.{next_is, state_opened}
use Rattle.gw_ledger.proofs.ledger.Ledger.open.Goals as goal

pub open-requires-clause-count : goal.open-requires-clause-count
open-requires-clause-count g c = c.next-count.ensures ∙ next_is g.R.Rules.routes ⊤ g.J.Naming.before c.args.state c.requires.state

pub invariant_of-result : goal.invariant_of-result
invariant_of-result g c = (
  λ _. state_opened g.R.Rules.routes g.J.Naming.before c.open.result.history c.args.state c.open.ensures.history c.requires.state,
  c.requires.tells,
  first_number c.args.state.last c.args.state.margin c.max.result (let max = c.max.ensures in let margin = c.margin-margin.ensures in omega (arith, max, margin)) c.requires.numbers,
  tt,
  c.requires.spares,
)

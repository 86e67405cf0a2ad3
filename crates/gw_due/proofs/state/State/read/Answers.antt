use Rattle.std.proofs.Common.{ap, subst, ◌∙◌, arith}
use Rattle.gw_due.specs.own.Reading.{Gives}
use Rattle.gw_due.specs.own.StateReading.{state_in}
use Rattle.gw_due.proofs.StateForms.{is_found, is_refused, state_again}
use Rattle.gw_due.proofs.state.State.read.Goals as goal

pub returns-clause-found : goal.returns-clause-found
returns-clause-found c = is_found c.args.bytes.now c.state_in.result (record { each = λ i. omega (arith, c.type_inv.bytes i) }) c.state_in.ensures

pub returns-clause-only : goal.returns-clause-only
returns-clause-only c = λ s fits is. subst (λ r. Gives (λ s. s) c.state_in.result r) (ap state_in is ∙ state_again s fits) c.state_in.ensures

pub returns-clause-refused : goal.returns-clause-refused
returns-clause-refused c = is_refused c.state_in.result c.args.bytes.now c.state_in.ensures

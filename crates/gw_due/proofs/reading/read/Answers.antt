use Rattle.std.proofs.Common.{ap, subst, ◌∙◌, arith}
use Rattle.gw_due.specs.Views as view
use Rattle.gw_due.specs.own.Reading.{Gives, entry_of}
use Rattle.gw_due.proofs.EventForms.{is_found, is_refused, entry_again}
use Rattle.gw_due.proofs.reading.read.Goals as goal

pub returns-clause-found : goal.returns-clause-found
returns-clause-found c = is_found view.entry c.args.bytes.now c.entry_of.result (record { each = λ i. omega (arith, c.type_inv.bytes i) }) c.entry_of.ensures

pub returns-clause-only : goal.returns-clause-only
returns-clause-only c = λ e fits is. subst (λ r. Gives view.entry c.entry_of.result r) (ap entry_of is ∙ entry_again e fits) c.entry_of.ensures

pub returns-clause-refused : goal.returns-clause-refused
returns-clause-refused c = is_refused view.entry c.entry_of.result c.args.bytes.now c.entry_of.ensures

use Rattle.gw_page.specs.Rows.{Extends}
use Rattle.gw_page.proofs.samples.put_answers.Given as goal

abbrev pub invariant-loop-receiver : goal.invariant-loop-receiver
invariant-loop-receiver l = Extends l.initial.out.items l.out.items

use Rattle.gw_page.specs.Rows.{Extends}
use Rattle.gw_page.proofs.samples.put_codes.Given as goal

abbrev pub invariant-loop-refused : goal.invariant-loop-refused
invariant-loop-refused l = Extends l.initial.out.items l.out.items

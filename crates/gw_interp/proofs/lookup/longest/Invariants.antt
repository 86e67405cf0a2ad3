use Rattle.std.proofs.Common.{◌≡◌, drop}
use Rattle.gw_interp.specs.Meaning.{longest}
use Rattle.gw_interp.proofs.lookup.longest.Given as goal

abbrev pub invariant-loop-count : goal.invariant-loop-count
invariant-loop-count l = longest l.digits l.counts l.text ≡ longest l.digits (drop l.count-index l.counts) l.text

use Rattle.std.proofs.Common.{◌≡◌, drop}
use Rattle.gw_audit.specs.Settled.{last_end}
use Rattle.gw_audit.proofs.parts.last_of.Given as goal

abbrev pub invariant-loop-part : goal.invariant-loop-part
invariant-loop-part l = last_end 0 l.parts ≡ last_end l.last (drop l.part-index l.parts)

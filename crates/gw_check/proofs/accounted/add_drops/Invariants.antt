use Rattle.std.proofs.Common.{take, map}
use Rattle.gw_check.specs.Reads.{drops_field, drops_element}
use Rattle.gw_check.specs.Collected.{Gains}
use Rattle.gw_resolve.specs.Seen.{left_out}
use Rattle.gw_check.proofs.accounted.add_drops.Given as goal

abbrev pub invariant-loop-dropped : goal.invariant-loop-dropped
invariant-loop-dropped l = Gains l.initial.known l.known (drops_field (map left_out (take l.dropped-index l.drops))) (drops_element (map left_out (take l.dropped-index l.drops)))

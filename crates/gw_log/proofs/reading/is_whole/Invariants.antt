use Rattle.std.proofs.Common.{length}
use Rattle.gw_log.specs.File.{IsWhole}
use Rattle.gw_log.proofs.reading.is_whole.Given as goal

abbrev pub invariant-loop-next : goal.invariant-loop-next
invariant-loop-next l = record { there : IsWhole l.rest → IsWhole l.bytes; back : IsWhole l.bytes → IsWhole l.rest }

abbrev pub decreases-loop-next : goal.decreases-loop-next
decreases-loop-next l = length l.rest

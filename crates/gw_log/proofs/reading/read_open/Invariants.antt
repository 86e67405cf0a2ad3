use Rattle.std.proofs.Common.{◌≡◌, ◌≤◌, ◌++◌, ℕ, List, length}
use Rattle.gw_log.specs.own.Steps.{IsReadTo}
use Rattle.gw_log.specs.State.{records_of}
use Rattle.gw_log.proofs.reading.read_open.Given as goal

abbrev pub invariant-loop-record : goal.invariant-loop-record
invariant-loop-record l = (more : List (List ℕ)) × (records_of l.records.items ≡ records_of l.fn.records.items ++ more) × IsReadTo l.bytes l.rest more × (length l.rest ≤ length l.bytes)

abbrev pub decreases-loop-record : goal.decreases-loop-record
decreases-loop-record l = length l.rest

use Rattle.std.proofs.Common.{take}
use Rattle.gw_log.specs.Chain.{AreSome}
use Rattle.gw_log.specs.State.{records_of}
use Rattle.gw_log.proofs.log.are_some.Given as goal

abbrev pub invariant-loop-bytes : goal.invariant-loop-bytes
invariant-loop-bytes l = AreSome (records_of (take l.bytes-index l.batch))

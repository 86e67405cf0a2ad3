use Rattle.std.proofs.Common.{length}
use Rattle.gw_mllp.specs.Taken.{contents}
use Rattle.gw_mllp.proofs.Steps.{Walks}
use Rattle.gw_mllp.proofs.blocks.take_blocks.Given as goal

abbrev pub invariant-loop-bytes : goal.invariant-loop-bytes
invariant-loop-bytes l = Walks (contents l.initial.made.items) l.piece (contents l.made.items) l.bytes

abbrev pub decreases-loop-bytes : goal.decreases-loop-bytes
decreases-loop-bytes l = length l.bytes

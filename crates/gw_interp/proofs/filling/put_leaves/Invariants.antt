use Rattle.gw_resolve.specs.Seen.{at_leaf}
use Rattle.gw_interp.specs.own.Filling.{read_by}
use Rattle.gw_interp.proofs.Turns.{LeavesInTurn}
use Rattle.gw_interp.proofs.filling.put_leaves.Given as goal

abbrev pub invariant-loop-leaf : goal.invariant-loop-leaf
invariant-loop-leaf l = LeavesInTurn (read_by l.reading) l.field l.rep (at_leaf l.rows.tables) l.leaves l.leaf-index l.initial.builder l.builder

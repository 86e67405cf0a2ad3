use Rattle.std.proofs.Common.{◌-◌, map}
use Rattle.gw_resolve.specs.Seen.{reference, at_leaf}
use Rattle.gw_interp.specs.own.Making.{seen_from}
use Rattle.gw_interp.proofs.Copies.{RepsUpTo}
use Rattle.gw_interp.proofs.Ruled.{Repeats}
use Rattle.gw_interp.proofs.making.make_repeat.Given as goal

abbrev pub decreases-loop-rep : goal.decreases-loop-rep
decreases-loop-rep l = l.last - l.rep

abbrev pub invariant-loop-rep : goal.invariant-loop-rep
invariant-loop-rep l =
    RepsUpTo l.field (Repeats (seen_from l.scope) (map (at_leaf l.rows.tables) l.leaves) l.field (reference l.from)) l.initial.builder l.rep l.builder

use Rattle.std.proofs.Common.{◌-◌, ◌^◌, map}
use Rattle.gw_maplang.specs.Seen.{condition}
use Rattle.gw_resolve.specs.Seen.{reference, at_leaf}
use Rattle.gw_interp.specs.own.Making.{seen_from}
use Rattle.gw_interp.proofs.ChosenReps.{MadeUpTo}
use Rattle.gw_interp.proofs.making.make_chosen.Given as goal

abbrev pub invariant-loop-next : goal.invariant-loop-next
invariant-loop-next l =
    MadeUpTo (seen_from l.scope) (map (at_leaf l.rows.tables) l.leaves) l.field (reference l.chosen.from.now) (condition l.chosen.condition.now) l.initial.builder l.rep l.made l.builder

abbrev pub decreases-loop-next : goal.decreases-loop-next
decreases-loop-next l = 2 ^ 64 - l.rep

use Rattle.std.proofs.Common.{take, map}
use Rattle.gw_profile.specs.Seen.{forest}
use Rattle.gw_validate.specs.Conforming.{named}
use Rattle.gw_validate.specs.own.State.{stack_on}
use Rattle.gw_profile.specs.Shapes.{nothing}
use Rattle.gw_validate.proofs.Passed.{Walked}
use Rattle.gw_validate.proofs.walk.walk.Given as goal

abbrev pub invariant-loop-i : goal.invariant-loop-i
invariant-loop-i l = Walked (forest l.nodes) (take l.i (map (named l.message) l.taken)) l.shapes.items (stack_on l.stack.items nothing)

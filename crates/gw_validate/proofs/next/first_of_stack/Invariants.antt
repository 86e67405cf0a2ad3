use Rattle.std.proofs.Common.{◌≡◌, ◌++◌, vec_len}
use Rattle.gw_profile.specs.LookAhead.{first_names}
use Rattle.gw_profile.specs.Shapes.{nothing}
use Rattle.gw_validate.specs.own.State.{stack_on}
use Rattle.gw_validate.proofs.next.first_of_stack.Given as goal

abbrev pub invariant-loop-frame : goal.invariant-loop-frame
invariant-loop-frame l =
    first_names (stack_on l.initial.stack.items nothing) ≡ l.found.items ++ first_names (stack_on l.stack.items nothing)

abbrev pub decreases-loop-frame : goal.decreases-loop-frame
decreases-loop-frame l = vec_len l.stack

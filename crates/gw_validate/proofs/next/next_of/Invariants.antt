use Rattle.std.proofs.Common.{◌≡◌, take, Some}
use Rattle.gw_profile.specs.Seen.{forest}
use Rattle.gw_profile.specs.Shapes.{nothing}
use Rattle.gw_validate.specs.own.State.{stack_on}
use Rattle.gw_validate.proofs.Runs.{left}
use Rattle.gw_validate.proofs.next.next_of.Given as goal

abbrev pub invariant-loop-name : goal.invariant-loop-name
invariant-loop-name l = left (forest l.nodes) (take l.name-index l.names) ≡ Some (stack_on l.stack.items nothing)

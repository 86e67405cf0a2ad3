use Rattle.std.proofs.Common.{◌≡◌, drop}
use Rattle.gw_resolve.specs.Naming as spec
use Rattle.gw_profile.specs.Labels.{nodes_in}
use Rattle.gw_resolve.proofs.led.are_single.Given as goal

abbrev pub invariant-loop-step : goal.invariant-loop-step
invariant-loop-step l = spec.are_single (nodes_in l.fn.level) l.steps ≡ spec.are_single (nodes_in l.level) (drop l.step-index l.steps)

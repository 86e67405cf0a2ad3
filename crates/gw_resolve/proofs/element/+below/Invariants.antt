use Rattle.std.proofs.Common.{length, ◌+◌, ◌*◌}
use Rattle.gw_resolve.proofs.element.+below.Given as goal

abbrev pub decreases-found_below : goal.decreases-found_below
decreases-found_below l = 2 * length l.steps.now

abbrev pub decreases-step : goal.decreases-step
decreases-step l = 2 * length l.rest.now + 1

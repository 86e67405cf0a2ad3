-- Plans may be shared by threads.
use denote.Param.Send.{IsSync, sendable}
use denote.Param.SendFields.{as_row_sync}
use Rattle.std.proofs.Crossing.{crosses}
use Rattle.gw_plan.proofs.Crossing.{plans_cross}
use Rattle.gw_delivery.specs.contracts.plans.Plans as Plans

Plans-field : IsSync (Plans.the_field).row
Plans-field = search (plans_cross, crosses, sendable) depth 60 fits 50000

pub Plans-sync : IsSync Plans.the_row
Plans-sync = as_row_sync Plans.the_field Plans-field

use mir.Syntax.{named}
use denote.Param.{param}
use Rattle.gw_folder.specs.contracts.folder.RealFolder as RealFolder
use Rattle.gw_gateway.specs.contracts.office.ByPlans as ByPlans
use Rattle.gw_gateway.specs.contracts.office.ByPlansRules.TheImpl as plans
use Rattle.gw_opening.specs.contracts.found.Had as Had
use Rattle.gw_opening.specs.contracts.found.HadStart.TheImpl as had
use Rattle.hl7gate.proofs.Crossing.{RealFolder-send, RealFolder-sync, Recorded-send, Recorded-sync, given-send, given-sync}
use Rattle.hl7gate.proofs.gateway.command.run.Goals as goal

pub keep-requires-send-D : goal.keep-requires-send-D
keep-requires-send-D g c κs within =
    given-send _ _ (Recorded-send (RealFolder.the_row (record { mir = named 0; lft = _ }) (param 2 g.row.R)) (Had.the_row (param 1 g.row.F) ByPlans.the_row)
    (had.ghosts (param 1 g.row.F) ByPlans.the_row g.F.Found had.no_dict plans.ghosts had.no_dict) (RealFolder-send _ _ c.type_bounds.sync-R))

pub keep-requires-sync-D : goal.keep-requires-sync-D
keep-requires-sync-D g c κs within =
    given-sync _ _ (Recorded-sync (RealFolder.the_row (record { mir = named 0; lft = _ }) (param 2 g.row.R)) (Had.the_row (param 1 g.row.F) ByPlans.the_row)
    (had.ghosts (param 1 g.row.F) ByPlans.the_row g.F.Found had.no_dict plans.ghosts had.no_dict) (RealFolder-sync _ _ c.type_bounds.sync-R))

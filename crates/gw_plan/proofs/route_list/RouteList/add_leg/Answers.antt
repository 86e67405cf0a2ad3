use Rattle.gw_plan.proofs.Listing.{one_longer, still_listed}
use Rattle.gw_plan.proofs.route_list.RouteList.add_leg.Goals as goal

pub returns-in-Some-clause-current : goal.returns-in-Some-clause-current
returns-in-Some-clause-current c = one_longer _ _ _ _ _ _ c.in-Some.is c.add_leg.ensures

pub returns-in-Some-clause-listed : goal.returns-in-Some-clause-listed
returns-in-Some-clause-listed c = still_listed _ _ _ _ _ _ c.in-Some.is c.args.self.now.index c.args.self.now.closed.items c.requires.listed c.add_leg.ensures

use Rattle.std.proofs.Common.{ap, length}
use Rattle.gw_plan.specs.own.SoFar.{key_said}
use Rattle.gw_plan.proofs.Listing.{indexed_closed, taken_told, claim_told}
use Rattle.gw_plan.proofs.route_list.RouteList.claim.Goals as goal

pub returns-in-Ok-clause-taken : goal.returns-in-Ok-clause-taken
returns-in-Ok-clause-taken c =
    taken_told c.args.self.now.closed.items (key_said c.args.route.now) c.push.new.self _ (ap length c.as_slice-number.ensures.value) c.args.self.now.index c.in-Ok.added
    (indexed_closed c.args.self.now.index c.args.self.now.closed.items c.args.self.now.current c.requires.closed c.requires.listed) c.in-Ok.ensures

pub returns-in-Ok-clause-claimed : goal.returns-in-Ok-clause-claimed
returns-in-Ok-clause-claimed c = λ e.
    claim_told c.args.self.now.closed.items (key_said c.args.route.now) c.push.new.self _ (ap length c.as_slice-number.ensures.value) c.args.self.now.index c.in-Ok.added
    (indexed_closed c.args.self.now.index c.args.self.now.closed.items c.args.self.now.current c.requires.closed c.requires.listed) c.in-Ok.ensures c.args.self.now.current c.requires.closed e

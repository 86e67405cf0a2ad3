use Rattle.std.proofs.Common.{sym, subst, [], ◌∷◌, ◌++◌, map}
use Rattle.std.specs.Arc.{arc_value}
use Rattle.gw_plan.specs.Held.{RouteHeld}
use Rattle.gw_plan.specs.Index.{Indexes}
use Rattle.gw_plan.specs.Kept.{key_of}
use Rattle.gw_plan.specs.own.SoFar.{opened}
use Rattle.gw_plan.proofs.Listing.{claimed_closed, keys_more}
use Rattle.gw_plan.proofs.route_list.RouteList.open.Goals as goal

pub returns-clause-listed : goal.returns-clause-listed
returns-clause-listed c =
    subst (λ (r : RouteHeld). Indexes c.args.self.now.index (map key_of (c.args.self.now.closed.items ++ r ∷ []))) (sym c.in_ok-route.ensures)
    (subst (Indexes c.args.self.now.index) (sym (keys_more c.args.self.now.closed.items (opened c.args.route.now (arc_value c.args.profile))))
    (claimed_closed c.args.self.now.index c.args.self.now.closed.items c.args.self.now.current _ c.requires.closed c.requires.claimed))

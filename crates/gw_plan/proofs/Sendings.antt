-- What a translation is by its route's map.
use Rattle.std.proofs.Common.{◌≡◌, ℕ, List, Some, sym, ap, ◌∙◌, subst}
use Rattle.std.specs.Prelude.{Ok, nat_eq}
use Rattle.std.specs.Map.{lookup}
use Rattle.std.specs.Option.{option_map}
use Rattle.gw_er7.specs.Message.{SegmentValue, IsMessage}
use Rattle.gw_profile.specs.Shapes.{ProfileValue}
use Rattle.gw_profile.specs.Seen.{profile_value}
use Rattle.gw_profile.specs.WellFormed.{WellFormed}
use Rattle.gw_validate.specs.Conforming.{Conforms}
use Rattle.gw_validate.specs.Broken.{IsTreeOf}
use Rattle.gw_validate.specs.Fitting.{TreeValue}
use Rattle.gw_check.specs.Kept.{CheckedValue, resolved_map}
use Rattle.gw_interp.specs.Meaning.{Means}
use Rattle.gw_plan.specs.Held.{RouteHeld, map_between, plan_value, route_value}
use Rattle.gw_plan.specs.Routing.{routed}
use Rattle.gw_plan.specs.Admitted.{ConformingHeld}
use Rattle.gw_plan.specs.Translating.{Translates}
use Rattle.gw_plan.proofs.Routes.{lookup_map}

pub sends : (c : ConformingHeld) (receiver : ℕ) (route : RouteHeld) (map : CheckedValue) (t : TreeValue) (made : List SegmentValue) → t ≡ c.tree → routed (plan_value c.plan) c.tree.message ≡ Ok (route_value route)
    → profile_value c.tree.profile ≡ profile_value route.profile → Some map ≡ lookup (nat_eq receiver) route.legs → profile_value map.source ≡ profile_value route.profile
    → WellFormed (profile_value route.profile) → IsMessage c.tree.message → Conforms (profile_value route.profile) c.tree.message → IsMessage made
    → IsTreeOf (profile_value t.profile) t.message t.tree → Means (profile_value map.target) (resolved_map map) t.message t.tree made → Conforms (profile_value map.target) made
    → Translates c receiver made
sends c receiver route map t made e routed_so profile leg source formed source_is_message source_conforms is_message is_tree means conforms = record {
  route = route_value route;
  routed_so = routed_so;
  formed = formed;
  source_is_message = source_is_message;
  source_conforms = source_conforms;
  by = map_between map;
  leg = sym (ap (option_map map_between) leg ∙ lookup_map map_between receiver route.legs);
  source = source;
  tree = t.tree;
  is_tree = subst (λ (p : ProfileValue). IsTreeOf p c.tree.message t.tree) (ap (λ (x : TreeValue). profile_value x.profile) e ∙ profile) (subst (λ (m : List SegmentValue). IsTreeOf (profile_value t.profile) m t.tree) (ap (λ (x : TreeValue). x.message) e) is_tree);
  is_message = is_message;
  means = subst (λ (m : List SegmentValue). Means (profile_value map.target) (resolved_map map) m t.tree made) (ap (λ (x : TreeValue). x.message) e) means;
  conforms = conforms;
}

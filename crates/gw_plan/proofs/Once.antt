-- By one plan, what is made of a message for a receiver is one message.
use Rattle.std.proofs.Common.{◌≡◌, ◌∙◌, ℕ, List, Some, sym, subst}
use Rattle.std.specs.Prelude.{nat_eq}
use Rattle.std.specs.Map.{lookup}
use Rattle.gw_er7.specs.Message.{SegmentValue}
use Rattle.gw_profile.specs.Deterministic.{NoName}
use Rattle.gw_validate.specs.Broken.{IsTreeOf}
use Rattle.gw_validate.specs.Conforming.{named, numbers}
use Rattle.gw_validate.specs.Trees.{Tree}
use Rattle.gw_validate.proofs.Unique.{one_tree}
use Rattle.gw_resolve.specs.Naming.{resolved}
use Rattle.gw_interp.specs.Meaning.{Means}
use Rattle.gw_interp.proofs.Once.{means_once}
use Rattle.gw_plan.specs.Shapes.{MapBetween, RouteValue, PlanValue}
use Rattle.gw_plan.specs.Routing.{routed}
use Rattle.gw_plan.specs.Translating.{MakesFor}
use Rattle.gw_plan.proofs.Keys.{some_same}
use Rattle.gw_plan.proofs.Routes.{ok_same}

-- what the map between two profiles makes of a message with this tree
abbrev MeansBy : List SegmentValue → List SegmentValue → Tree → MapBetween → Type 0
MeansBy m made tree by = Means by.target (resolved by.source by.target by.map) m tree made

pub made_once : (plan : PlanValue) (m : List SegmentValue) (receiver : ℕ) (made other : List SegmentValue) → MakesFor plan m receiver made → MakesFor plan m receiver other → made ≡ other
made_once plan m receiver made other x y =
    let route : y.route ≡ x.route = ok_same (routed plan m) y.routed_so x.routed_so in
    let leg : lookup (nat_eq receiver) x.route.legs ≡ Some y.by = subst (λ (r : RouteValue). lookup (nat_eq receiver) r.legs ≡ Some y.by) route y.leg in
    let by : y.by ≡ x.by = some_same (sym leg ∙ x.leg) in
    let is_tree : IsTreeOf x.route.profile m y.tree = subst (λ (r : RouteValue). IsTreeOf r.profile m y.tree) route y.is_tree in
    let tree : y.tree ≡ x.tree = one_tree (named m) x.route.profile.nodes NoName x.formed.determined y.tree x.tree (numbers x.route.profile.nodes m) is_tree x.is_tree in
    let means : MeansBy m other x.tree x.by = subst (λ (t : Tree). MeansBy m other t x.by) tree (subst (MeansBy m other y.tree) by y.means) in
    means_once x.by.target (resolved x.by.source x.by.target x.by.map) m x.tree made other x.is_message y.is_message x.means means

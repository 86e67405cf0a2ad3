use Rattle.std.proofs.Common.{◌≡◌, ℕ, List, [], map, ap, sym, subst, ◌∙◌}
use Rattle.gw_profile.specs.declared.node.Node.{Node}
use Rattle.gw_profile.specs.Seen.{forest, profile_value}
use Rattle.gw_profile.specs.Shapes.{ProfileValue}
use Rattle.gw_maplang.specs.Lawful.{Lawful}
use Rattle.gw_maplang.specs.Identity as spec
use Rattle.gw_maplang.specs.Identity.{same_items}
use Rattle.gw_maplang.specs.Seen.{table, dropped}
use Rattle.gw_maplang.specs.Shapes.{Items, TableValue, DropValue, MapValue}
use Rattle.gw_maplang.proofs.Same.{identity_lawful}
use Rattle.gw_maplang.proofs.itself.identity.Goals as goal

-- a map of these parts is the identity
of_parts : (p : ProfileValue) (name source target : List ℕ) (tables : List TableValue) (items : Items) (drops : List DropValue) → name ≡ p.name → source ≡ p.name → target ≡ p.name → tables ≡ [] → items ≡ same_items p.nodes → drops ≡ [] →
    ◌≡◌ {A = MapValue} (record { name = name; source = source; target = target; line = 0; tables = tables; items = items; drops = drops }) (spec.identity p)
of_parts p name source target tables items drops n s t none same left = λ i. record { name = n i; source = s i; target = t i; line = 0; tables = none i; items = same i; drops = left i }

pub invariant_of-result : goal.invariant_of-result
invariant_of-result c =
    let p = profile_value c.args.profile.now in
    let items = c.in_ok-items.ensures ∙ ap (λ (ns : List Node). same_items (forest ns)) c.nodes.ensures.value in
    subst Lawful
    (sym (of_parts p _ _ _ _ _ _ (c.in_ok-name.ensures ∙ c.name.ensures) (c.in_ok-source.ensures ∙ c.name-2.ensures) (c.in_ok-target.ensures ∙ c.name-3.ensures) (ap (map table) c.new.ensures.empty) items (ap (map dropped) c.new-2.ensures.items)))
    (identity_lawful p c.nodes.ensures.formed)

pub returns : goal.returns
returns c =
    let items = c.in_ok-items.ensures ∙ ap (λ (ns : List Node). same_items (forest ns)) c.nodes.ensures.value in
    of_parts (profile_value c.args.profile.now) _ _ _ _ _ _ (c.in_ok-name.ensures ∙ c.name.ensures) (c.in_ok-source.ensures ∙ c.name-2.ensures) (c.in_ok-target.ensures ∙ c.name-3.ensures) (ap (map table) c.new.ensures.empty) items (ap (map dropped) c.new-2.ensures.items)

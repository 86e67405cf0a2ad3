-- The map from a profile to itself has no condition and no alternative.
use Rattle.std.proofs.Common.{◌≡◌, ℕ, suc, true, false, List, [], ◌∷◌, Some, refl}
use Rattle.std.specs.Prelude.{if◌then◌else◌, flat_map}
use Rattle.gw_profile.specs.Line as line
use Rattle.gw_profile.specs.Shapes.{FieldValue, ProfileValue, Forest, nothing, segment, group}
use Rattle.gw_resolve.specs.Places.{Element, within}
use Rattle.gw_resolve.specs.Resolved.{segment_item}
use Rattle.gw_leaves.specs.Leaves.{Sources}
use Rattle.gw_leaves.specs.Reached.{rule_failures}
use Rattle.gw_check.specs.Levels.{sources}
use Rattle.gw_check.specs.Reached.{reached_failures}
use Rattle.gw_check.proofs.IdentityNamed.{at_node, same_rule, same_rules, same_segment, same, no_more}

rules_reach : (s : Sources) (fields : List FieldValue) → flat_map (rule_failures s) (same_rules fields) ≡ []
rules_reach s [] = refl
rules_reach s (f ∷ fields) =
    elim (line.is_forbidden (Some f.usage)) as (λ b. flat_map (rule_failures s) (if b then same_rules fields else same_rule f.number ∷ same_rules fields) ≡ []) [ true ↦ rules_reach s fields | false ↦ rules_reach s fields ]

-- the nodes from number j on
pub all_reached : (profile : ProfileValue) (scope : List Element) (j : ℕ) (nodes : Forest) → reached_failures profile scope (same j nodes) ≡ []
all_reached profile scope j nothing = refl
all_reached profile scope j (segment s rest) =
    let behind = all_reached profile scope (suc j) rest in
    elim (line.is_forbidden (Some s.usage)) as (λ b. reached_failures profile scope (if b then same (suc j) rest else segment_item (same_segment j s) (same (suc j) rest)) ≡ [])
    [ true ↦ behind | false ↦ no_more _ _ (rules_reach (sources profile (within scope (at_node j))) s.fields) behind ]
all_reached profile scope j (group g nodes rest) = no_more _ _ (all_reached profile (within scope (at_node j)) 0 nodes) (all_reached profile scope (suc j) rest)

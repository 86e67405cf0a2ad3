use Rattle.std.proofs.Common.{◌≡◌, [], ◌∷◌, refl, ap, ◌∙◌, arith}
use Rattle.std.specs.Prelude.{◌==◌, not, length}
use Rattle.gw_profile.specs.Shapes.{ProfileValue}
use Rattle.gw_profile.specs.WellFormed.{WellFormed, table_names}
use Rattle.gw_maplang.specs.Identity.{identity, same_items}
use Rattle.gw_resolve.specs.Places.{the_whole}
use Rattle.gw_resolve.specs.Resolved.{Items}
use Rattle.gw_resolve.specs.Naming.{naming_failures, resolved_items, resolved}
use Rattle.gw_check.specs.Sites.{sites}
use Rattle.gw_check.specs.Typed.{failures}
use Rattle.gw_resolve.specs.Failures.{at_line, or_later}
use Rattle.gw_check.specs.Checked.{all_failures}
use Rattle.gw_check.proofs.IdentityNamed.{same, no_more, holds, from_the_first, paths_hold, targets_hold, items_are}
use Rattle.gw_check.proofs.IdentityLevels.{levels_hold, items_hold}
use Rattle.gw_check.proofs.IdentityReads.{reads_hold}
use Rattle.gw_check.proofs.IdentityReached.{all_reached}
use Rattle.gw_check.proofs.laws.identity_is_allowed.Goals as goal

module _ (p : ProfileValue) (w : WellFormed p) where
  named : naming_failures p p (identity p) ≡ []
  named =
      no_more _ _ (no_more _ _ (paths_hold (the_whole p.nodes) [] 0 p.nodes (from_the_first p.nodes) w.distinct w.groups) refl)
      (targets_hold p.nodes 0 0 p.nodes (omega arith) (from_the_first p.nodes) w.distinct w.groups)

  items : resolved_items [] (the_whole p.nodes ∷ []) p.nodes (same_items p.nodes) ≡ same 0 p.nodes
  items = items_are [] (the_whole p.nodes) [] 0 p.nodes (from_the_first p.nodes) w.distinct w.groups

  typed : failures p p (record { line = 0; items = same 0 p.nodes; drops = [] }) ≡ []
  typed =
      no_more _ _
      (no_more _ _ (levels_hold (table_names p.tables) (the_whole p.nodes) [] 0 0 p.nodes (from_the_first p.nodes) w.distinct w.segments w.groups)
      (items_hold p (table_names p.tables) (the_whole p.nodes) [] 0 p.nodes (from_the_first p.nodes) w.distinct w.segments w.groups))
      (no_more _ _ (holds 9 (at_line 0) _ (ap (λ l. not (length l == 0)) (reads_hold (sites (same 0 p.nodes)) [] [] [] 0 p.nodes (λ at field e. e))))
      (all_reached p (the_whole p.nodes ∷ []) 0 p.nodes))

  identity_allowed : all_failures p p (identity p) ≡ []
  identity_allowed =
      ap (λ n. or_later n (failures p p (resolved p p (identity p)))) named
      ∙ ap (λ (is : Items). failures p p (record { line = 0; items = is; drops = [] })) items ∙ typed

pub returns : goal.returns
returns c = identity_allowed

use Rattle.std.proofs.Common.{ap, ◌∙◌, refl}
use Rattle.gw_maplang.proofs.Rows.{group_items, flat_items}
use Rattle.gw_maplang.specs.declared.item.Item.{EachAs, EachFlat}
use Rattle.gw_maplang.specs.Seen as raw
use Rattle.gw_maplang.specs.Shapes.{nothing}
use Rattle.gw_profile.specs.Labels.{nodes_in}
use Rattle.gw_resolve.specs.Naming as spec
use Rattle.gw_resolve.specs.Places.{nodes_of_child}
use Rattle.gw_resolve.specs.Seen.{scope as walked}
use Rattle.gw_resolve.proofs.Built.{items_made, made_group, made_flat}
use Rattle.gw_resolve.proofs.Noting.{noted_twice, hidden, later_hidden, walked_paths, items_next}
use Rattle.gw_resolve.proofs.Targeting.{targets_next, group_targets, flat_targets, group_reached, flat_reached}
use Rattle.gw_resolve.proofs.items.+items.Goals as goal

-- ---- a group

pub group-returns : goal.group-returns
group-returns t c =
    let inner = ap walked c.deref-2.ensures.value ∙ c.in_ok-there.ensures.inner in
    let child = c.in_ok-aimed.ensures.child ∙ ap (spec.node_or 0 (nodes_in c.args.level)) c.deref.ensures.value in
    let below = c.nodes_of_child-below.ensures ∙ ap (nodes_of_child (nodes_in c.args.level)) child in
    record {
      item = λ tables rest.
          made_group tables (walked c.args.scope.now) (nodes_in c.args.level) c.args.made.now
          (record { line = c.args.made.now.line; child = c.in_ok-aimed.aimed.child; place = c.in_ok-there.there.place; condition = c.in_ok-there.there.condition; items = c.in_ok-items.items }) rest
          refl child c.in_ok-there.ensures.place c.in_ok-there.ensures.condition
          (c.in_ok-items.ensures.items tables ∙ (λ i. spec.resolved_items tables (inner i) (below i) (raw.all_items (c.deref-3.ensures.value i))));
      node = c.in_ok-aimed.ensures.node ∙ ap (spec.after c.args.j (nodes_in c.args.level)) c.deref.ensures.value ∙ group_reached (nodes_in c.args.level) c.args.j c.args.made.now;
      paths =
          hidden _ _ _ _ _ _ _ _ c.in_ok-there.ensures.kept (noted_twice _ _ _ _ _ c.in_ok-there.ensures.failures c.in_ok-items.ensures.paths) c.hide.ensures
          (walked_paths (walked c.args.scope.now) _ c.args.made.now.line (raw.walk c.args.made.now.walk) (EachAs c.args.made.now) _ _ _ (ap (spec.path_failures (walked c.args.scope.now)) (group_items c.args.made.now nothing)) c.in_ok-there.ensures.leads inner c.deref-3.ensures.value);
      targets =
          later_hidden _ _ _ _ _ _ c.args.lost.now.targets.items _ _ _ refl (c.len-before.ensures ∙ c.args.lost.now.targets.ok.0) (c.len-kept.ensures ∙ c.label_target.new.found.ok.0) c.in_ok-aimed.ensures.failures c.in_ok-items.ensures.targets c.hide-2.ensures
          (group_targets (nodes_in c.args.level) _ c.args.j c.args.made.now _ _ c.deref.ensures.value c.deref-3.ensures.value below);
    }

-- ---- a flat

pub flat-returns : goal.flat-returns
flat-returns t c =
    let inner = ap walked c.deref-2.ensures.value ∙ c.in_ok-there.ensures.inner in
    record {
      item = λ tables rest.
          made_flat tables (walked c.args.scope.now) (nodes_in c.args.level) c.args.made.now
          (record { line = c.args.made.now.line; place = c.in_ok-there.there.place; condition = c.in_ok-there.there.condition; items = c.in_ok-items.items }) rest
          refl c.in_ok-there.ensures.place c.in_ok-there.ensures.condition
          (c.in_ok-items.ensures.items tables ∙ (λ i. spec.resolved_items tables (inner i) (nodes_in c.args.level) (raw.all_items (c.deref-3.ensures.value i))));
      node = flat_reached (nodes_in c.args.level) c.args.j c.in_ok-node.node c.args.made.now c.deref.result.now c.deref.ensures.value c.in_ok-node.ensures.node;
      paths =
          hidden _ _ _ _ _ _ _ _ c.in_ok-there.ensures.kept (noted_twice _ _ _ _ _ c.in_ok-there.ensures.failures c.in_ok-items.ensures.paths) c.hide.ensures
          (walked_paths (walked c.args.scope.now) _ c.args.made.now.line (raw.walk c.args.made.now.walk) (EachFlat c.args.made.now) _ _ _ (ap (spec.path_failures (walked c.args.scope.now)) (flat_items c.args.made.now nothing)) c.in_ok-there.ensures.leads inner c.deref-3.ensures.value);
      targets =
          later_hidden _ _ _ _ _ _ c.args.lost.now.targets.items _ _ _ refl (c.len-before.ensures ∙ c.args.lost.now.targets.ok.0) (c.len-kept.ensures ∙ c.flat_target.new.found.ok.0) c.in_ok-node.ensures.failures c.in_ok-items.ensures.targets c.hide-2.ensures
          (flat_targets (nodes_in c.args.level) c.args.j c.args.made.now _ _ c.deref.ensures.value c.deref-3.ensures.value);
    }

-- ---- one item after the other

pub resolve_items-loop-item-preserved : goal.resolve_items-loop-item-preserved
resolve_items-loop-item-preserved t c = record {
  items = λ tables. items_made tables _ _ _ _ _ _ _ _ _ c.loop-item-test.true c.item-item.is c.in_ok-push.ensures.items c.in_ok-looked.ensures.item (c.loop-item.invariant.items tables);
  paths = c.loop-item.invariant.paths ∙ items_next _ _ _ _ _ _ c.loop-item-test.true c.item-item.is c.in_ok-looked.ensures.paths;
  targets = c.loop-item.invariant.targets ∙ targets_next _ _ _ _ _ _ _ _ c.loop-item-test.true c.item-item.is c.in_ok-looked.ensures.targets c.in_ok-looked.ensures.node;
}

use Rattle.std.proofs.Common.{[], ◌∷◌, ◌++◌, ◌==◌, length, map, flat_map, sym, ap, ◌∙◌, true≢false}
use Rattle.gw_profile.specs.Seen.{forest}
use Rattle.gw_maplang.specs.Seen.{all_items}
use Rattle.gw_resolve.specs.Places.{the_whole}
use Rattle.gw_resolve.specs.Naming as spec
use Rattle.gw_resolve.specs.Seen.{failures}
use Rattle.gw_resolve.proofs.Noting.{empty, named_all}
use Rattle.gw_resolve.proofs.named.resolve.Goals as goal

pub returns-then-is_empty : goal.returns-then-is_empty
returns-then-is_empty c =
    let here = ap forest c.requires.source in
    let there = ap forest c.requires.target in
    let told = named_all _ _ _ _ _ _ _ _ _ c.in_ok-found.ensures (ap failures c.new.ensures.items) (ap failures c.new-2.ensures.items) c.in_ok-items.ensures.paths c.in_ok-drops.ensures.failures c.in_ok-items.ensures.targets in
    record {
      none =
          sym
          (told
          ∙ (λ i. spec.path_failures (the_whole (here i) ∷ []) (all_items (c.items.ensures.value i)) ++ flat_map (spec.drop_failures (the_whole (here i))) (c.drops.ensures i) ++ spec.target_failures (there i) 0 (all_items (c.items.ensures.value i))))
          ∙ ap failures (empty c.in_ok-found.found.items c.as_slice.result.now c.as_slice.ensures.value (sym c.is_empty.ensures ∙ c.if-is_empty.true));
      items =
          c.in_ok-items.ensures.items c.args.map.now.tables
          ∙ (λ i. spec.resolved_items c.args.map.now.tables (the_whole (here i) ∷ []) (there i) (all_items (c.items.ensures.value i)));
      drops = c.in_ok-drops.ensures.made ∙ (λ i. map (spec.drop (the_whole (here i))) (c.drops.ensures i));
    }

pub returns : goal.returns
returns c =
    let here = ap forest c.requires.source in
    let there = ap forest c.requires.target in
    let told = named_all _ _ _ _ _ _ _ _ _ c.in_ok-found.ensures (ap failures c.new.ensures.items) (ap failures c.new-2.ensures.items) c.in_ok-items.ensures.paths c.in_ok-drops.ensures.failures c.in_ok-items.ensures.targets in
    record {
      all =
          told
          ∙ (λ i. spec.path_failures (the_whole (here i) ∷ []) (all_items (c.items.ensures.value i)) ++ flat_map (spec.drop_failures (the_whole (here i))) (c.drops.ensures i) ++ spec.target_failures (there i) 0 (all_items (c.items.ensures.value i)));
      some = λ none. true≢false (sym (ap (λ l. length l == 0) (c.as_slice.ensures.value ∙ none)) ∙ sym c.is_empty.ensures ∙ c.if-is_empty.false);
    }

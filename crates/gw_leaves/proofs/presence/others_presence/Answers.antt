use Rattle.std.proofs.Common.{◌≡◌, ◌+◌, map, drop, sym, ap, ◌∙◌, arith}
use Rattle.std.proofs.lemmas.List.{drop_all}
use Rattle.gw_resolve.specs.Seen.{alternative}
use Rattle.gw_resolve.proofs.Noting.{front}
use Rattle.gw_leaves.specs.Leaves.{either, leaf_shape, first_presence}
use Rattle.gw_leaves.specs.Uses.{sources_value, map_tables}
use Rattle.gw_leaves.specs.declared.shape.Presence.{Presence}
use Rattle.gw_leaves.specs.declared.shape.Presence.TheVariants.{Never}
use Rattle.gw_leaves.proofs.presence.others_presence.Goals as goal

in_turn : (p q r : Presence) → either p (either q r) ≡ either (either p q) r
in_turn p q r = grind arith

no_other : (p : Presence) → either p Never ≡ p
no_other p = grind arith

pub loop-other-preserved : goal.loop-other-preserved
loop-other-preserved c =
    let s = sources_value c.args.sources in
    let view = alternative (map_tables c.args.sources) in
    let so_far = c.loop-other.presence in
    let rest = first_presence s (map view (drop (c.loop-other.other-index + 1) c.args.others.now)) in
    c.loop-other.invariant
    ∙ ap (λ l. either so_far (first_presence s (map view l))) (front c.args.others.now c.loop-other.other-index c.other-item.result c.loop-other-test.true c.other-item.is)
    ∙ in_turn so_far (leaf_shape s (view c.other-item.result).leaf).presence rest
    ∙ ap (λ p. either p rest) (sym (c.either-presence.ensures ∙ ap (either so_far) c.leaf_presence.ensures))

pub returns : goal.returns
returns c =
    let view = alternative (map_tables c.args.sources) in
    let so_far = c.loop-other.invariant in
    let done = ap (λ l. first_presence (sources_value c.args.sources) (map view l)) (drop_all c.loop-other.other-index c.args.others.now c.loop-other-test.false) in
    let all = no_other c.loop-other.presence in
    cc

use Rattle.std.proofs.Common.{sym, ap, refl, [], arith}
use Rattle.gw_profile.specs.Nodes.{card_of}
use Rattle.gw_validate.proofs.Names.{names_differ}
use Rattle.gw_validate.proofs.Walking.{passes_segment, reaches_on}
use Rattle.std.proofs.Common.{drop, ◌+◌}
use Rattle.gw_validate.proofs.walk.are_passed.Goals as goal

pub loop-node-preserved : goal.loop-node-preserved
loop-node-preserved c =
    let segment = c.in-Seg.segment in
    let behind = drop (c.loop-node.node-index + 1) c.args.nodes.now in
    reaches_on c.node-item.result segment.card behind c.args.nodes.now c.args.name [] [] [] c.loop-node.node-index c.loop-node-test.true c.node-item.is (sym (ap card_of c.in-Seg.is)) refl c.loop-node.invariant
    (passes_segment segment c.node-item.result behind c.args.name [] c.in-Seg.is (omega (arith, c.if-segment-gt0.false)) (names_differ _ _ (sym c.if-same_name.ensures)))

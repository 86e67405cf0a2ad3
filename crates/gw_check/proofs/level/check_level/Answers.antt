use Rattle.gw_resolve.specs.Seen.{mark, scope}
use Rattle.gw_check.proofs.Stepped.{level_more}
use Rattle.gw_check.proofs.level.check_level.Goals as goal

pub loop-j-preserved : goal.loop-j-preserved
loop-j-preserved c = λ tables.
    level_more tables (scope c.args.scope.now) c.args.holder c.args.nodes.now c.loop-j.j c.leading.result (mark c.node_mark-mark.result) c.index-nodes-j.result _ c.loop-j.left.now c.split_at.result.0.now c.split_at.result.1.now c.loop-j.found c.check_node.new.found
    c.loop-j-test.true c.index-nodes-j.is c.leading.ensures c.split_at.ensures.front c.split_at.ensures.back (c.node_mark-mark.ensures tables) (c.in_ok-check_node.ensures tables) (c.loop-j.invariant tables)

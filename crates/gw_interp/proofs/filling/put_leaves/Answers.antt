use Rattle.gw_resolve.specs.Seen.{at_leaf}
use Rattle.gw_interp.specs.own.Filling.{read_by}
use Rattle.gw_interp.proofs.Turns.{no_leaf, may_leaf, next_leaf, all_leaves}
use Rattle.gw_interp.proofs.filling.put_leaves.Goals as goal

pub loop-leaf-init : goal.loop-leaf-init
loop-leaf-init c = no_leaf (read_by c.args.reading.now) c.args.field c.args.rep (at_leaf c.args.rows.now.tables) c.args.leaves.now c.args.builder.now c.requires.fill

pub put_leaf-requires-clause-begun : goal.put_leaf-requires-clause-begun
put_leaf-requires-clause-begun c =
    (may_leaf (read_by c.args.reading.now) c.args.field c.args.rep (at_leaf c.args.rows.now.tables) c.args.leaves.now c.loop-leaf.leaf-index c.leaf-item.result c.args.builder.now c.loop-leaf.builder c.loop-leaf-test.true c.leaf-item.is c.loop-leaf.invariant).begun

pub put_leaf-requires-clause-free : goal.put_leaf-requires-clause-free
put_leaf-requires-clause-free c =
    (may_leaf (read_by c.args.reading.now) c.args.field c.args.rep (at_leaf c.args.rows.now.tables) c.args.leaves.now c.loop-leaf.leaf-index c.leaf-item.result c.args.builder.now c.loop-leaf.builder c.loop-leaf-test.true c.leaf-item.is c.loop-leaf.invariant).free.0

pub put_leaf-requires-clause-holds : goal.put_leaf-requires-clause-holds
put_leaf-requires-clause-holds c =
    (may_leaf (read_by c.args.reading.now) c.args.field c.args.rep (at_leaf c.args.rows.now.tables) c.args.leaves.now c.loop-leaf.leaf-index c.leaf-item.result c.args.builder.now c.loop-leaf.builder c.loop-leaf-test.true c.leaf-item.is c.loop-leaf.invariant).each.0

pub loop-leaf-preserved : goal.loop-leaf-preserved
loop-leaf-preserved c =
    next_leaf (read_by c.args.reading.now) c.args.field c.args.rep (at_leaf c.args.rows.now.tables) c.args.leaves.now c.loop-leaf.leaf-index c.leaf-item.result c.args.builder.now c.loop-leaf.builder c.put_leaf.new.builder c.loop-leaf-test.true c.leaf-item.is c.loop-leaf.invariant c.in_ok-put_leaf.ensures

pub returns : goal.returns
returns c =
    all_leaves (read_by c.args.reading.now) c.args.field c.args.rep (at_leaf c.args.rows.now.tables) c.args.leaves.now c.loop-leaf.leaf-index c.args.builder.now c.loop-leaf.builder c.loop-leaf-test.false c.loop-leaf.invariant

use Rattle.std.proofs.Common.{[], Some, ◌∙◌, sym}
use Rattle.gw_resolve.specs.Seen.{alternative}
use Rattle.gw_maplang.specs.Seen.{now}
use Rattle.gw_interp.specs.own.Sourced.{walks}
use Rattle.gw_interp.proofs.InTurn.{settled_at, unsettled_at, none_left}
use Rattle.gw_interp.proofs.lookup.first_text.Goals as goal

pub loop-other-preserved : goal.loop-other-preserved
loop-other-preserved c = λ m of found rest.
    c.loop-other.invariant m of found
    (unsettled_at (walks m c.args.reading.now) (alternative c.args.rows.now.tables) c.args.others.now c.loop-other.other-index c.other-item.result c.loop-other-test.true c.other-item.is (now c.leaf_text-given.result)
    (c.leaf_text-given.ensures m of) found (sym c.settles.ensures ∙ c.if-settles.false) rest)

pub returns-then-settles : goal.returns-then-settles
returns-then-settles c = λ m of.
    c.loop-other.invariant m of (now c.leaf_text-given.result)
    (settled_at (walks m c.args.reading.now) (alternative c.args.rows.now.tables) c.args.others.now c.loop-other.other-index c.other-item.result c.loop-other-test.true c.other-item.is (now c.leaf_text-given.result)
    (c.leaf_text-given.ensures m of) (sym c.settles.ensures ∙ c.if-settles.true))

pub returns : goal.returns
returns c = λ m of.
    c.loop-other.invariant m of (Some [])
    (none_left (walks m c.args.reading.now) (alternative c.args.rows.now.tables) c.args.others.now c.loop-other.other-index c.loop-other-test.false)

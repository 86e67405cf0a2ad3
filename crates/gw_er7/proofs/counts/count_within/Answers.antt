use Rattle.std.proofs.Common.{sym, arith}
use Rattle.gw_er7.specs.View.{Held, is_within}
use Rattle.gw_er7.proofs.Under.{partitioned_within}
use Rattle.gw_er7.proofs.Finds.{between_up, between_down}
use Rattle.gw_er7.proofs.counts.count_within.Goals as goal

pub loop-low-preserved-then-is_within : goal.loop-low-preserved-then-is_within
loop-low-preserved-then-is_within c =
    let h : Held = record { place = c.at.result.place; text = c.at.result.text.now } in
    between_up (is_within c.args.prefix.now) c.args.values.now c.loop-low.low c.loop-low.high _ h (partitioned_within c.args.prefix.now c.args.values.now c.requires) c.loop-low.invariant (let lt = c.loop-low-test.true in omega arith) (sym (c.at.ensures h)) (sym c.if-is_within.ensures)

pub loop-low-preserved : goal.loop-low-preserved
loop-low-preserved c =
    let h : Held = record { place = c.at.result.place; text = c.at.result.text.now } in
    between_down (is_within c.args.prefix.now) c.args.values.now c.loop-low.low c.loop-low.high _ h (partitioned_within c.args.prefix.now c.args.values.now c.requires) c.loop-low.invariant (omega arith) (let lt = c.loop-low-test.true in omega arith) (sym (c.at.ensures h)) (sym c.if-is_within.ensures)

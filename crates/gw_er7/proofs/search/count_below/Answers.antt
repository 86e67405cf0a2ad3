use Rattle.std.proofs.Common.{sym, arith}
use Rattle.gw_er7.specs.Message.{numbers}
use Rattle.gw_er7.specs.View.{Held, is_below}
use Rattle.gw_er7.proofs.Finds.{partitioned}
use Rattle.gw_er7.proofs.Finds.{between_up, between_down}
use Rattle.gw_er7.proofs.search.count_below.Goals as goal

pub loop-low-preserved-then-is_below : goal.loop-low-preserved-then-is_below
loop-low-preserved-then-is_below c =
    let h : Held = record { place = c.at.result.place; text = c.at.result.text.now } in
    between_up (is_below (numbers c.args.place)) c.args.values.now c.loop-low.low c.loop-low.high _ h (partitioned (numbers c.args.place) c.args.values.now c.requires) c.loop-low.invariant (let lt = c.loop-low-test.true in omega arith) (sym (c.at.ensures h)) (sym c.if-is_below.ensures)

pub loop-low-preserved : goal.loop-low-preserved
loop-low-preserved c =
    let h : Held = record { place = c.at.result.place; text = c.at.result.text.now } in
    between_down (is_below (numbers c.args.place)) c.args.values.now c.loop-low.low c.loop-low.high _ h (partitioned (numbers c.args.place) c.args.values.now c.requires) c.loop-low.invariant (omega arith) (let lt = c.loop-low-test.true in omega arith) (sym (c.at.ensures h)) (sym c.if-is_below.ensures)

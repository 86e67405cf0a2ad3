use Rattle.std.proofs.Common.{ap, ◌∙◌, subst, arith}
use Rattle.gw_resolve.specs.Places.{count_at}
use Rattle.gw_resolve.specs.Seen.{place, scope}
use Rattle.gw_check.specs.own.ItemByItem.{CountsAll}
use Rattle.gw_check.proofs.Counted.{count_flat, count_step, count_done}
use Rattle.gw_check.proofs.items.+count.Goals as goal

pub item_count-returns-in_ok-each-in-Flat : goal.item_count-returns-in_ok-each-in-Flat
item_count-returns-in_ok-each-in-Flat t c =
    count_flat (scope c.args.scope.now) (scope c.deref.result.now) c.args.item.now c.in-Flat.flat c.chosen-in-Flat.result c.in_ok-each-in-Flat.each c.times.result c.in-Flat.is (c.chosen-in-Flat.ensures (count_at (scope c.args.scope.now) (place c.in-Flat.flat.place)) c.count_at-in-Flat.ensures)
    (ap scope c.deref.ensures.value ∙ c.in_ok-inner-in-Flat.ensures) (subst (λ l. CountsAll (scope c.deref.result.now) l c.in_ok-each-in-Flat.each) c.deref-in-Flat.ensures.value c.in_ok-each-in-Flat.ensures) c.times.ensures

pub items_count-loop-left-preserved : goal.items_count-loop-left-preserved
items_count-loop-left-preserved t c =
    record {
      within = omega (arith, c.loop-left.invariant.within);
      counted = count_step (scope c.args.scope.now) c.args.items.now c.loop-left.left c.index-items-left.result c.in_ok-one.one c.loop-left.total c.plus-total.result c.loop-left-test.true c.loop-left.invariant.within c.index-items-left.is c.in_ok-one.ensures c.loop-left.invariant.counted c.plus-total.ensures;
    }

pub items_count-returns : goal.items_count-returns
items_count-returns t c = count_done (scope c.args.scope.now) c.args.items.now c.loop-left.left c.loop-left.total c.loop-left-test.false c.loop-left.invariant.counted

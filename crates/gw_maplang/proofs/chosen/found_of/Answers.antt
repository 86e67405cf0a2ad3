use Rattle.std.proofs.Common.{subst}
use Rattle.gw_maplang.specs.Seen.{items_all}
use Rattle.gw_maplang.specs.own.Finding.{IsAdded}
use Rattle.gw_maplang.proofs.Added.{found_more}
use Rattle.gw_maplang.proofs.chosen.found_of.Goals as goal

pub loop-value-preserved : goal.loop-value-preserved
loop-value-preserved c =
    let old = items_all c.loop-value.found.keys in
    let new = items_all c.add.new.found.keys in
    found_more c.args.values.now c.loop-value.value-index c.value-item.result old new c.loop-value-test.true c.value-item.is
    (subst (λ t. IsAdded t old new) c.deref.ensures.value c.in_ok-add.ensures) c.loop-value.invariant

use Rattle.std.proofs.Common.{refl}
use Rattle.gw_gate.specs.Entries.{entries_seen}
use Rattle.gw_audit.specs.own.Joins.{swaps_in}
use Rattle.gw_audit.proofs.Prefixes.{swaps_next}
use Rattle.gw_audit.proofs.plan_index.swaps_in.Goals as goal

pub loop-place-preserved : goal.loop-place-preserved
loop-place-preserved c =
    c.in_ok-count_to.ensures (swaps_in (entries_seen c.args.entries.now)) c.loop-place.place refl
    (swaps_next c.args.entries.now c.loop-place.place c.index-entries-place.result c.is_swap.result c.loop-place-test.true c.index-entries-place.is
    c.is_swap.ensures)
    c.loop-place.invariant

use Rattle.gw_gate.specs.Entries.{start_seen}
use Rattle.gw_audit.proofs.Prefixes.{plans_next}
use Rattle.gw_audit.proofs.plan_index.plans_in.Goals as goal

pub loop-entry-preserved : goal.loop-entry-preserved
loop-entry-preserved c =
    plans_next (start_seen c.args.start.now) c.args.entries.now c.loop-entry.entry-index c.entry-item.result _ _ c.loop-entry-test.true c.entry-item.is
    c.in_ok-add_plan.ensures c.loop-entry.invariant

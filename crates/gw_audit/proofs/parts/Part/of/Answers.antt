use Rattle.std.proofs.Common.{sym, subst}
use Rattle.gw_gate.specs.Entries.{entries_seen, start_seen}
use Rattle.gw_gate.proofs.Entering.{as_long}
use Rattle.gw_audit.specs.Turns.{CountsTo}
use Rattle.gw_audit.specs.own.Joins.{swaps_in}
use Rattle.gw_audit.proofs.Prefixes.{tells_plans}
use Rattle.gw_audit.proofs.parts.Part.of.Goals as goal

pub invariant_of-result : goal.invariant_of-result
invariant_of-result c =
    let s = start_seen c.args.start.now in
    let h = entries_seen c.args.entries.now in
    record {
      few = c.requires.few;
      plans = tells_plans s h c.requires.lawful _ _
          (subst (λ n. CountsTo (swaps_in h) n c.in_ok-swaps.swaps.items) (sym (as_long c.args.entries.now)) c.in_ok-swaps.ensures) c.in_ok-plans.ensures;
      idle_at = c.in_ok-idle.ensures;
      nothing = c.in_ok-queues.ensures;
    }

pub queues_of-requires : goal.queues_of-requires
queues_of-requires c = record { start = start_seen c.args.start.now; lawful = c.requires.lawful }

pub idle_in-requires : goal.idle_in-requires
idle_in-requires c = record { start = start_seen c.args.start.now; lawful = c.requires.lawful }

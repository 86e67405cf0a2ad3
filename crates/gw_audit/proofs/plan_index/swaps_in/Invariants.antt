use Rattle.gw_gate.specs.Entries.{entries_seen}
use Rattle.gw_audit.specs.own.Joins.{swaps_in}
use Rattle.gw_audit.specs.Turns.{CountsTo}
use Rattle.gw_audit.proofs.plan_index.swaps_in.Given as goal

abbrev pub invariant-loop-place : goal.invariant-loop-place
invariant-loop-place l = CountsTo (swaps_in (entries_seen l.entries)) l.place l.ats.items

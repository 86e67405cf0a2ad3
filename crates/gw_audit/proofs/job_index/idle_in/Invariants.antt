use Rattle.std.proofs.Common.{◌≡◌, ◌≤◌, length, take}
use Rattle.gw_gate.specs.Entries.{entries_seen}
use Rattle.gw_gate.specs.Journal.{issued, jobs}
use Rattle.gw_audit.specs.Owing.{waits_none}
use Rattle.gw_audit.specs.Turns.{TurnsTo}
use Rattle.gw_audit.proofs.job_index.idle_in.Given as goal

abbrev pub invariant-loop-place : goal.invariant-loop-place
invariant-loop-place l = record {
  turns : TurnsTo (waits_none (entries_seen l.entries)) l.place l.ats.items;
  issued : l.issued ≡ length (issued (take l.place (entries_seen l.entries)));
  taken : l.taken ≡ jobs (take l.place (entries_seen l.entries));
  few : l.taken ≤ l.place;
}

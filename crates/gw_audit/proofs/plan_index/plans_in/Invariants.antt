use Rattle.std.proofs.Common.{◌≡◌, take, map}
use Rattle.gw_gate.specs.own.Books.{journal_of}
use Rattle.gw_gate.specs.Journal.{plans}
use Rattle.gw_gate.specs.Entries.{entries_seen, start_seen}
use Rattle.gw_audit.specs.own.Joins.{plans_at}
use Rattle.gw_audit.proofs.plan_index.plans_in.Given as goal

abbrev pub invariant-loop-entry : goal.invariant-loop-entry
invariant-loop-entry l = plans_at l.all.items ≡ map (λ v. v.plan) (plans (journal_of (start_seen l.start) (entries_seen (take l.entry-index l.entries))))

use Rattle.std.proofs.Common.{◌≤◌, subst, arith}
use Rattle.std.proofs.lemmas.Bool.Decides.{nat_tests}
use Rattle.gw_journal.specs.Logs.{log_in}
use Rattle.gw_ledger.specs.Backlogs.{BacklogState, HasPassedWithin}
use Rattle.gw_ledger.specs.Finding.{InJournal}
use Rattle.gw_ledger.specs.Ledgers.{LedgerState}
use Rattle.gw_ledger.proofs.Keeping.{within_synced}
use Rattle.gw_ledger.proofs.ledger.Ledger.is_stored.Goals as goal

pub returns-then-backlog-eq0-clause-passed : goal.returns-then-backlog-eq0-clause-passed
returns-then-backlog-eq0-clause-passed g c = λ stored.
    let before = g.J.Naming.before in
    let synced = (log_in before c.self.inside.desk.history).synced in
    let none = c.if-backlog-eq0.true in
    let few : c.backlog.inside.count ≤ synced = grind (arith, nat_tests) in
    subst (λ (l : LedgerState g.row.S.Denot). InJournal (HasPassedWithin c.args.backlog.now.receiver (log_in before l.desk.history).synced) before c.args.backlog.now.history) c.self.view_is
    (subst (λ (k : BacklogState). InJournal (HasPassedWithin k.receiver synced) before k.history) c.backlog.view_is
    (within_synced before c.backlog.inside.receiver c.backlog.inside.count synced c.backlog.inside.front few c.backlog.invariant.1))

pub returns-clause-passed : goal.returns-clause-passed
returns-clause-passed g c = λ stored.
    let before = g.J.Naming.before in
    let synced = (log_in before c.self.inside.desk.history).synced in
    let last = c.is_stored-2.ensures.stored stored in
    let few : c.backlog.inside.count ≤ synced = omega (arith, last) in
    subst (λ (l : LedgerState g.row.S.Denot). InJournal (HasPassedWithin c.args.backlog.now.receiver (log_in before l.desk.history).synced) before c.args.backlog.now.history) c.self.view_is
    (subst (λ (k : BacklogState). InJournal (HasPassedWithin k.receiver synced) before k.history) c.backlog.view_is
    (within_synced before c.backlog.inside.receiver c.backlog.inside.count synced c.backlog.inside.front few c.backlog.invariant.1))

use Rattle.std.proofs.Common.{rules, ◌≡◌, ◌≤◌, ◌<◌, Some, refl, false, ap, sym, ◌∙◌, subst, arith}
use Rattle.std.proofs.lemmas.Bool.Decides.{nat_tests}
use Rattle.std.specs.Prelude.{is_some}
use mathlib.Core.List.{IsPrefix}
use Rattle.gw_journal.specs.Logs.{log_in}
use Rattle.gw_ledger.specs.Backlogs.{BacklogState, HasPassedWithin}
use Rattle.gw_ledger.specs.Finding.{FoundState, InJournal, from_of}
use Rattle.gw_ledger.specs.Ledgers.{LedgerState}
use Rattle.gw_ledger.specs.own.Steps.{IsFirstFrom}
use Rattle.gw_ledger.proofs.Remaining.{first_of}
use Rattle.gw_ledger.proofs.ledger.Ledger.first_from.Goals as goal

pub returns-in-Some-clause-first : goal.returns-in-Some-clause-first
returns-in-Some-clause-first g c =
    let before = g.J.Naming.before in
    let history = c.self.inside.desk.history in
    let from = c.in-Some.from in
    let b : BacklogState = record { receiver = c.backlog.inside.receiver; from = c.backlog.inside.from; history = c.backlog.inside.front } in
    let found : FoundState = record { receiver = c.found.inside.receiver; from = c.found.inside.from; place = c.found.inside.place; history = c.found.inside.front } in
    let well : is_some c.self.inside.desk.fault ≡ false = search rules in
    let later : IsPrefix b.history history = subst (λ h. IsPrefix b.history h) c.front.ensures c.if-not-begins.ensures.begins in
    let seen : IsPrefix found.history history = subst (λ h. IsPrefix found.history h) c.front-2.ensures c.if-not-begins-2.ensures.begins in
    let test = c.if-found-backlog.false in
    let test_from = c.if-found-backlog-2.false in
    let low = c.if-backlog-from.true in
    let high = c.if-from-found.true in
    let receiver : found.receiver ≡ b.receiver = grind (arith, nat_tests) in
    let begins : found.from ≡ b.from = grind (arith, nat_tests) in
    let order : b.from ≤ from = grind (arith, nat_tests) in
    let behind : from ≤ found.place = grind (arith, nat_tests) in
    let at : from_of b.receiver c.self.inside.state.receivers ≡ Some from = ap (from_of b.receiver) (sym c.receivers.ensures) ∙ sym c.from_of.ensures ∙ c.in-Some.is in
    let stored = c.if-not-is_stored.ensures in
    let less : found.place < (log_in before history).synced = subst (λ (f : FoundState). f.place < (log_in before history).synced) (sym c.found.view_is)
    (subst (λ (l : LedgerState g.row.S.Denot). c.args.found.now.place < (log_in before l.desk.history).synced) (sym c.self.view_is) (stored.found refl)) in
    let within : InJournal (HasPassedWithin b.receiver (log_in before history).synced) before b.history =
    subst (λ (k : BacklogState). InJournal (HasPassedWithin k.receiver (log_in before history).synced) before k.history) (sym c.backlog.view_is)
    (subst (λ (l : LedgerState g.row.S.Denot). InJournal (HasPassedWithin c.args.backlog.now.receiver (log_in before l.desk.history).synced) before c.args.backlog.now.history)
    (sym c.self.view_is) (stored.passed refl)) in
    let is = first_of g.R.Rules.routes before history c.self.inside.state (c.self.invariant.0 well) b found from c.backlog.invariant.0 later c.found.invariant seen receiver
    begins at order behind less within in
    subst (λ h. IsFirstFrom before c.args.backlog.now c.args.found.now.place from h) (ap (λ (l : LedgerState g.row.S.Denot). l.desk.history) c.self.view_is)
    (subst (λ (f : FoundState). IsFirstFrom before c.args.backlog.now f.place from history) c.found.view_is
    (subst (λ k. IsFirstFrom before k found.place from history) c.backlog.view_is is))

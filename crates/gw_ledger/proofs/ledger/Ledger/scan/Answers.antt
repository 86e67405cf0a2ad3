use Rattle.std.proofs.Common.{◌≡◌, Some, false, ap, sym, ◌∙◌, subst}
use Rattle.std.specs.Prelude.{is_some}
use Rattle.gw_ledger.specs.Backlogs.{IsLeftFrom}
use Rattle.gw_ledger.specs.Finding.{InJournal, from_of}
use Rattle.gw_ledger.specs.Ledgers.{LedgerState}
use Rattle.gw_ledger.proofs.Remaining.{scan_left}
use Rattle.gw_ledger.proofs.ledger.Ledger.scan.Goals as goal

pub returns-clause-left : goal.returns-clause-left
returns-clause-left g c = λ none.
    let n = c.args.receiver in
    let well : is_some c.self.inside.desk.fault ≡ false = subst (λ (l : LedgerState g.row.S.Denot). is_some l.desk.fault ≡ false) (sym c.self.view_is) none in
    let begins : from_of n c.self.inside.state.receivers ≡ Some c.in_ok-from.from = ap (from_of n) (sym c.receivers.ensures) ∙ sym c.in_ok-from.ensures in
    subst (λ h. InJournal (IsLeftFrom n c.in_ok-from.from) g.J.Naming.before h) (sym (c.again.ensures ∙ c.front.ensures))
    (scan_left g.R.Rules.routes g.J.Naming.before c.self.inside.desk.history c.self.inside.state (c.self.invariant.0 well) n c.in_ok-from.from begins)

use Rattle.std.proofs.Common.{rules, ◌≡◌, [], true, false, ap, sym, ◌∙◌, subst}
use Rattle.std.specs.Prelude.{is_some, IfSome}
use mathlib.Core.List.{IsPrefix}
use Rattle.gw_ledger.specs.Backlogs.{BacklogState, GoesOn, IsLeftFrom, is_at_rest}
use Rattle.gw_ledger.specs.Finding.{InJournal}
use Rattle.gw_ledger.specs.Ledgers.{LedgerState}
use Rattle.gw_ledger.proofs.Remaining.{rest_goes, rest_left}
use Rattle.gw_ledger.proofs.ledger.Ledger.at_rest.Goals as goal

pub returns-clause-on : goal.returns-clause-on
returns-clause-on g c =
    let before = g.J.Naming.before in
    let history = c.self.inside.desk.history in
    let b : BacklogState = record { receiver = c.backlog.inside.receiver; from = c.backlog.inside.from; history = c.backlog.inside.front } in
    let well : is_some c.self.inside.desk.fault ≡ false = search rules in
    let here : history ≡ c.args.self.now.desk.history = ap (λ (l : LedgerState g.row.S.Denot). l.desk.history) c.self.view_is in
    let later : IsPrefix b.history history = subst (λ h. IsPrefix b.history h) c.front.ensures c.if-not-begins.ensures.begins in
    let rests : is_at_rest b.receiver b.from c.self.inside.state.receivers ≡ true =
    ap (is_at_rest b.receiver b.from) (sym c.receivers.ensures) ∙ sym c.is_at_rest.ensures ∙ c.if-not-is_at_rest.false in
    let left = rest_left g.R.Rules.routes before history c.self.inside.state (c.self.invariant.0 well) b c.backlog.invariant.0 later rests in
    subst (λ k. IfSome c.backlog-2.result (λ now. GoesOn before k now [])) c.backlog.view_is
    (rest_goes before b c.args.self.now.desk.history c.backlog-2.result c.backlog.invariant.0
    (subst (λ h. InJournal (IsLeftFrom b.receiver b.from) before h) here left) (subst (λ h. IsPrefix b.history h) here later)
    c.backlog-2.ensures.receiver c.backlog-2.ensures.seen)

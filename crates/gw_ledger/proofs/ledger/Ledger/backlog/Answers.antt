use Rattle.std.proofs.Common.{rules, ◌≡◌, false, ap, sym, ◌∙◌, subst}
use Rattle.std.specs.Prelude.{is_some}
use Rattle.gw_ledger.specs.Backlogs.{HasPassedWithin, IsLeftFrom, left_from}
use Rattle.gw_ledger.specs.Finding.{InJournal}
use Rattle.gw_ledger.proofs.Keeping.{within_state}
use Rattle.gw_ledger.proofs.Remaining.{backlog_of}
use Rattle.gw_ledger.proofs.ledger.Ledger.backlog.Goals as goal

pub invariant_of-result : goal.invariant_of-result
invariant_of-result g c =
    let before = g.J.Naming.before in
    let n = c.args.receiver in
    let s = c.self.inside.state in
    let well : is_some c.self.inside.desk.fault ≡ false = search rules in
    let from : c.left_from.result ≡ left_from n s.next s.receivers =
    c.left_from.ensures ∙ ap (λ k. left_from n k c.receivers.result.now) c.next.ensures ∙ ap (left_from n s.next) c.receivers.ensures in
    let here : c.again.result ≡ c.self.inside.desk.history = c.again.ensures ∙ c.front.ensures in (
      subst (λ h. InJournal (IsLeftFrom n c.left_from.result) before h) (sym here)
          (subst (λ k. InJournal (IsLeftFrom n k) before c.self.inside.desk.history) (sym from)
          (backlog_of g.R.Rules.routes before c.self.inside.desk.history s (c.self.invariant.0 well) n)),
      subst (λ h. InJournal (HasPassedWithin n c.next-2.result) before h) (sym here)
          (subst (λ k. InJournal (HasPassedWithin n k) before c.self.inside.desk.history) (sym c.next-2.ensures)
          (within_state g.R.Rules.routes before c.self.inside.desk.history s n (c.self.invariant.0 well))),
    )

use Rattle.std.proofs.Common.{refl, sym, ap, ◌∙◌, subst}
use Rattle.gw_ledger.specs.Backlogs.{BacklogState, IsBacklog}
use Rattle.gw_ledger.specs.Ledgers.{LedgerState}
use Rattle.gw_ledger.specs.own.Steps.{IsFirstFrom}
use Rattle.gw_ledger.proofs.Remaining.{begins_by, begins_within}
use Rattle.gw_ledger.proofs.ledger.Ledger.begins_with.Goals as goal

pub returns-clause-first : goal.returns-clause-first
returns-clause-first g c =
    let before = g.J.Naming.before in
    let now : BacklogState = record { receiver = c.backlog.inside.receiver; from = c.backlog.inside.from; history = c.again.result } in
    begins_by before c.args.backlog.now now c.args.found.now.place c.in_ok-_from._from c.args.self.now.desk.history
    (subst (IsBacklog before) c.backlog.view_is c.backlog.invariant.0) c.in_ok-_from.ensures.first (ap (λ (b : BacklogState). b.receiver) c.backlog.view_is)
    (c.again.ensures ∙ c.front.ensures ∙ ap (λ (l : LedgerState g.row.S.Denot). l.desk.history) c.self.view_is)

pub invariant_of-result : goal.invariant_of-result
invariant_of-result g c =
    let before = g.J.Naming.before in
    let b : BacklogState = record { receiver = c.backlog.inside.receiver; from = c.backlog.inside.from; history = c.backlog.inside.front } in
    let now : BacklogState = record { receiver = c.backlog.inside.receiver; from = c.backlog.inside.from; history = c.again.result } in
    begins_within before b now c.args.found.now.place c.in_ok-_from._from c.backlog.inside.count c.args.self.now.desk.history c.backlog.invariant.0
    (subst (λ k. IsFirstFrom before k c.args.found.now.place c.in_ok-_from._from c.args.self.now.desk.history) (sym c.backlog.view_is) c.in_ok-_from.ensures.first)
    refl refl (c.again.ensures ∙ c.front.ensures ∙ ap (λ (l : LedgerState g.row.S.Denot). l.desk.history) c.self.view_is) c.backlog.invariant.1

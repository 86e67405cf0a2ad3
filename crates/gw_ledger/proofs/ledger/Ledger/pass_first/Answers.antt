use Rattle.std.proofs.Common.{refl, ap, ◌∙◌, subst}
use Rattle.gw_due.specs.Views as view
use Rattle.gw_ledger.specs.Backlogs.{BacklogState, IsBacklog}
use Rattle.gw_ledger.specs.Finding.{FoundState, was_passed}
use Rattle.gw_ledger.specs.Putting.{timed}
use Rattle.gw_ledger.proofs.Remaining.{passed_first, passed_goes}
use Rattle.gw_ledger.proofs.ledger.Ledger.pass_first.Goals as goal

pub returns-clause-passed : goal.returns-clause-passed
returns-clause-passed g c =
    let before = g.J.Naming.before in
    let current : FoundState = record { receiver = c.found.inside.receiver; from = c.in-Some-first_from.from; place = c.found.inside.place; history = c.again.result } in
    let put = c.in_ok-ticket.ensures.current c.in_ok-ticket.ensures.ok in
    passed_goes before c.args.backlog.now c.args.found.now.place c.in-Some-first_from.from c.args.self.now c.pass.new.self c.args.time current (view.how c.args.how)
    c.in_ok-ticket.ticket c.in-Some-backlog.left (subst (IsBacklog before) c.backlog.view_is c.backlog.invariant.0) c.in-Some-first_from.ensures.first put.ok
    (ap (λ (f : FoundState). f.receiver) c.found.view_is ∙ c.in-Some-first_from.ensures.receiver refl) (ap (λ (f : FoundState). f.place) c.found.view_is)
    (c.in-Some-backlog.ensures.receiver ∙ ap (λ (b : BacklogState). b.receiver) c.backlog.view_is) c.in-Some-backlog.ensures.seen

pub returns-clause-kept : goal.returns-clause-kept
returns-clause-kept g c =
    let current : FoundState = record { receiver = c.found.inside.receiver; from = c.in-Some-first_from.from; place = c.found.inside.place; history = c.again.result } in
    let put = c.in_ok-ticket.ensures.current c.in_ok-ticket.ensures.ok in
    passed_first g.J.Naming.before c.args.backlog.now c.args.found.now.place c.in-Some-first_from.from c.args.self.now c.pass.new.self
    (timed c.args.time (was_passed current (view.how c.args.how))) c.in_ok-ticket.ticket c.in-Some-backlog.left c.in-Some-first_from.ensures.first put.ok
    c.in-Some-backlog.ensures.seen

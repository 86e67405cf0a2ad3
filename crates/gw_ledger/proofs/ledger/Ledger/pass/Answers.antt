use Rattle.std.proofs.Common.{rules, ◌≡◌, false, refl, sym, subst}
use Rattle.std.specs.Prelude.{is_some}
use Rattle.gw_due.specs.Views as view
use Rattle.gw_ledger.specs.Finding.{FoundState, IsCurrent}
use Rattle.gw_ledger.specs.Ledgers.{LedgerState}
use Rattle.gw_ledger.proofs.Passing.{seen_passed}
use Rattle.gw_ledger.proofs.ledger.Ledger.pass.Goals as goal

pub put-requires : goal.put-requires
put-requires g c =
    let here : LedgerState g.row.S.Denot = record { desk = c.self.inside.desk; state = c.self.inside.state; limit = c.self.inside.limit; keep = c.self.inside.keep; number = c.self.inside.number; margin_at = c.self.inside.margin_at; tail = c.self.inside.tail } in
    let found : FoundState = record { receiver = c.found.inside.receiver; from = c.found.inside.from; place = c.found.inside.place; history = c.found.inside.front } in
    let well : is_some c.self.inside.desk.fault ≡ false = search rules in
    let current : IsCurrent here found = subst (λ l. IsCurrent l found) (sym c.self.view_is) (subst (λ f. IsCurrent c.args.self.now f) (sym c.found.view_is) (c.if-not-is_current.ensures.0 refl)) in
    rw (← c.self.view_is) (record {
      seen = seen_passed g.R.Rules.routes g.J.Naming.before found c.self.inside.desk.history c.self.inside.state (view.how c.args.how) c.found.invariant current.seen current.from
          (c.self.invariant.0 well);
    })

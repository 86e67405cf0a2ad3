use Rattle.std.proofs.Common.{◌≡◌, false, sym, subst}
use Rattle.std.specs.Prelude.{is_some}
use Rattle.gw_ledger.specs.Accepting.{IsInForce, IsRouted, LookState}
use Rattle.gw_ledger.specs.Finding.{InJournal}
use Rattle.gw_ledger.specs.Ledgers.{LedgerState}
use Rattle.gw_ledger.proofs.Routing.{seen_accepted}
use Rattle.gw_ledger.proofs.ledger.Ledger.put_accepted.Goals as goal

pub put-requires : goal.put-requires
put-requires g c =
    let here : LedgerState g.row.S.Denot = record { desk = c.self.inside.desk; state = c.self.inside.state; limit = c.self.inside.limit; keep = c.self.inside.keep; number = c.self.inside.number; margin_at = c.self.inside.margin_at; tail = c.self.inside.tail } in
    let look : LookState = record { place = c.look.inside.place; history = c.look.inside.front } in
    let well : is_some c.self.inside.desk.fault ≡ false = subst (λ (l : LedgerState g.row.S.Denot). is_some l.desk.fault ≡ false) (sym c.self.view_is) c.requires.well in
    let force : IsInForce here look = subst (λ l. IsInForce l look) (sym c.self.view_is) (subst (λ k. IsInForce c.args.self.now k) (sym c.look.view_is) c.requires.in_force) in
    let routed = subst (λ (k : LookState). InJournal (IsRouted g.R.Rules.routes k.place c.args.to.items c.args.bytes.now) g.J.Naming.before k.history) (sym c.look.view_is) c.requires.routed in
    rw (← c.self.view_is) (record {
      seen = seen_accepted g.R.Rules.routes g.J.Naming.before look c.self.inside.desk.history c.self.inside.state c.args.number c.args.to.items c.args.bytes.now c.look.invariant
          force.seen force.plan routed (c.self.invariant.0 well);
    })

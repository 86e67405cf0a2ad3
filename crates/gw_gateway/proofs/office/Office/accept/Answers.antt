use Rattle.std.proofs.Common.{sym, subst}
use Rattle.gw_ledger.specs.Accepting.{IsRouted, LookState}
use Rattle.gw_ledger.specs.Finding.{InJournal}
use Rattle.gw_gateway.specs.Routing.{IsRoutedBy}
use Rattle.gw_gateway.proofs.Routing.{routed_now}
use Rattle.gw_gateway.proofs.office.Office.accept.Goals as goal

pub accept-requires : goal.accept-requires
accept-requires g c = record {
  routed = subst (λ (l : LookState). InJournal (IsRouted IsRoutedBy l.place c.args.to.items c.args.bytes.now) g.J.Naming.before l.history) (sym c.look.ensures.seen)
      (routed_now g.J.Naming.before c.args.under.now c.args.to.items c.args.bytes.now c.look.ensures.stands c.requires.routed);
}

use Rattle.std.proofs.Common.{◌≡◌, false, sym, subst}
use Rattle.std.specs.Prelude.{is_some, IsTrue}
use Rattle.gw_due.specs.State.{allows}
use Rattle.gw_due.specs.Views as view
use Rattle.gw_journal.specs.Logs.{AreFaithful, log_in}
use Rattle.gw_ledger.specs.Ledgers.{IsSeenIn, LedgerState}
use Rattle.gw_ledger.proofs.Counting.{margin_kept, number_above}
use Rattle.gw_ledger.proofs.Desks.{Right, is_put, right_put}
use Rattle.gw_ledger.proofs.ledger.Ledger.put_allowed.Goals as goal

pub invariant_of-self-2 : goal.invariant_of-self-2
invariant_of-self-2 g c =
    let e = view.entry c.args.entry.now in
    let well : is_some c.self.inside.desk.fault ≡ false = subst (λ (l : LedgerState g.row.S.Denot). is_some l.desk.fault ≡ false) (sym c.self.view_is) c.requires.well in
    let allowed = subst (λ (l : LedgerState g.row.S.Denot). IsTrue (allows l.state e.event)) (sym c.self.view_is) c.requires.allowed in
    let seen = subst (λ (l : LedgerState g.row.S.Denot). IsSeenIn g.R.Rules.routes (AreFaithful g.J.Naming.before l.desk.history) (log_in g.J.Naming.before l.desk.history).records e.event)
    (sym c.self.view_is) c.requires.seen in (
      subst (λ s. Right g.R.Rules.routes g.J.Naming.before c.put.new.self s) (sym c.move_on.ensures)
          (right_put g.R.Rules.routes g.J.Naming.before c.self.inside.desk c.put.new.self c.self.inside.state e c.in_ok-bytes.bytes.items c.self.invariant.0 well
          c.in_ok-bytes.ensures.ok c.in_ok-ticket.ensures.ok c.in_ok-bytes.ensures.fits allowed seen),
      c.self.invariant.1,
      number_above c.self.inside.state c.move_on.new.state e.event c.self.inside.number c.next_number-number.result c.move_on.ensures c.next_number-number.ensures c.self.invariant.2,
      margin_kept g.J.Naming.before c.self.inside.state c.move_on.new.state e c.in_ok-bytes.bytes.items c.self.inside.margin_at c.note_margin.new.last c.in_ok-ticket.ticket
          c.move_on.ensures c.note_margin.ensures c.in_ok-bytes.ensures.ok c.in_ok-ticket.ensures.put c.self.invariant.3,
      c.self.invariant.4,
    )

pub returns-clause-ok : goal.returns-clause-ok
returns-clause-ok g c =
    let e = view.entry c.args.entry.now in
    let well : is_some c.self.inside.desk.fault ≡ false = subst (λ (l : LedgerState g.row.S.Denot). is_some l.desk.fault ≡ false) (sym c.self.view_is) c.requires.well in
    let allowed = subst (λ (l : LedgerState g.row.S.Denot). IsTrue (allows l.state e.event)) (sym c.self.view_is) c.requires.allowed in
    rw (← c.self.view_is) (is_put g.R.Rules.routes g.J.Naming.before (record {
      desk = c.self.inside.desk;
      state = c.self.inside.state;
      limit = c.self.inside.limit;
      keep = c.self.inside.keep;
      number = c.self.inside.number;
      margin_at = c.self.inside.margin_at;
      tail = c.self.inside.tail;
    }) c.put.new.self c.move_on.new.state c.next_number-number.result c.note_margin.new.last e c.in_ok-bytes.bytes.items c.in_ok-ticket.ticket c.self.invariant.0 well c.in_ok-bytes.ensures.ok
    c.in_ok-ticket.ensures.put c.in_ok-ticket.ensures.seen c.in_ok-ticket.ensures.place c.in_ok-ticket.ensures.ok c.move_on.ensures c.next_number-number.ensures c.note_margin.ensures c.in_ok-bytes.ensures.fits allowed)

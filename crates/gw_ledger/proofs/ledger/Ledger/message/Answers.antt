use Rattle.std.proofs.Common.{◌≡◌, ◌++◌, ◌∷◌, [], ap, refl, sym, ◌∙◌}
use Rattle.gw_due.specs.Views as view
use Rattle.gw_journal.specs.declared.event.Event.TheVariants.{Read}
use Rattle.gw_ledger.specs.Ledgers.{LedgerState}
use Rattle.gw_ledger.proofs.Passing.{message_read}
use Rattle.gw_ledger.proofs.ledger.Ledger.message.Goals as goal

pub invariant_of-result : goal.invariant_of-result
invariant_of-result g c =
    let old = c.args.self.now.desk.history in
    let now : c.again.result ≡ old ++ Read c.args.place c.args.bytes.now ∷ [] =
    c.again.ensures ∙ c.front.ensures ∙ ap (λ (l : LedgerState g.row.S.Denot). l.desk.history) c.self-2.view_is
    ∙ ap (λ (l : LedgerState g.row.S.Denot). l.desk.history) (c.if-not-note_read.ensures.noted refl) in
    message_read g.J.Naming.before c.args.place old c.again.result c.args.bytes.now (view.entry c.in-Ok.entry) now c.in-Ok.ensures.found
    (sym c.is_acceptance.ensures ∙ c.if-not-is_acceptance.false)

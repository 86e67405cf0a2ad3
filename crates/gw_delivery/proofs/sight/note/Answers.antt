use Rattle.std.proofs.Common.{◌≡◌, ◌++◌, ◌∷◌, [], ap, refl, ◌∙◌}
use Rattle.gw_journal.specs.declared.event.Event.TheVariants.{Read}
use Rattle.gw_ledger.specs.Ledgers.{LedgerState}
use Rattle.gw_delivery.proofs.Seeing.{noted}
use Rattle.gw_delivery.proofs.sight.note.Goals as goal

pub invariant_of-result : goal.invariant_of-result
invariant_of-result g c =
    let old = c.args.ledger.now.desk.history in
    let read = rw c.deref.ensures.value at c.if-not-note_read.ensures.noted refl in
    let now : c.again.result ≡ old ++ Read c.args.page.place c.args.page.bytes.items ∷ [] =
    c.again.ensures ∙ c.front.ensures ∙ ap (λ (l : LedgerState g.row.S.Denot). l.desk.history) read in
    noted g.J.Naming.before c.args.page.place c.args.page.bytes.items old c.again.result now

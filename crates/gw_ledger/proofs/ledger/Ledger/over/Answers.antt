use Rattle.std.proofs.Common.{◌≡◌, ◌++◌, ◌∷◌, [], ap, refl, sym, ◌∙◌, subst}
use mathlib.Core.List.{IsPrefix}
use Rattle.gw_due.specs.Views as view
use Rattle.gw_journal.specs.declared.event.Event.TheVariants.{Read}
use Rattle.gw_ledger.specs.Finding.{ScanState}
use Rattle.gw_ledger.specs.Ledgers.{LedgerState}
use Rattle.gw_ledger.proofs.Passing.{over_found, over_none}
use Rattle.gw_ledger.proofs.ledger.Ledger.over.Goals as goal

pub invariant_of-result : goal.invariant_of-result
invariant_of-result g c =
    let scan : ScanState = record { receiver = c.scan.inside.receiver; from = c.scan.inside.from; at = c.scan.inside.at; history = c.scan.inside.front } in
    let old = c.args.self.now.desk.history in
    let now : c.again-front.result ≡ old ++ Read c.scan.inside.at c.args.bytes.now ∷ [] =
    c.again-front.ensures ∙ c.front-2.ensures ∙ ap (λ (l : LedgerState g.row.S.Denot). l.desk.history) c.self-2.view_is
    ∙ ap (λ (l : LedgerState g.row.S.Denot). l.desk.history) (c.if-not-note_read.ensures.noted refl) in
    let begun : IsPrefix c.scan.inside.front old =
    subst (λ h. IsPrefix c.scan.inside.front h) (c.front.ensures ∙ ap (λ (l : LedgerState g.row.S.Denot). l.desk.history) c.self.view_is) c.if-not-begins.ensures.begins in
    over_found g.J.Naming.before scan old c.again-front.result c.args.bytes.now (view.entry c.in-Ok.entry) c.scan.invariant begun now c.in-Ok.ensures.found
    (sym c.makes_due.ensures ∙ c.if-makes_due.true)

pub invariant_of-scan : goal.invariant_of-scan
invariant_of-scan g c =
    let scan : ScanState = record { receiver = c.scan.inside.receiver; from = c.scan.inside.from; at = c.scan.inside.at; history = c.scan.inside.front } in
    let old = c.args.self.now.desk.history in
    let now : c.again-front.result ≡ old ++ Read c.scan.inside.at c.args.bytes.now ∷ [] =
    c.again-front.ensures ∙ c.front-2.ensures ∙ ap (λ (l : LedgerState g.row.S.Denot). l.desk.history) c.self-2.view_is
    ∙ ap (λ (l : LedgerState g.row.S.Denot). l.desk.history) (c.if-not-note_read.ensures.noted refl) in
    let begun : IsPrefix c.scan.inside.front old =
    subst (λ h. IsPrefix c.scan.inside.front h) (c.front.ensures ∙ ap (λ (l : LedgerState g.row.S.Denot). l.desk.history) c.self.view_is) c.if-not-begins.ensures.begins in
    over_none g.J.Naming.before scan old c.again-front.result c.args.bytes.now (view.entry c.in-Ok.entry) c.scan.invariant begun now c.in-Ok.ensures.found
    (sym c.makes_due.ensures ∙ c.if-makes_due.false)

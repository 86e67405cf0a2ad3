use Rattle.std.proofs.Common.{◌≡◌, ◌+◌, refl, sym, ◌∙◌, subst, arith}
use Rattle.std.proofs.lemmas.Bool.Decides.{nat_tests}
use mathlib.Core.List.{IsPrefix}
use Rattle.gw_due.specs.Views as view
use Rattle.gw_ledger.specs.Finding.{InJournal}
use Rattle.gw_delivery.specs.Seen.{IsEventAt, UnderState}
use Rattle.gw_delivery.proofs.Seeing.{goes_on_in}
use Rattle.gw_delivery.proofs.under.moved_on.Goals as goal

pub invariant_of-result : goal.invariant_of-result
invariant_of-result g c =
    let before = g.J.Naming.before in
    let u : UnderState = record { at = c.under.inside.at; text = c.under.inside.text.items; history = c.under.inside.front } in
    let e = view.event c.args.event.now in
    let now : c.args.sight.now.history ≡ c.again.result = sym (c.again.ensures ∙ c.front-2.ensures) in
    let test = c.if-under-place.false in
    let place = c.place.ensures in
    let same : c.args.sight.now.place ≡ c.under.inside.at = grind (arith, nat_tests) in
    let begins : IsPrefix c.under.inside.front c.again.result =
    subst (λ h. IsPrefix c.under.inside.front h) (c.front.ensures ∙ now) c.if-not-begins.ensures.begins in
    let stands : InJournal (IsEventAt c.under.inside.at e) before c.again.result =
    subst (λ h. InJournal (IsEventAt c.under.inside.at e) before h) now
    (subst (λ k. InJournal (IsEventAt k e) before c.args.sight.now.history) same c.requires.stands) in
    goes_on_in before u (c.under.inside.at + 1) e c.again.result c.requires.none refl c.under.invariant begins stands

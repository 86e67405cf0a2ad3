use Rattle.std.proofs.Common.{◌≡◌, ◌∙◌, subst, arith}
use Rattle.std.proofs.lemmas.Bool.Decides.{nat_tests}
use mathlib.Core.List.{IsPrefix}
use Rattle.gw_delivery.proofs.Making.{there_ok}
use Rattle.gw_delivery.proofs.finder.made_there.Goals as goal

pub returns : goal.returns
returns g c =
    let history = c.args.sight.now.history in
    let test = c.if-at-place.false in
    let place = c.place-place.ensures in
    let at = c.at.ensures in
    let same : c.args.sight.now.place ≡ c.in-Some.under.at = grind (arith, nat_tests) in
    let begins : IsPrefix c.in-Some.under.history history =
    subst (λ h. IsPrefix h history) c.front.ensures (subst (λ h. IsPrefix c.front.result.now h) c.front-else-at-place.ensures c.if-not-begins.ensures.begins) in
    let stands = rw c.in-Accepted.is at c.in_ok-entry.ensures in
    let made = rw (c.in_ok-plan.ensures ∙ c.text.ensures.text) at c.made.ensures in
    there_ok _ g.J.Naming.before c.in-Some.under c.args.sight.now.place history c.args.name.now c.in-Accepted.bytes.now c.in-Accepted.number
    c.in-Accepted.to.items c.made.result c.text.ensures.under same begins stands made

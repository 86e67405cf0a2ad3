use Rattle.std.proofs.Common.{◌≡◌, ◌+◌, refl, sym, ◌∙◌, subst}
use Rattle.gw_due.specs.Events.{Planned}
use Rattle.gw_ledger.specs.Finding.{InJournal}
use Rattle.gw_delivery.specs.Seen.{IsEventAt}
use Rattle.gw_delivery.proofs.Seeing.{planned_in}
use Rattle.gw_delivery.proofs.under.planned.Goals as goal

pub invariant_of-result : goal.invariant_of-result
invariant_of-result g c =
    let before = g.J.Naming.before in
    let now : c.args.sight.now.history ≡ c.again.result = sym (c.again.ensures ∙ c.front.ensures) in
    let text = c.in_ok-text.text.items in
    let stands : InJournal (IsEventAt c.place-place.result (Planned text)) before c.again.result =
    subst (λ h. InJournal (IsEventAt c.place-place.result (Planned text)) before h) now
    (subst (λ k. InJournal (IsEventAt k (Planned text)) before c.args.sight.now.history) (sym c.place-place.ensures)
    (subst (λ t. InJournal (IsEventAt c.args.sight.now.place (Planned t)) before c.args.sight.now.history) (sym c.in_ok-text.ensures.items) c.requires)) in
    planned_in before c.place-place.result (c.place-place.result + 1) text c.again.result refl stands

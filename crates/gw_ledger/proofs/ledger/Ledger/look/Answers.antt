use Rattle.std.proofs.Common.{rules, ◌≡◌, false, sym, ◌∙◌, subst}
use Rattle.std.specs.Prelude.{is_some}
use Rattle.gw_ledger.specs.Accepting.{IsLook}
use Rattle.gw_ledger.proofs.Routing.{look_now}
use Rattle.gw_ledger.proofs.ledger.Ledger.look.Goals as goal

pub invariant_of-result : goal.invariant_of-result
invariant_of-result g c =
    let well : is_some c.self.inside.desk.fault ≡ false = search rules in
    subst (λ h. IsLook g.J.Naming.before (record { place = c.in_ok-place.place; history = h })) (sym (c.again.ensures ∙ c.front.ensures))
    (look_now g.R.Rules.routes g.J.Naming.before c.self.inside.desk.history c.self.inside.state c.in_ok-place.place (sym c.in_ok-place.ensures) (c.self.invariant.0 well))

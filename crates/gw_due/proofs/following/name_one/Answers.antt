use Rattle.std.proofs.Common.{◌∙◌, ap, sym, refl, ◌++◌, ◌∷◌, []}
use Rattle.std.specs.List.{position}
use Rattle.gw_due.proofs.Receivers.{has_number, at_found, at_none}
use Rattle.gw_due.proofs.following.name_one.Goals as goal

pub returns-in_ok-address-in-Some-clause-ok : goal.returns-in_ok-address-in-Some-clause-ok
returns-in_ok-address-in-Some-clause-ok c =
    let x = c.index_mut.result.now in
    at_found c.args.number c.args.name.now c.args.address.now c.args.receivers.now.items c.in-Some.place x c.move_to.new.self
    (ap (position (has_number c.args.number)) (sym c.deref.ensures.value) ∙ sym c.in-Some.ensures)
    (c.move_to.ensures ∙ rw (c.in_ok-address-in-Some.ensures.items, ← c.index_mut.ensures.value) refl)

pub returns-in_ok-push-in-None-clause-ok : goal.returns-in_ok-push-in-None-clause-ok
returns-in_ok-push-in-None-clause-ok c =
    c.in_ok-push-in-None.ensures.items ∙ ap (λ r. c.args.receivers.now.items ++ r ∷ []) c.in_ok-one-in-None.ensures
    ∙ at_none c.args.number c.args.name.now c.args.address.now c.args.receivers.now.items (ap (position (has_number c.args.number)) (sym c.deref.ensures.value) ∙ sym c.in-None.ensures)

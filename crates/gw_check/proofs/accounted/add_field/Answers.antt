use Rattle.std.proofs.Common.{refl, subst}
use Rattle.gw_check.specs.Reads.{is_field}
use Rattle.gw_check.specs.declared.accounted.Accounted.{Accounted}
use Rattle.gw_check.specs.Collected.{Gains, no_element}
use Rattle.gw_check.proofs.Accounting.{field_added}
use Rattle.gw_check.proofs.accounted.add_field.Goals as goal

pub returns : goal.returns
returns c =
    let new : Accounted = record { alloc = c.args.known.now.alloc; fields = c.insert.new.self; elements = c.args.known.now.elements } in
    subst (λ at. Gains c.args.known.now new (is_field at c.args.field) no_element) c.in_ok-at.ensures.items
    (field_added c.args.known.now (record { at = c.in_ok-at.at; field = c.args.field }) new c.in_ok-insert.ensures.keys refl)

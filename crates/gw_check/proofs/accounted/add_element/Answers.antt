use Rattle.std.proofs.Common.{refl, subst}
use Rattle.gw_check.specs.Reads.{is_element}
use Rattle.gw_check.specs.declared.accounted.Accounted.{Accounted}
use Rattle.gw_check.specs.Collected.{Gains, no_field}
use Rattle.gw_check.proofs.Accounting.{element_added}
use Rattle.gw_check.proofs.accounted.add_element.Goals as goal

pub returns : goal.returns
returns c =
    let new : Accounted = record { alloc = c.args.known.now.alloc; fields = c.args.known.now.fields; elements = c.insert.new.self } in
    subst (λ at. Gains c.args.known.now new no_field (is_element at)) c.in_ok-at.ensures.items
    (element_added c.args.known.now c.in_ok-at.at new c.in_ok-insert.ensures.keys refl)

use Rattle.std.proofs.Common.{◌≡◌, List, [], ◌∷◌, None, refl, sym, ap, ◌∙◌, subst, option_map}
use Rattle.std.specs.Arc.{arc_value}
use Rattle.gw_check.specs.Checked.{least}
use Rattle.gw_check.specs.Kept.{IsChecked}
use Rattle.gw_check.proofs.Sharing.{as_given}
use Rattle.gw_resolve.specs.Seen.{failure, failures}
use Rattle.gw_resolve.specs.declared.failure.Failure.{Failure}
use Rattle.gw_check.proofs.rules.examine_by.Goals as goal

-- where there is none, there are no failures
none_least : (l : List Failure) → None ≡ least (failures l) → l ≡ []
none_least [] e = refl
none_least (f ∷ fs) e = absurd (cc)

pub of-requires : goal.of-requires
of-requires c =
    let none = none_least c.in-Ok.examined.findings.found.items (sym (ap (option_map failure) c.in-None.is) ∙ c.least.ensures ∙ ap (λ l. least (failures l)) c.deref-3.ensures.value) in
    let is = c.in-Ok.ensures.items none in
    subst (λ s. IsChecked (record { source = s; target = arc_value c.args.target; map = c.args.map; items = c.in-Ok.examined.items.items })) c.deref.ensures
    (subst (λ t. IsChecked (record { source = c.deref.result.now; target = t; map = c.args.map; items = c.in-Ok.examined.items.items })) c.deref-2.ensures
    (record { source = is.source; target = is.target; none_fails = sym c.in-Ok.ensures.found ∙ ap failures none; items = is.items }))

pub look-requires : goal.look-requires
look-requires c = as_given c.args.compared.now (sym c.deref.ensures) (sym c.deref-2.ensures) c.requires

pub returns-in_default-clause-compared : goal.returns-in_default-clause-compared
returns-in_default-clause-compared c = as_given c.look.new.compared c.deref.ensures c.deref-2.ensures c.in_default.ensures.compared

pub returns-in-None-clause-compared : goal.returns-in-None-clause-compared
returns-in-None-clause-compared c = as_given c.look.new.compared c.deref.ensures c.deref-2.ensures c.in-Ok.ensures.compared

pub returns-in-Some-clause-compared : goal.returns-in-Some-clause-compared
returns-in-Some-clause-compared c = as_given c.look.new.compared c.deref.ensures c.deref-2.ensures c.in-Ok.ensures.compared

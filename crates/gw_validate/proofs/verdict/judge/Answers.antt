use Rattle.std.proofs.Common.{◌∙◌, sym, subst, List, map}
use Rattle.gw_profile.specs.declared.node.Node.{Node}
use Rattle.gw_profile.specs.Seen.{forest, profile_value}
use Rattle.gw_validate.specs.Cuts.{Fits}
use Rattle.gw_validate.specs.Conforming.{named}
use Rattle.gw_validate.proofs.Deciding.{taken_fit, conforming_fits, fits_judged}
use Rattle.gw_validate.proofs.verdict.judge.Goals as goal

pub build-requires-clause-fits : goal.build-requires-clause-fits
build-requires-clause-fits c =
    let p = profile_value c.args.profile.now in
    subst (λ (l : List Node). Fits (forest l) (map (named c.args.message.now) c.deref-in-None.result.now)) (sym c.nodes.ensures.value)
    (taken_fit (forest c.args.profile.now.nodes) c.args.message.now c.deref-in-None.result.now (c.deref-in-None.ensures.value ∙ c.in_ok-taken.ensures)
    (conforming_fits p c.args.message.now c.nodes.ensures.formed.determined (rw c.in-None.is at c.in_ok-breach.ensures)))

pub returns-in_ok-found-in-None : goal.returns-in_ok-found-in-None
returns-in_ok-found-in-None c =
    fits_judged (profile_value c.args.profile.now) c.args.message.now c.nodes.ensures.formed.determined c.in_ok-found-in-None.found c.in_ok-taken.taken.items c.in_ok-taken.ensures
    (rw (c.deref-in-None.ensures.value, c.nodes.ensures.value) at c.in_ok-found-in-None.ensures.tree)
    (rw c.nodes.ensures.value at c.in_ok-found-in-None.ensures.ordered)
    (rw c.in-None.is at c.in_ok-breach.ensures)

pub returns-in-Some : goal.returns-in-Some
returns-in-Some c = rw c.in-Some.is at c.in_ok-breach.ensures

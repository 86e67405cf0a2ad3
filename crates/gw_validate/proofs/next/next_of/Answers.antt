use Rattle.std.proofs.lemmas.Result.{IfOk-weaker}
use Rattle.gw_profile.specs.Deterministic.{NoName}
use Rattle.gw_profile.specs.Shapes.{nothing}
use Rattle.gw_validate.proofs.Going.{none_next, are_next, taken_one, taken_none, at_last}
use Rattle.gw_validate.proofs.next.next_of.Goals as goal

pub returns-in_default : goal.returns-in_default
returns-in_default c =
    none_next _ c.args.names.now _ (taken_none _ NoName c.requires c.args.names.now c.loop-name.name-index _ nothing c.loop-name.invariant c.loop-name-test.true (rw c.in_default.is at c.in_ok-advance.ensures)) _ c.new.ensures.items

pub loop-name-preserved : goal.loop-name-preserved
loop-name-preserved c =
    let went = rw c.in-Some.is at c.in_ok-advance.ensures in
    taken_one _ NoName c.requires c.args.names.now c.loop-name.name-index _ _ c.loop-name.invariant c.loop-name-test.true went.0

pub returns : goal.returns
returns c =
    IfOk-weaker c.first_of_stack.result _ _ (λ found. are_next _ NoName c.requires c.args.names.now _ (at_last _ _ c.args.names.now c.loop-name.name-index c.loop-name.invariant c.loop-name-test.false) found.items) c.first_of_stack.ensures

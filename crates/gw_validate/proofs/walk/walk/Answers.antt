use Rattle.std.proofs.Common.{sym, map}
use Rattle.gw_validate.proofs.Passed.{out_of_order, goes_on, at_end, at_start, complete, incomplete}
use Rattle.gw_validate.specs.Conforming.{named}
use Rattle.gw_profile.specs.Shapes.{nothing}
use Rattle.gw_profile.specs.Deterministic.{NoName}
use Rattle.gw_validate.proofs.walk.walk.Goals as goal

pub loop-i-init : goal.loop-i-init
loop-i-init c = rw c.in_ok-shapes.ensures.items (at_start _ _ (map (named c.args.message.now) c.args.taken.now) c.in_ok-stack.ensures)

pub returns-in_default : goal.returns-in_default
returns-in_default c =
    out_of_order _ NoName c.requires (named c.args.message.now) c.args.taken.now c.loop-i.shapes.items c.loop-i.i _ nothing c.loop-i.invariant c.loop-i-test.true c.name_at.result c.name_at.ensures (rw c.in_default.is at c.in_ok-fields.ensures)

pub loop-i-preserved : goal.loop-i-preserved
loop-i-preserved c =
    goes_on _ NoName c.requires (named c.args.message.now) c.args.taken.now c.loop-i.shapes.items c.loop-i.i _ _ c.loop-i.invariant c.loop-i-test.true c.name_at.result c.name_at.ensures c.in-Some.fields c.push.new.self.items c.in_ok-push.ensures.items (rw c.in-Some.is at c.in_ok-fields.ensures)

pub returns-in-None : goal.returns-in-None
returns-in-None c =
    let walked = at_end _ _ (named c.args.message.now) c.args.taken.now c.loop-i.shapes.items c.loop-i.i c.loop-i.invariant c.loop-i-test.false in
    complete _ NoName c.requires (map (named c.args.message.now) c.args.taken.now) _ walked.left_is c.loop-i.shapes walked.takes (sym c.in-None.ensures)

pub returns : goal.returns
returns c =
    let walked = at_end _ _ (named c.args.message.now) c.args.taken.now c.loop-i.shapes.items c.loop-i.i c.loop-i.invariant c.loop-i-test.false in
    incomplete _ NoName c.requires (map (named c.args.message.now) c.args.taken.now) _ walked.left_is c.in-Some-missing.name (sym c.in-Some-missing.ensures)

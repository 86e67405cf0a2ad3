use Rattle.gw_validate.proofs.Going.{first_on, first_ended}
use Rattle.gw_validate.proofs.next.first_of_stack.Goals as goal

pub returns-then-not-branch : goal.returns-then-not-branch
returns-then-not-branch c =
    first_ended c.in-Some.frame c.args.stack.items c.pop.new.self.items c.loop-frame.stack.items c.loop-frame.found.items c.add_of_frame.new.found.items c.in_ok-add_of_frame.field-0 c.loop-frame.invariant c.in-Some.ensures.items c.in_ok-add_of_frame.ensures.names c.in_ok-add_of_frame.ensures.optional c.if-not-branch.true

pub loop-frame-preserved : goal.loop-frame-preserved
loop-frame-preserved c =
    first_on c.in-Some.frame c.args.stack.items c.pop.new.self.items c.loop-frame.stack.items c.loop-frame.found.items c.add_of_frame.new.found.items c.in_ok-add_of_frame.field-0 c.loop-frame.invariant c.in-Some.ensures.items c.in_ok-add_of_frame.ensures.names c.in_ok-add_of_frame.ensures.optional c.if-not-branch.false

use Rattle.gw_validate.proofs.Joined.{advance_taken, advance_stuck, advance_passed, comes_all}
use Rattle.gw_validate.proofs.walk.advance_on.Goals as goal

pub returns-in-Taken : goal.returns-in-Taken
returns-in-Taken c =
    advance_taken c.in-Some.frame c.args.name c.args.stack.now.items c.pop.new.self.items c.take_frame.new.stack.items c.loop-frame.stack.items c.loop-frame.invariant c.in-Some.ensures.items c.in-Taken.fields (rw c.in-Taken.is at c.in_ok-fields.ensures)

pub returns-in-Stuck : goal.returns-in-Stuck
returns-in-Stuck c =
    advance_stuck c.in-Some.frame c.args.name c.args.stack.now.items c.pop.new.self.items c.take_frame.new.stack.items c.loop-frame.stack.items c.loop-frame.invariant c.in-Some.ensures.items (rw c.in-Stuck.is at c.in_ok-fields.ensures)

pub loop-frame-preserved : goal.loop-frame-preserved
loop-frame-preserved c =
    advance_passed c.in-Some.frame c.args.name c.args.stack.now.items c.pop.new.self.items c.take_frame.new.stack.items c.loop-frame.stack.items c.loop-frame.invariant c.in-Some.ensures.items (rw c.in-Passed.is at c.in_ok-fields.ensures)

pub loop-frame-init : goal.loop-frame-init
loop-frame-init c = comes_all c.args.stack.now.items c.args.name

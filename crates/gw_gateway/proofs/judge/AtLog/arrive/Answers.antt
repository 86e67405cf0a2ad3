use Rattle.std.proofs.Common.{◌∙◌, ap}
use Rattle.gw_er7.specs.Written.{written}
use Rattle.gw_gateway.proofs.Arriving.{arrived_so, unsettled_so}
use Rattle.gw_gateway.proofs.judge.AtLog.arrive.Goals as goal

pub returns-in-Ok-clause-ok : goal.returns-in-Ok-clause-ok
returns-in-Ok-clause-ok g c =
    arrived_so g.J.Naming.before c.args.self.now.waiting c.note_due.new.self.waiting c.wait_for.new.self c.outcome.new.self.waiting c.args.conforming.now.tree.message
    c.in-Ok.number c.outcome.result.number c.time-time.result c.outcome.result.reply c.in_ok-to.to.items c.deref-2.result.now c.in-Ok.ticket
    c.in_ok-note_due.ensures c.wait_for.ensures.on c.outcome.ensures.same c.wait_for.ensures.seen c.wait_for.ensures.below
    (c.deref-2.ensures.value ∙ c.in_ok-bytes.ensures.value ∙ ap written c.message.ensures) c.in-Ok.ensures.put c.outcome.ensures.number c.outcome.ensures.reply

pub returns-in-Err-Disk-clause-ok : goal.returns-in-Err-Disk-clause-ok
returns-in-Err-Disk-clause-ok g c =
    unsettled_so g.J.Naming.before c.args.self.now.waiting c.note_due.new.self.waiting c.outcome-in-Err-Disk.new.self.waiting c.args.conforming.now.tree.message
    c.outcome-in-Err-Disk.result.number c.outcome-in-Err-Disk.result.reply c.in_ok-note_due.ensures c.outcome-in-Err-Disk.ensures.same c.outcome-in-Err-Disk.ensures.reply

pub returns-clause-ok : goal.returns-clause-ok
returns-clause-ok g c =
    unsettled_so g.J.Naming.before c.args.self.now.waiting c.note_due.new.self.waiting c.outcome-in-Err.new.self.waiting c.args.conforming.now.tree.message
    c.outcome-in-Err.result.number c.outcome-in-Err.result.reply c.in_ok-note_due.ensures c.outcome-in-Err.ensures.same c.outcome-in-Err.ensures.reply

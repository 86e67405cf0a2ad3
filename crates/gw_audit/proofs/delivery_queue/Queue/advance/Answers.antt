use Rattle.std.proofs.Common.{subst}
use Rattle.gw_gate.specs.Entries.{entry_seen}
use Rattle.gw_gate.specs.own.Desks.{desk_seen}
use Rattle.gw_audit.specs.own.Queues.{Advanced, QueueSeen}
use Rattle.gw_audit.proofs.delivery_queue.Queue.advance.Goals as goal

pub returns : goal.returns
returns c =
    let new : QueueSeen = record { desk = desk_seen c.enter.new.desk; turns = c.turn_to.new.ats.items } in
    let done : Advanced (entry_seen c.args.entry.now) c.args.at (record { desk = desk_seen c.self.inside.desk; turns = c.self.inside.turns.items }) new =
    record { desk = c.in_ok-enter.ensures; turns = rw c.has_nothing-nothing.ensures at c.in_ok-turn_to.ensures } in
    subst (λ (old : QueueSeen). Advanced (entry_seen c.args.entry.now) c.args.at old new) c.self.view_is done

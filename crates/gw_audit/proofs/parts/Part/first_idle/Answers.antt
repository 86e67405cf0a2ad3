use Rattle.gw_gate.specs.own.Books.{journal_of}
use Rattle.gw_gate.specs.Entries.{entries_seen, start_seen}
use Rattle.gw_gate.specs.Replies.{Takes, reply_to}
use Rattle.gw_audit.specs.Settled.{is_idle}
use Rattle.gw_audit.specs.own.Joins.{begun}
use Rattle.gw_audit.proofs.parts.Part.first_idle.Goals as goal

pub returns : goal.returns
returns c =
    let j = journal_of (start_seen c.self.inside.start.now) (entries_seen c.self.inside.entries.now) in
    rw (← c.self.view_is) (c.first_even.ensures (λ k. is_idle (reply_to (begun j k) Takes)) (rw c.deref.ensures.value c.self.invariant.idle_at))

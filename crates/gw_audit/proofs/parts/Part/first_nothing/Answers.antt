use Rattle.std.proofs.Common.{◌∙◌, ap}
use Rattle.gw_gate.specs.own.Books.{journal_of}
use Rattle.gw_gate.specs.Entries.{entries_seen, start_seen}
use Rattle.gw_gate.specs.Replies.{Releases, reply_to}
use Rattle.gw_audit.specs.Settled.{is_nothing}
use Rattle.gw_audit.specs.own.Joins.{begun}
use Rattle.gw_audit.specs.own.Queues.{queue_at}
use Rattle.gw_audit.proofs.parts.Part.first_nothing.Goals as goal

pub returns : goal.returns
returns c =
    let j = journal_of (start_seen c.self.inside.start.now) (entries_seen c.self.inside.entries.now) in
    let turns = c.turns_for.ensures ∙ ap (λ l. (queue_at l c.args.receiver).turns) c.deref.ensures.value in
    rw (← c.self.view_is)
    (c.first_even.ensures (λ k. is_nothing (reply_to (begun j k) (Releases c.args.receiver))) (rw turns (c.self.invariant.nothing c.args.receiver)))

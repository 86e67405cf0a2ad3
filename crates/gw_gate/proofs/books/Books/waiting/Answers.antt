use Rattle.std.proofs.Common.{ap, sym, ◌∙◌}
use Rattle.gw_reorder.specs.Calls.{next_of}
use Rattle.gw_gate.specs.Entries.{entries_seen, start_seen}
use Rattle.gw_gate.specs.Replies.{Releases, reply_to}
use Rattle.gw_gate.specs.own.Desks.{desk_at}
use Rattle.gw_gate.proofs.Accounts.{release_is}
use Rattle.gw_gate.proofs.books.Books.waiting.Goals as goal

pub returns : goal.returns
returns c =
    let s = c.self.inside in
    let r = c.args.receiver in
    ap (λ j. reply_to j (Releases r)) (sym c.self.view_is)
    ∙ release_is (start_seen s.start) (entries_seen s.journal.items) r (desk_at s.desks.items r) _ (c.self.invariant.desks r)
    (c.next_at.ensures ∙ ap (λ ds. next_of (desk_at ds r)) c.deref.ensures.value)

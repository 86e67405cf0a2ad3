use Rattle.std.proofs.Common.{ap, sym, ◌∙◌}
use Rattle.gw_reorder.specs.Calls.{status_of}
use Rattle.gw_gate.specs.Entries.{entries_seen, start_seen}
use Rattle.gw_gate.specs.Replies.{Reissues, reply_to}
use Rattle.gw_gate.specs.own.Desks.{desk_at}
use Rattle.gw_gate.proofs.Accounts.{reissue_is}
use Rattle.gw_gate.proofs.books.Books.pair_status.Goals as goal

pub returns : goal.returns
returns c =
    let s = c.self.inside in
    let n = c.args.n in
    let r = c.args.receiver in
    ap (λ j. reply_to j (Reissues n r)) (sym c.self.view_is)
    ∙ reissue_is (start_seen s.start) (entries_seen s.journal.items) n r (desk_at s.desks.items r) c.status_at.result (c.self.invariant.desks r)
    (c.status_at.ensures ∙ ap (λ ds. status_of (desk_at ds r) n) c.deref.ensures.value)

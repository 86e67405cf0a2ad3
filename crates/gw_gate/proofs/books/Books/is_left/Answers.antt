use Rattle.std.proofs.Common.{ap, ◌∙◌, length}
use Rattle.std.specs.Prelude.{nat_lt, not}
use Rattle.gw_gate.specs.Journal.{issued, jobs}
use Rattle.gw_gate.specs.Entries.{entries_seen, start_seen}
use Rattle.gw_gate.specs.Values.{pair_seen}
use Rattle.gw_gate.proofs.Queue.{is_left}
use Rattle.gw_gate.proofs.books.Books.is_left.Goals as goal

pub returns : goal.returns
returns c =
    let s = c.self.inside in
    ap not c.is_empty.ensures ∙ is_left (start_seen s.start) (entries_seen s.journal.items) s.places.items pair_seen s.queue.items _ s.queue.ok.0 c.self.invariant.queue
    ∙ ap (λ j. nat_lt (jobs j.entries) (length (issued j.entries))) c.self.view_is

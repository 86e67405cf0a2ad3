use Rattle.std.proofs.Common.{Some, ap, sym, ◌∙◌, map}
use Rattle.std.specs.Option.{option_map}
use Rattle.std.proofs.lemmas.Option.{slice_get-map}
use Rattle.gw_gate.specs.Journal.{acceptance}
use Rattle.gw_gate.specs.Entries.{entries_seen, start_seen}
use Rattle.gw_gate.specs.Values.{pair_seen}
use Rattle.gw_gate.specs.Replies.{Takes, job_with, reply_to}
use Rattle.gw_gate.proofs.Lending.{lent_at}
use Rattle.gw_gate.proofs.Queue.{job_is}
use Rattle.gw_gate.proofs.books.Books.next.Goals as goal

pub returns-in_default-accepted : goal.returns-in_default-accepted
returns-in_default-accepted c =
    let s = c.self.inside in
    let pair = pair_seen c.in-Some.pair.now in
    let first = slice_get-map pair_seen s.queue.items 0 ∙ ap (option_map pair_seen) (sym (lent_at s.queue.items 0 (Some c.in-Some.pair) c.in-Some.ensures.item)) in
    ap (λ j. reply_to j Takes) (sym c.self.view_is)
    ∙ job_is (start_seen s.start) (entries_seen s.journal.items) s.places.items (map pair_seen s.queue.items) c.self.invariant.queue (Some pair) first
    ∙ ap (job_with pair) (ap (λ j. acceptance j.entries pair.n) c.self.view_is ∙ c.in_default-accepted.ensures)

pub returns : goal.returns
returns c =
    let s = c.self.inside in
    let pair = pair_seen c.in-Some.pair.now in
    let first = slice_get-map pair_seen s.queue.items 0 ∙ ap (option_map pair_seen) (sym (lent_at s.queue.items 0 (Some c.in-Some.pair) c.in-Some.ensures.item)) in
    ap (λ j. reply_to j Takes) (sym c.self.view_is)
    ∙ job_is (start_seen s.start) (entries_seen s.journal.items) s.places.items (map pair_seen s.queue.items) c.self.invariant.queue (Some pair) first
    ∙ ap (job_with pair) (ap (λ j. acceptance j.entries pair.n) c.self.view_is ∙ c.in-Some-accepted.ensures)

use Rattle.std.proofs.Common.{ap, subst, ◌∙◌}
use Rattle.gw_gate.specs.Chapters.{some_await}
use Rattle.gw_gate.specs.Entries.{entries_seen}
use Rattle.gw_gate.specs.own.Desks.{desk_at, Waits}
use Rattle.gw_gate.proofs.Waiting.{some_is}
use Rattle.gw_gate.proofs.books.Books.some_awaits.Goals as goal

pub returns : goal.returns
returns c =
    let s = c.self.inside in
    some_is (entries_seen s.journal.items) (desk_at s.desks.items) c.some_wait.result c.self.invariant.desks (subst (λ ds. Waits (desk_at ds) c.some_wait.result) c.deref.ensures.value c.some_wait.ensures)
    ∙ ap (λ j. some_await j.entries) c.self.view_is

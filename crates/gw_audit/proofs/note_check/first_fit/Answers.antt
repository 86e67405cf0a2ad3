use Rattle.std.proofs.Common.{◌+◌, Some, None, drop, refl, sym, subst, rules}
use Rattle.std.proofs.lemmas.List.{drop_all}
use Rattle.gw_crew.specs.Seen.{note_seen}
use Rattle.gw_audit.specs.own.Joins.{IsFirst}
use Rattle.gw_audit.proofs.Chaining.{first_beyond, first_here}
use Rattle.gw_audit.proofs.Following.{go_at, next_part}
use Rattle.gw_audit.proofs.note_check.first_fit.Goals as goal

pub returns-in-Some : goal.returns-in-Some
returns-in-Some c go =
    let parts = c.args.parts.now in
    let i = c.loop-part.part-index in
    let part = c.part-item.result in
    let first = c.in-Some.first in
    c.loop-part.invariant go (Some first)
    (subst (λ l. IsFirst l c.args.low (note_seen c.args.note.now) (Some first)) (sym (next_part parts i part c.loop-part-test.true c.part-item.is))
    (first_here part (drop (i + 1) parts) c.args.low (note_seen c.args.note.now) first (go_at parts i part go c.loop-part-test.true c.part-item.is)
    (rw c.in-Some.is at c.fit_in.ensures)))

pub loop-part-preserved : goal.loop-part-preserved
loop-part-preserved c go o is =
    let parts = c.args.parts.now in
    let i = c.loop-part.part-index in
    let part = c.part-item.result in
    c.loop-part.invariant go o
    (subst (λ l. IsFirst l c.args.low (note_seen c.args.note.now) o) (sym (next_part parts i part c.loop-part-test.true c.part-item.is))
    (first_beyond part (drop (i + 1) parts) c.args.low (note_seen c.args.note.now) o (rw c.in-None.is at c.fit_in.ensures) is))

pub returns : goal.returns
returns c go =
    c.loop-part.invariant go None
    (subst (λ l. IsFirst l c.args.low (note_seen c.args.note.now) None) (sym (drop_all c.loop-part.part-index c.args.parts.now (search rules))) (λ k above. refl))

use Rattle.std.proofs.Common.{◌+◌, ◌∙◌, drop, ap, sym, arith, rules}
use Rattle.std.proofs.lemmas.List.{drop_all}
use Rattle.gw_gate.specs.Entries.{entry_seen}
use Rattle.gw_audit.specs.Settled.{stands}
use Rattle.gw_audit.proofs.Following.{go_at, next_part, none_stand, stands_here, stands_later}
use Rattle.gw_audit.proofs.note_check.stands.Goals as goal

pub returns-then-at-end-clause-exact : goal.returns-then-at-end-clause-exact
returns-then-at-end-clause-exact c go =
    let parts = c.args.parts.now in
    let i = c.loop-part.part-index in
    let e = entry_seen c.args.entry.now in
    let part = c.part-item.result in
    let lt = c.if-at-end.true in
    let last = c.end.ensures in
    c.stands_in.ensures ∙ sym (c.loop-part.invariant go ∙ ap (λ l. stands l c.args.at e) (next_part parts i part c.loop-part-test.true c.part-item.is)
    ∙ stands_here part (drop (i + 1) parts) c.args.at e (omega (arith, lt, last)))

pub loop-part-preserved : goal.loop-part-preserved
loop-part-preserved c go =
    let parts = c.args.parts.now in
    let i = c.loop-part.part-index in
    let part = c.part-item.result in
    let ge = c.if-at-end.false in
    let last = c.end.ensures in
    c.loop-part.invariant go ∙ ap (λ l. stands l c.args.at (entry_seen c.args.entry.now)) (next_part parts i part c.loop-part-test.true c.part-item.is)
    ∙ stands_later part (drop (i + 1) parts) c.args.at (entry_seen c.args.entry.now) (go_at parts i part go c.loop-part-test.true c.part-item.is)
    (omega (arith, ge, last))

pub returns-clause-exact : goal.returns-clause-exact
returns-clause-exact c go =
    let e = entry_seen c.args.entry.now in
    sym (c.loop-part.invariant go
    ∙ ap (λ l. stands l c.args.at e) (drop_all c.loop-part.part-index c.args.parts.now (search rules)) ∙ none_stand c.args.at e)

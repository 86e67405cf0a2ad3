use Rattle.std.proofs.Common.{rules}
use Rattle.gw_audit.proofs.Following.{denies, go_all, go_between, go_more}
use Rattle.gw_audit.proofs.parts.go_on.Goals as goal

pub loop-place-preserved : goal.loop-place-preserved
loop-place-preserved c =
    go_more c.args.parts.now c.loop-place.place c.index-parts-place.result c.index-parts-place-in-loop-place.result (search rules) c.loop-place-test.true
    c.index-parts-place.is c.index-parts-place-in-loop-place.is (c.is_next.ensures.0 c.if-not-is_next.false) c.loop-place.invariant

pub returns-then-not-is_next : goal.returns-then-not-is_next
returns-then-not-is_next c =
    denies c.is_next.result c.if-not-is_next.true c.is_next.ensures
    (go_between c.args.parts.now c.loop-place.place c.index-parts-place.result c.index-parts-place-in-loop-place.result (search rules) c.loop-place-test.true
    c.index-parts-place.is c.index-parts-place-in-loop-place.is)

pub returns : goal.returns
returns c = (λ t. go_all c.args.parts.now c.loop-place.place c.loop-place-test.false c.loop-place.invariant, λ go. (search rules))

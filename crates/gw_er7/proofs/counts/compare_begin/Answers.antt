use Rattle.std.proofs.Common.{arith, rules, sym, ◌∙◌}
use Rattle.gw_er7.specs.Message.{numbers}
use Rattle.gw_er7.proofs.Under.{compared_less, compared_greater, compared_short, compared_equal}
use Rattle.gw_er7.proofs.counts.compare_begin.Goals as goal

pub returns-then-i-ge4 : goal.returns-then-i-ge4
returns-then-i-ge4 c =
    sym (c.loop-i.invariant ∙ compared_short (numbers c.args.place) c.args.prefix.now c.loop-i.i (search rules) c.loop-i-test.true)

pub returns-then-numbers-i : goal.returns-then-numbers-i
returns-then-numbers-i c =
    sym (c.loop-i.invariant ∙ compared_less (numbers c.args.place) c.args.prefix.now c.loop-i.i (search rules) c.loop-i-test.true (search rules))

pub returns-then-numbers-i-2 : goal.returns-then-numbers-i-2
returns-then-numbers-i-2 c =
    sym (c.loop-i.invariant ∙ compared_greater (numbers c.args.place) c.args.prefix.now c.loop-i.i (search rules) c.loop-i-test.true (search rules))

pub loop-i-preserved : goal.loop-i-preserved
loop-i-preserved c =
    c.loop-i.invariant ∙ compared_equal (numbers c.args.place) c.args.prefix.now c.loop-i.i (search rules) c.loop-i-test.true (omega (arith, c.if-numbers-i.false, c.if-numbers-i-2.false))

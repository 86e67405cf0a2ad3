use Rattle.std.proofs.Common.{◌+◌, sym, arith}
use Rattle.gw_er7.specs.own.Separators.{is_mark}
use Rattle.gw_er7.proofs.Scans.{fails_more, fails_two, fails_three, fails_four, passes_here, fails_all}
use Rattle.gw_er7.proofs.fields.plain_from.Goals as goal

pub returns-then-is_mark : goal.returns-then-is_mark
returns-then-is_mark c = passes_here (is_mark c.args.classes.now) c.args.bytes.now c.loop-at.at c.loop-at.invariant.plain (omega arith) (sym c.if-is_mark.ensures)

pub returns-then-is_mark-2 : goal.returns-then-is_mark-2
returns-then-is_mark-2 c =
    let plain = fails_more (is_mark c.args.classes.now) c.args.bytes.now c.loop-at.at c.loop-at.invariant.plain (sym c.if-is_mark.ensures) in
    passes_here (is_mark c.args.classes.now) c.args.bytes.now (c.loop-at.at + 1) plain (omega arith) (sym c.if-is_mark-2.ensures)

pub returns-then-is_mark-3 : goal.returns-then-is_mark-3
returns-then-is_mark-3 c =
    let plain = fails_two (is_mark c.args.classes.now) c.args.bytes.now c.loop-at.at c.loop-at.invariant.plain (sym c.if-is_mark.ensures) (sym c.if-is_mark-2.ensures) in
    passes_here (is_mark c.args.classes.now) c.args.bytes.now (c.loop-at.at + 2) plain (omega arith) (sym c.if-is_mark-3.ensures)

pub returns-then-is_mark-4 : goal.returns-then-is_mark-4
returns-then-is_mark-4 c =
    let plain = fails_three (is_mark c.args.classes.now) c.args.bytes.now c.loop-at.at c.loop-at.invariant.plain (sym c.if-is_mark.ensures) (sym c.if-is_mark-2.ensures) (sym c.if-is_mark-3.ensures) in
    passes_here (is_mark c.args.classes.now) c.args.bytes.now (c.loop-at.at + 3) plain (omega arith) (sym c.if-is_mark-4.ensures)

pub loop-at-preserved : goal.loop-at-preserved
loop-at-preserved c = record {
  within = omega arith;
  plain = fails_four (is_mark c.args.classes.now) c.args.bytes.now c.loop-at.at c.loop-at.invariant.plain (sym c.if-is_mark.ensures) (sym c.if-is_mark-2.ensures) (sym c.if-is_mark-3.ensures) (sym c.if-is_mark-4.ensures);
}

pub returns-then-is_mark-5 : goal.returns-then-is_mark-5
returns-then-is_mark-5 c = passes_here (is_mark c.args.classes.now) c.args.bytes.now c.loop-at-2.at c.loop-at-2.invariant.plain (omega arith) (sym c.if-is_mark-5.ensures)

pub loop-at-2-preserved : goal.loop-at-2-preserved
loop-at-2-preserved c = record { within = omega arith; plain = fails_more (is_mark c.args.classes.now) c.args.bytes.now c.loop-at-2.at c.loop-at-2.invariant.plain (sym c.if-is_mark-5.ensures) }

pub returns : goal.returns
returns c = fails_all (is_mark c.args.classes.now) c.args.bytes.now c.loop-at-2.at c.loop-at-2.invariant.plain c.loop-at-2.invariant.within (omega arith)

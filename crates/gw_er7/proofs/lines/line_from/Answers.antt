use Rattle.std.proofs.Common.{sym, arith}
use Rattle.gw_er7.specs.Content.{is_line_end}
use Rattle.gw_er7.proofs.Scans.{fails_more, passes_here, fails_all}
use Rattle.gw_er7.proofs.lines.line_from.Goals as goal

pub returns-then-ends_line-clause-first : goal.returns-then-ends_line-clause-first
returns-then-ends_line-clause-first c = passes_here is_line_end c.args.bytes.now c.loop-at.at c.loop-at.invariant.before (omega arith) (sym c.if-ends_line.ensures)

pub loop-at-preserved : goal.loop-at-preserved
loop-at-preserved c = record { within = omega arith; before = fails_more is_line_end c.args.bytes.now c.loop-at.at c.loop-at.invariant.before (sym c.if-ends_line.ensures) }

pub returns-clause-first : goal.returns-clause-first
returns-clause-first c = fails_all is_line_end c.args.bytes.now c.loop-at.at c.loop-at.invariant.before c.loop-at.invariant.within (omega arith)

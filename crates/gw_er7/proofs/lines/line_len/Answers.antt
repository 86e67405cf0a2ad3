use Rattle.std.proofs.Common.{◌+◌, ◌-◌, sym, arith}
use Rattle.gw_er7.specs.Content.{is_line_end}
use Rattle.gw_er7.proofs.Scans.{fails_on, passes_in}
use Rattle.gw_er7.proofs.lines.line_len.Goals as goal

pub loop-at-preserved : goal.loop-at-preserved
loop-at-preserved c = record {
  within = omega arith;
  before = fails_on is_line_end c.args.bytes.now c.loop-at.at (c.loop-at.at + 16) c.loop-at.invariant.before (sym c.if-has_line_end.ensures) (omega arith);
}

pub line_within-requires-clause-there : goal.line_within-requires-clause-there
line_within-requires-clause-there c = passes_in is_line_end c.args.bytes.now c.loop-at.at (c.loop-at.at + 16 - c.loop-at.at) (sym c.if-has_line_end.ensures)

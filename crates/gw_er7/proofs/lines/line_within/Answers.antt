use Rattle.std.proofs.Common.{◌+◌, ◌≤◌, ◌<◌, length, sym, arith}
use Rattle.std.specs.List.{position_or_len}
use Rattle.gw_er7.specs.Content.{is_line_end}
use Rattle.gw_er7.proofs.Scans.{fails_more, passes_here, not_past}
use Rattle.gw_er7.proofs.lines.line_within.Goals as goal

pub loop-at-init : goal.loop-at-init
loop-at-init c = record { below = not_past is_line_end c.args.bytes.now c.args.from c.requires.before c.requires.there; before = c.requires.before }

pub loop-at-preserved : goal.loop-at-preserved
loop-at-preserved c =
    let before = fails_more is_line_end c.args.bytes.now c.loop-at.at c.loop-at.invariant.before (sym c.loop-at-test.ensures) in
    record { below = not_past is_line_end c.args.bytes.now (c.loop-at.at + 1) before c.requires.there; before = before }

pub loop-at-smaller : goal.loop-at-smaller
loop-at-smaller c =
    let before = fails_more is_line_end c.args.bytes.now c.loop-at.at c.loop-at.invariant.before (sym c.loop-at-test.ensures) in
    let below : c.loop-at.at + 1 ≤ position_or_len is_line_end c.args.bytes.now = not_past is_line_end c.args.bytes.now (c.loop-at.at + 1) before c.requires.there in
    omega (arith, below)

pub returns-clause-first : goal.returns-clause-first
returns-clause-first c =
    let within : c.loop-at.at < length c.args.bytes.now = omega (arith, c.loop-at.invariant.below, c.requires.there) in
    passes_here is_line_end c.args.bytes.now c.loop-at.at c.loop-at.invariant.before within (sym c.loop-at-test.ensures)

use Rattle.std.proofs.Common.{rules, arith}
use Rattle.std.proofs.lemmas.List.{nil_from_length}
use Rattle.gw_mllp.specs.Taken.{contents, tail_view}
use Rattle.gw_mllp.proofs.Steps.{walk_more, walk_last}
use Rattle.gw_mllp.proofs.blocks.take_blocks.Goals as goal

pub returns-then-is_empty-clause-ok : goal.returns-then-is_empty-clause-ok
returns-then-is_empty-clause-ok c =
    walk_last (contents c.args.made.now.items) (contents c.loop-bytes.made.items) (contents c.take_block.new.made.items) (tail_view c.in_ok-tail.tail)
    c.args.piece.now c.loop-bytes.bytes.now c.in_ok-tail.after.now c.loop-bytes.invariant c.in_ok-tail.ensures.ok (nil_from_length c.in_ok-tail.after.now (search rules))

pub loop-bytes-preserved : goal.loop-bytes-preserved
loop-bytes-preserved c =
    walk_more (contents c.args.made.now.items) (contents c.loop-bytes.made.items) (contents c.take_block.new.made.items) (tail_view c.in_ok-tail.tail)
    c.args.piece.now c.loop-bytes.bytes.now c.in_ok-tail.after.now c.loop-bytes.invariant c.in_ok-tail.ensures.ok (grind arith)

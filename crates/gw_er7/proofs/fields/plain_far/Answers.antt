use Rattle.std.proofs.Common.{arith}
use Rattle.gw_er7.proofs.Marks.{plain_near, first_near}
use Rattle.gw_er7.proofs.fields.plain_far.Goals as goal

pub returns-then-near-lt-CHUNK : goal.returns-then-near-lt-CHUNK
returns-then-near-lt-CHUNK c = first_near c.args.classes.now c.args.bytes.now 32 c.plain_from-near.result c.plain_from-near.ensures (omega arith) (omega arith)

pub plain_behind-requires-clause-before : goal.plain_behind-requires-clause-before
plain_behind-requires-clause-before c = plain_near c.args.classes.now c.args.bytes.now 32 c.plain_from-near.result c.plain_from-near.ensures (omega arith)

use Rattle.std.proofs.Common.{◌++◌, arith}
use Rattle.gw_log.proofs.Losing.{nonzero-append}
use Rattle.gw_log.proofs.writing.count_of.Goals as goal

pub returns : goal.returns
returns c = omega (
  arith,
  c.count_nonzero-first.ensures.count,
  c.count_nonzero-second.ensures.count,
  c.count_nonzero.ensures.count,
  nonzero-append c.args.size.now (c.args.digest.now ++ c.args.bytes.now),
  nonzero-append c.args.digest.now c.args.bytes.now,
)

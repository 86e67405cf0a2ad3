use Rattle.std.proofs.Common.{rules}
use Rattle.gw_log.proofs.Places.{size_found}
use Rattle.gw_log.proofs.reading.block_size.Goals as goal

pub returns : goal.returns
returns c =
    size_found c.args.bytes.now c.in_ok-rest.rest.now _ _ _ c.count_at.result.0 c.size_at-size.result.0 c.in_ok-rest.ensures.cases.0 c.count_at.ensures.whole c.size_at-size.ensures.whole (search rules)

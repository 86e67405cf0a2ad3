use Rattle.std.proofs.Common.{◌≡◌, length, rules}
use Rattle.gw_log.proofs.Logs.{not_some}
use Rattle.gw_log.proofs.log.are_some.Goals as goal

pub returns-then-is_empty-clause-empty : goal.returns-then-is_empty-clause-empty
returns-then-is_empty-clause-empty c =
    let none : length c.bytes-item.result.items ≡ 0 = search rules in
    λ is some. not_some _ _ _ c.loop-bytes-test.true c.bytes-item.is none some

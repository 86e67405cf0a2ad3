use Rattle.std.proofs.Common.{rules}
use Rattle.gw_maplang.proofs.reader.is_later.Goals as goal

pub returns-then-is_some : goal.returns-then-is_some
returns-then-is_some c = rw c.in-Lookup.is (search rules)

pub returns-else-is_some : goal.returns-else-is_some
returns-else-is_some c = rw c.in-Lookup.is (search rules)

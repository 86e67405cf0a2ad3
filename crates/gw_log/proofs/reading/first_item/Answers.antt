use Rattle.std.proofs.Common.{rules}
use Rattle.gw_log.proofs.Entries.{some_item, none_item}
use Rattle.gw_log.proofs.reading.first_item.Goals as goal

pub returns-clause-some : goal.returns-clause-some
returns-clause-some c =
    some_item _ _ _ _ _ c.count_at-count.result.0 c.size_at-size.result.0 c.count_nonzero-first.result c.count_nonzero.result c.count_at-count.ensures.whole c.size_at-size.ensures.whole c.split_at.ensures.front c.split_at.ensures.back c.split_at.ensures.front_len
    (search rules) (search rules) c.count_nonzero.ensures.count (search rules)

pub returns-then-count-first-clause-none : goal.returns-then-count-first-clause-none
returns-then-count-first-clause-none c =
    none_item _ _ _ _ c.split_at.result.1.now c.count_at-count.result.0 c.size_at-size.result.0 c.count_nonzero-first.result c.count_nonzero.result c.count_at-count.ensures.whole c.size_at-size.ensures.whole c.split_at.ensures.front
    (search rules) (search rules) (search rules) c.count_nonzero.ensures.count (search rules)

use Rattle.gw_mllp.proofs.Gaps.{gap_front, starts, nothing_behind}
use Rattle.gw_mllp.proofs.blocks.cut_gap.Goals as goal

pub returns-in-None-clause-whole : goal.returns-in-None-clause-whole
returns-in-None-clause-whole c = c.split_at.ensures.by_index.0

pub returns-in-None-clause-gap : goal.returns-in-None-clause-gap
returns-in-None-clause-gap c = gap_front _ c.args.bytes.now _ c.split_at.ensures.front_len c.split_at.ensures.by_index.1 c.in-None.ensures

pub returns-in-None-clause-start : goal.returns-in-None-clause-start
returns-in-None-clause-start c = nothing_behind _ _ c.split_at.ensures.back_len

pub returns-in-Some-clause-whole : goal.returns-in-Some-clause-whole
returns-in-Some-clause-whole c = c.split_at-in-Some.ensures.by_index.0

pub returns-in-Some-clause-gap : goal.returns-in-Some-clause-gap
returns-in-Some-clause-gap c = gap_front _ c.args.bytes.now _ c.split_at-in-Some.ensures.front_len c.split_at-in-Some.ensures.by_index.1 c.in-Some.ensures.0.before

pub returns-in-Some-clause-start : goal.returns-in-Some-clause-start
returns-in-Some-clause-start c = starts _ c.args.bytes.now c.in-Some.at c.split_at-in-Some.ensures.by_index.2 c.in-Some.ensures.1

use Rattle.gw_log.proofs.Places.{found_part, none_sized, none_long}
use Rattle.std.proofs.Common.{◌∙◌}
use Rattle.gw_log.proofs.reading.long_record.Goals as goal

pub returns-in-None-clause-damaged : goal.returns-in-None-clause-damaged
returns-in-None-clause-damaged g c = λ honest is segment place fault. none_sized c.args.at (g.D.Disk.seen c.args.disk.now c.args.number) _ _ is c.block_size.ensures c.in-None.is

pub returns-in-Some-2-clause-ok : goal.returns-in-Some-2-clause-ok
returns-in-Some-2-clause-ok g c = λ honest.
    found_part c.args.at _ _ _ _ _ c.in-Some-2.is c.in_ok-record-in-Some.ensures.some (c.deref.ensures.value ∙ c.in_ok-block-in-Some.ensures.bytes honest)

pub returns-clause-damaged : goal.returns-clause-damaged
returns-clause-damaged g c = λ honest is segment place fault.
    none_long c.args.at c.in-Some.size (g.D.Disk.seen c.args.disk.now c.args.number) _ _ _ _ is c.block_size.ensures c.in-Some.is (c.deref.ensures.value ∙ c.in_ok-block-in-Some.ensures.bytes honest) c.in-None-2.is
    c.in_ok-record-in-Some.ensures.none

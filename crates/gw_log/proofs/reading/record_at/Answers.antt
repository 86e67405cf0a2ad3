use Rattle.std.proofs.Common.{◌∙◌, sym, ap, subst, take, drop}
use Rattle.gw_log.specs.Disk.{Files}
use Rattle.gw_log.specs.File.{HasNoRecord}
use Rattle.gw_log.proofs.Places.{found_part}
use Rattle.gw_log.proofs.reading.record_at.Goals as goal

pub returns-in-Some-clause-ok : goal.returns-in-Some-clause-ok
returns-in-Some-clause-ok g c = λ honest.
    found_part c.args.at 4096 _ _ _ _ c.in-Some.is c.in_ok-record.ensures.some (c.deref.ensures.value ∙ c.in_ok-front.ensures.bytes honest)

pub returns-clause-damaged : goal.returns-clause-damaged
returns-clause-damaged g c = λ honest segment place fault.
    let same = c.read.ensures.seen in
    let front = c.deref-in-None.ensures.value ∙ c.in_ok-front.ensures.bytes (c.long_record.ensures.back honest)
    ∙ ap (λ (f : Files). take 4096 (drop c.args.at (f c.args.number))) (sym same) in
    subst (λ (f : Files). HasNoRecord (drop c.args.at (f c.args.number))) same (c.long_record.ensures.damaged honest front segment place fault)

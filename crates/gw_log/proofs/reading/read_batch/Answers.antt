use Rattle.std.proofs.Common.{inr, refl, sym, ◌∙◌}
use Rattle.gw_log.proofs.Entries.{none_begins, batch_read, not_read}
use Rattle.gw_log.proofs.reading.read_batch.Goals as goal

pub returns-in_default-first_record-clause-err : goal.returns-in_default-first_record-clause-err
returns-in_default-first_record-clause-err c =
    inr (refl, none_begins _ _ _ c.in-Some.ensures.cases.0 c.requires.synced c.in_default-first_record.ensures.none)

pub returns-in-Some-behind-clause-ok : goal.returns-in-Some-behind-clause-ok
returns-in-Some-behind-clause-ok c =
    batch_read _ _ _ _ _ _ _ _ _ c.in-Some.ensures.cases.0 c.in-Some-first_record.ensures.some c.requires.stops c.in_ok-take_in.ensures c.in_ok-size.ensures
    _ _ (sym c.split_at.ensures.back ∙ c.in-Some-behind.ensures.some) refl

pub returns-in-None-clause-err : goal.returns-in-None-clause-err
returns-in-None-clause-err c =
    inr (
      refl,
      not_read _ _ _ _ _ _ _ _ _ c.in-Some.ensures.cases.0 c.in-Some-first_record.ensures.some c.requires.stops c.in_ok-take_in.ensures c.in_ok-size.ensures
          c.requires.synced (λ more two. c.in-None.ensures.none more (c.split_at.ensures.back ∙ two)),
    )

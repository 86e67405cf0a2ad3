use Rattle.std.proofs.Common.{refl}
use Rattle.std.proofs.lemmas.Bool.{false≢true}
use Rattle.gw_log.proofs.Entries.{whole_two, whole_one, whole_behind, whole_not, whole_none}
use Rattle.gw_log.proofs.reading.is_whole.Goals as goal

pub returns-in-Some-behind : goal.returns-in-Some-behind
returns-in-Some-behind c =
    ((λ _. c.loop-next.invariant.there (whole_two _ _ _ _ c.in-Some.ensures.some c.in-Some-behind.ensures.some)), (λ _. refl))

pub loop-next-preserved : goal.loop-next-preserved
loop-next-preserved c = record {
  there = λ whole. c.loop-next.invariant.there (whole_one _ _ _ _ c.in-Some.ensures.some c.in-Some-behind-2.ensures.some whole);
  back = λ whole. whole_behind _ _ _ _ c.in-Some.ensures.some c.in-Some-behind-2.ensures.some (c.loop-next.invariant.back whole);
}

pub returns-in_default-behind-2 : goal.returns-in_default-behind-2
returns-in_default-behind-2 c = (
  (λ t. absurd (false≢true t)),
  (λ whole. absurd (whole_not _ _ _ c.in-Some.ensures.some c.in_default-behind.ensures.none c.in_default-behind-2.ensures.none (c.loop-next.invariant.back whole))),
)

pub returns : goal.returns
returns c = ((λ t. absurd (false≢true t)), (λ whole. absurd (whole_none _ c.in_default.ensures.none (c.loop-next.invariant.back whole))))

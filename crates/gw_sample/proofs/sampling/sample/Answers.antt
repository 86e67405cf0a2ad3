use Rattle.std.proofs.Common.{refl, subst, inl, inr}
use Rattle.std.specs.Arc.{arc_value}
use Rattle.gw_profile.specs.Seen.{profile_value}
use Rattle.gw_sample.specs.Samples.{IsSample}
use Rattle.gw_sample.proofs.TooLarge.{too_many_segments, too_many_texts, few_texts, sample_is_not, found_is}
use Rattle.gw_sample.proofs.sampling.sample.Goals as goal

pub returns-then-not-has_room-clause-none : goal.returns-then-not-has_room-clause-none
returns-then-not-has_room-clause-none c =
    (λ none. inl (too_many_segments c.has_room.result c.deref.result.now (arc_value c.args.profile.now) c.deref.ensures c.has_room.ensures c.if-not-has_room.true), λ large. refl)

pub returns-then-not-are_few-clause-none : goal.returns-then-not-are_few-clause-none
returns-then-not-are_few-clause-none c =
    (λ none. inr (too_many_texts c.are_few.result c.deref-2.result.now (arc_value c.args.profile.now) c.deref-2.ensures c.are_few.ensures c.if-not-are_few.true), λ large. refl)

pub returns-in-Some-clause-none : goal.returns-in-Some-clause-none
returns-in-Some-clause-none c =
    let p = profile_value (arc_value c.args.profile.now) in
    let small = few_texts c.are_few.result c.deref-2.result.now (arc_value c.args.profile.now) c.deref-2.ensures c.are_few.ensures c.if-not-are_few.false in
    (λ none. absurd (cc), λ large. absurd (sample_is_not p c.in-Some.tree small (subst (IsSample p) c.in-Some.is c.in_ok-tree.ensures) large))

pub returns-in-None-clause-none : goal.returns-in-None-clause-none
returns-in-None-clause-none c =
    let small = few_texts c.are_few.result c.deref-2.result.now (arc_value c.args.profile.now) c.deref-2.ensures c.are_few.ensures c.if-not-are_few.false in
    found_is (profile_value (arc_value c.args.profile.now)) c.least_tree.result small c.least_tree.ensures.sample c.least_tree.ensures.found

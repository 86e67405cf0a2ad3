-- When a profile has no sample: each message that conforms has too many segments, or too many texts have to come.
use Rattle.std.proofs.Common.{◌≡◌, ℕ, ◌<◌, ◌≤◌, inl, inr, length, Option, None, Some, Bool, false, Result, Ok, Err, subst, arith}
use Rattle.std.specs.Prelude.{IsNone, IsSome, IsTrue, ◌↔◌, IfOk}
use Rattle.std.proofs.lemmas.Bool.{cases_lt}
use Rattle.gw_er7.specs.Written.{written}
use Rattle.gw_profile.specs.Seen.{Contents, forest, profile_value}
use Rattle.gw_profile.specs.Shapes.{ProfileValue}
use Rattle.gw_validate.specs.Fitting.{TreeValue}
use Rattle.gw_sample.specs.FewestTexts.{fewest_texts}
use Rattle.gw_sample.specs.Samples.{IsSample, Samples, TooManySegments, TooLarge}
use Rattle.gw_sample.specs.own.Least.{least}
use Rattle.gw_sample.proofs.Again.{few}
use Rattle.gw_sample.proofs.Fewest.{none_shorter}

-- what isn't at most so many is more
more : (b : Bool) (n most : ℕ) → IsTrue b ↔ (n ≤ most) → b ≡ false → most < n
more b n most is not = elim (cases_lt most n) [
  | inl lt ↦ lt
  | inr ge ↦ (let small = is.1 ge in absurd (cc))
]

pub too_many_segments : (b : Bool) (found given : Contents) → found ≡ given → IsTrue b ↔ (length (least (forest found.nodes)) ≤ 10000) → b ≡ false → TooManySegments (profile_value given)
too_many_segments b found given same is not m conforms =
    let large : 10000 < length (least (forest given.nodes)) = subst (λ (c : Contents). 10000 < length (least (forest c.nodes))) same (more b (length (least (forest found.nodes))) 10000 is not) in
    let long = none_shorter (profile_value given) m conforms in
    omega (arith, large, long)

pub too_many_texts : (b : Bool) (found given : Contents) → found ≡ given → IsTrue b ↔ (fewest_texts (forest found.nodes) ≤ 524288) → b ≡ false → 524288 < fewest_texts (forest given.nodes)
too_many_texts b found given same is not = subst (λ (c : Contents). 524288 < fewest_texts (forest c.nodes)) same (more b (fewest_texts (forest found.nodes)) 524288 is not)

pub few_texts : (b : Bool) (found given : Contents) → found ≡ given → IsTrue b ↔ (fewest_texts (forest found.nodes) ≤ 524288) → IsTrue b → fewest_texts (forest given.nodes) ≤ 524288
few_texts b found given same is small = subst (λ (c : Contents). fewest_texts (forest c.nodes) ≤ 524288) same (is.0 small)

pub sample_is_not : (p : ProfileValue) (t : TreeValue) → fewest_texts p.nodes ≤ 524288 → Samples p t → TooLarge p → ⊥
sample_is_not p t small is (inl large) = few (written t.message) t.message is.again (large t.message is.conforms)
sample_is_not p t small is (inr large) = absurd (omega (arith, small, large))

some_is : (p : ProfileValue) (found : Option TreeValue) → fewest_texts p.nodes ≤ 524288 → IsSample p found → IsSome found → IsNone found ↔ TooLarge p
some_is p None small is some = absurd (cc)
some_is p (Some t) small is some = (λ none. absurd (cc), λ large. absurd (sample_is_not p t small is large))

pub found_is : {E : Type 0} (p : ProfileValue) (r : Result (Option TreeValue) E) → fewest_texts p.nodes ≤ 524288 → IfOk r (IsSample p) → IfOk r IsSome → IfOk r (λ found. IsNone found ↔ TooLarge p)
found_is p (Ok found) small is some = some_is p found small is some
found_is p (Err e) small is some = tt

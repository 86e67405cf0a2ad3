use Rattle.std.proofs.Common.{◌≡◌, ◌∙◌, ℕ, List, Option, Result, refl, subst}
use Rattle.gw_stream.specs.declared.by_profile.ByProfile.{ByProfile}
use Rattle.gw_stream.specs.declared.counts.Counts.{Counts}
use Rattle.gw_stream.specs.declared.fault.RunFault.{RunFault}
use Rattle.gw_stream.specs.Answers.{IsSaidUnder, ValidatedBy}
use Rattle.gw_stream.specs.Exchanges.{AllExchanged, Answers, AnswersAll, AnswersPart, SomeExchanged}
use Rattle.gw_stream.specs.Streams.{Ends}
use Rattle.gw_stream.specs.own.Gathered.{ProfileSettles}
use Rattle.gw_stream.proofs.Exchanging.{ends_seen}
use Rattle.gw_stream.proofs.stream.answer_stream.Goals as goal

seen_by_profile : (first last : ByProfile) (stream before after : Option (List ℕ)) (result : Result Counts RunFault)
    → Ends (AllExchanged ProfileSettles (λ s t. t ≡ s) stream first last before after)
    (λ fault. SomeExchanged ProfileSettles (λ s t. t ≡ s) (λ s t what. t ≡ s) (λ s t. ⊥) stream first last before after) result
    → Ends (AnswersAll (ValidatedBy first.profile) first.stamp stream before after)
    (λ fault. AnswersPart (ValidatedBy first.profile) first.stamp stream before after) result
seen_by_profile first last stream before after result ends =
    (ends_seen ProfileSettles (Answers (ValidatedBy first.profile) first.stamp) (λ s t. t ≡ s) (λ s t. Unit {0}) (λ s t what. t ≡ s) (λ s t what. Unit {0})
    (λ s t. ⊥) (λ s t. ⊥) (λ s. tt) (λ s. s ≡ first)
    (λ s t n what o keeps is. (
      is.same ∙ keeps,
      subst (λ (j : ByProfile). IsSaidUnder (ValidatedBy j.profile) j.stamp n what o) keeps is.says,
    ))
    (λ s t keeps is. (is ∙ keeps, tt)) (λ s t what keeps is. (is ∙ keeps, tt)) (λ s t keeps never. absurd never) stream first last before after refl result ends).1

pub returns-clause-ends : goal.returns-clause-ends
returns-clause-ends g c = seen_by_profile _ _ _ _ _ _ c.answer_blocks.ensures.ends

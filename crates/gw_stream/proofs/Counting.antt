-- Counts of answers.
use Rattle.std.proofs.Common.{◌≡◌, ◌+◌, List, length, [], ◌∷◌, ◌++◌, arith, refl}
use Rattle.gw_ack.specs.declared.receipt.Ack.{Ack}
use Rattle.gw_ack.specs.declared.receipt.Ack.TheVariants.{AA}
use Rattle.gw_stream.specs.declared.counts.Counts.{Counts}
use Rattle.gw_stream.specs.Counted.{with_answer, with_one, IsTotal}
use Rattle.gw_stream.specs.Exchanges.{Exchange, with_answers}
use Rattle.gw_stream.specs.Served.{Serving, with_servings}

pub one_more : (code : Ack) (c : Counts) → (with_answer code c).answered ≡ c.answered + 1
one_more AA c = refl
one_more code c = refl

pub total_one : (code : Ack) (c : Counts) → IsTotal c → IsTotal (with_answer code c)
total_one AA c t = omega arith
total_one code c t = omega arith

pub answers_next : (done : List Exchange) (e : Exchange) (c : Counts) → with_answers (done ++ e ∷ []) c ≡ with_answer e.answer.code (with_answers done c)
answers_next [] e c = refl
answers_next (d ∷ done) e c = answers_next done e (with_answer d.answer.code c)

pub servings_next : (ss : List Serving) (s : Serving) (c : Counts)
    → with_servings (ss ++ s ∷ []) c ≡ with_one s.answer.code (length s.deliveries) (with_servings ss c)
servings_next [] s c = refl
servings_next (t ∷ ss) s c = servings_next ss s (with_one t.answer.code (length t.deliveries) c)

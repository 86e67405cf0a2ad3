use Rattle.std.proofs.Common.{true, false, refl, subst, List, ℕ}
use Rattle.gw_er7.specs.Text.{IsCanonical}
use Rattle.gw_er7.proofs.Sequences.{first_is}
use Rattle.gw_er7.proofs.Canonicals.{same_test, empty_text}
use Rattle.gw_er7.proofs.decide.is_canonical.Goals as goal

pub returns-in-None-clause-canonical : goal.returns-in-None-clause-canonical
returns-in-None-clause-canonical c = (
  (λ e. absurd (let z : ⊥ = cc in z)),
  (λ is. absurd (c.in-None.ensures (subst (λ (t : List ℕ). IsCanonical t) (first_is c.loop-rest.rest.now c.in-len1-up.len_at_least) (c.loop-rest.invariant.0 is)))),
)

pub returns-in-None-clause-value : goal.returns-in-None-clause-value
returns-in-None-clause-value c = same_test false c.args.text.now (returns-in-None-clause-canonical c)

pub returns-clause-canonical : goal.returns-clause-canonical
returns-clause-canonical c = ((λ e. c.loop-rest.invariant.1 (empty_text c.loop-rest.rest.now c.in_default.len_below)), (λ is. refl))

pub returns-clause-value : goal.returns-clause-value
returns-clause-value c = same_test true c.args.text.now (returns-clause-canonical c)

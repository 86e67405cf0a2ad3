use Rattle.std.proofs.Common.{◌≡◌, ◌≢◌, ◌<◌, ◌≤◌, ◌+◌, ◌⊎◌, inl, inr, ℕ, false, length, arith, sym, subst, ◌∙◌}
use Rattle.std.specs.Prelude.{nat_lt}
use Rattle.std.proofs.lemmas.Bool.{cases_eq, cases_lt}
use Rattle.std.proofs.lemmas.Bool.Decides.{nat_tests}
use Rattle.gw_gate.specs.own.Desks.{desk_at}
use Rattle.gw_gate.proofs.Windows.{at_none}
use Rattle.gw_gate.proofs.desks.some_wait.Goals as goal

pub loop-receiver-init : goal.loop-receiver-init
loop-receiver-init c = λ q under. absurd (omega (arith, under))

pub loop-receiver-preserved : goal.loop-receiver-preserved
loop-receiver-preserved c = λ q under. by q under (cases_eq q c.loop-receiver.receiver)
  where
    here : length (desk_at c.args.desks.now c.loop-receiver.receiver).due ≤ (desk_at c.args.desks.now c.loop-receiver.receiver).released
    here = let e : nat_lt (desk_at c.args.desks.now c.loop-receiver.receiver).released (length (desk_at c.args.desks.now c.loop-receiver.receiver).due) ≡ false = sym c.waits_at.ensures ∙ c.if-waits_at.false in grind (arith, nat_tests)

    by : (q : ℕ) → q < c.loop-receiver.receiver + 1 → (q ≡ c.loop-receiver.receiver) ⊎ (q ≢ c.loop-receiver.receiver) → length (desk_at c.args.desks.now q).due ≤ (desk_at c.args.desks.now q).released
    by q under (inl e) = subst (λ z. length (desk_at c.args.desks.now z).due ≤ (desk_at c.args.desks.now z).released) (sym e) here
    by q under (inr other) = c.loop-receiver.invariant q (omega (arith, under, other))

pub returns : goal.returns
returns c = λ r. by r (cases_lt r c.loop-receiver.receiver)
  where
    by : (r : ℕ) → (r < c.loop-receiver.receiver) ⊎ (c.loop-receiver.receiver ≤ r) → length (desk_at c.args.desks.now r).due ≤ (desk_at c.args.desks.now r).released
    by r (inl under) = c.loop-receiver.invariant r under
    by r (inr past) = subst (λ s. length s.due ≤ s.released) (sym (at_none c.args.desks.now r (omega (arith, past)))) (omega arith)

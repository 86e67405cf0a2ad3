use Rattle.std.proofs.Common.{◌≡◌, ◌≢◌, ◌<◌, ◌≤◌, ◌+◌, ◌⊎◌, inl, inr, ℕ, arith, refl, sym, subst, ◌∙◌}
use Rattle.std.proofs.lemmas.Bool.{cases_eq, cases_lt}
use Rattle.gw_reorder.specs.State.{SameButRoom, nothing_due}
use Rattle.gw_gate.specs.own.Desks.{desk_at}
use Rattle.gw_gate.proofs.Windows.{at_none, same_is}
use Rattle.gw_gate.proofs.desks.restart_all.Goals as goal

pub loop-receiver-init : goal.loop-receiver-init
loop-receiver-init c = record { done = λ q under. absurd (omega (arith, under)); long = refl }

pub restart_at-requires : goal.restart_at-requires
restart_at-requires c = let l = c.loop-receiver.invariant.long in omega arith

pub loop-receiver-preserved : goal.loop-receiver-preserved
loop-receiver-preserved c = record {
  done = λ q under. by q under (cases_eq q c.loop-receiver.receiver);
  long = c.restart_at.ensures.long ∙ c.loop-receiver.invariant.long;
}
  where
    by : (q : ℕ) → q < c.loop-receiver.receiver + 1 → (q ≡ c.loop-receiver.receiver) ⊎ (q ≢ c.loop-receiver.receiver) → SameButRoom nothing_due (desk_at c.restart_at.new.desks.items q)
    by q under (inl e) = subst (λ z. SameButRoom nothing_due (desk_at c.restart_at.new.desks.items z)) (sym e) c.restart_at.ensures.this
    by q under (inr other) = subst (SameButRoom nothing_due) (sym (c.restart_at.ensures.others q other)) (c.loop-receiver.invariant.done q (omega (arith, under, other)))

pub returns : goal.returns
returns c r = by (cases_lt r c.loop-receiver.receiver)
  where
    by : (r < c.loop-receiver.receiver) ⊎ (c.loop-receiver.receiver ≤ r) → SameButRoom nothing_due (desk_at c.loop-receiver.desks.items r)
    by (inl under) = c.loop-receiver.invariant.done r under
    by (inr past) = same_is nothing_due (desk_at c.loop-receiver.desks.items r) (at_none c.loop-receiver.desks.items r (let l = c.loop-receiver.invariant.long in omega (arith, past)))

-- What a swap tells and leaves.
use Rattle.std.proofs.Common.{◌≡◌, ℕ, List, [], ◌∷◌, ◌++◌, Result, Ok, Err, sym, subst, ap, ◌∙◌, append-nil}
use Rattle.gw_gate.specs.Parts.{PlanSeen}
use Rattle.gw_gate.specs.Journal.{WasSwapped}
use Rattle.gw_gate.specs.Replies as event
use Rattle.gw_gate.specs.Replies.{ReplySeen, IsSwapped, IsUnlike, IsFull}
use Rattle.gw_gate.specs.Seen.{plan_seen}
use Rattle.gw_plan.specs.Held.{PlanHeld, plan_value}
use Rattle.gw_plan.specs.Shapes.{PlanValue}
use Rattle.gw_plan.specs.Whole.{spelled}
use Rattle.gw_crew.specs.declared.swaps.SwapFault.{SwapFault}
use Rattle.gw_crew.specs.declared.swaps.SwapFault.TheVariants as fault
use Rattle.gw_crew.specs.Notes.{NoteSeen, Added, Notes}
use Rattle.gw_crew.specs.Swapping as swap
use Rattle.gw_crew.specs.Swapping.{Swaps, swapped, unlike, full, refused, memory, seen_as, swap_reply}

pub refused_so : (text : List ℕ) (old : List NoteSeen) (f : SwapFault) → swap.IsRefused text f → Swaps text old (Err f) old
refused_so text old fault.Memory is = memory
refused_so text old (fault.Plan refusal) is = refused refusal is
refused_so text old f is = absurd is

pub swaps_so : (text : List ℕ) (plan : PlanValue) (seen : PlanSeen) (given : ReplySeen) (r : Result ℕ SwapFault) (old new : List NoteSeen)
    → spelled text ≡ Ok plan → seen ≡ seen_as text plan → r ≡ swap_reply given
    → Notes (event.Swaps seen) given old new → Swaps text old r new
swaps_so text plan seen given r old new spells is tells noted = subst (λ x. Swaps text old x new) (sym tells) (by given noted)
  where
    by : (given : ReplySeen) → Notes (event.Swaps seen) given old new → Swaps text old (swap_reply given) new
    by (IsSwapped v) noted =
        subst (Swaps text old (Ok v)) (ap (λ p. old ++ Added noted.at (WasSwapped v p) ∷ []) (sym is) ∙ sym noted.notes) (swapped plan noted.at v spells)
    by (IsUnlike p) noted = subst (Swaps text old (Err fault.Unlike)) (sym (noted.notes ∙ append-nil old)) (unlike plan spells)
    by (IsFull e) noted = subst (Swaps text old (Err fault.Full)) (sym noted.notes) (full plan spells)
    by given noted = absurd noted.answers

pub short_so : (text : List ℕ) (old new : List NoteSeen) → new ≡ old → Swaps text old (Err fault.Memory) new
short_so text old new is = subst (Swaps text old (Err fault.Memory)) (sym is) memory

pub seen_is : (text : List ℕ) (p : PlanHeld) → p.text ≡ text → plan_seen p ≡ seen_as text (plan_value p)
seen_is text p is = ap (λ (t : List ℕ). seen_as t (plan_value p)) is

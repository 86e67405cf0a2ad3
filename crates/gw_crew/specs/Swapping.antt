-- What a swap of plans answers and notes.
use Rattle.std.specs.Prelude.{◌≡◌, ℕ, List, [], ◌∷◌, ◌++◌, ⊤, Ok, Err, Result}
use Rattle.gw_gate.specs.Parts.{PlanSeen}
use Rattle.gw_gate.specs.Journal.{WasSwapped}
use Rattle.gw_gate.specs.Replies.{ReplySeen, IsSwapped, IsUnlike}
use Rattle.gw_plan.specs.Shapes.{PlanValue}
use Rattle.gw_plan.specs.Whole.{spelled}
use Rattle.gw_crew.specs.declared.swaps.SwapFault.{SwapFault}
use Rattle.gw_crew.specs.declared.swaps.SwapFault.TheVariants as fault
use Rattle.gw_crew.specs.Notes.{NoteSeen, WasFull, Added}

-- the number of a fault
abbrev pub number_of : SwapFault → ℕ
number_of fault.Memory = 1
number_of (fault.Plan refused) = 2
number_of fault.Unlike = 3
number_of fault.Full = 4

-- the plan that a text spells, as a gate sees it
abbrev pub seen_as : List ℕ → PlanValue → PlanSeen
seen_as text plan = record { text = text; receivers = plan.receivers }

-- What is answered to the text of a plan, and which notes that leaves: one swap of the plan that it spells, or the text's fault.
pub data Swaps (text : List ℕ) (old : List NoteSeen) : Result ℕ SwapFault → List NoteSeen → Type 0 where
  swapped : (plan : PlanValue) (at v : ℕ) → spelled text ≡ Ok plan → Swaps text old (Ok v) (old ++ Added at (WasSwapped v (seen_as text plan)) ∷ [])
  unlike : (plan : PlanValue) → spelled text ≡ Ok plan → Swaps text old (Err fault.Unlike) old
  full : (plan : PlanValue) → spelled text ≡ Ok plan → Swaps text old (Err fault.Full) (old ++ WasFull ∷ [])
  refused : (refusal : _) → spelled text ≡ Err refusal → Swaps text old (Err (fault.Plan refusal)) old
  memory : Swaps text old (Err fault.Memory) old

-- the answer to a swap, by the reply
abbrev pub swap_reply : ReplySeen → Result ℕ SwapFault
swap_reply (IsSwapped v) = Ok v
swap_reply (IsUnlike plan) = Err fault.Unlike
swap_reply given = Err fault.Full

-- why there is no plan to swap in: an allocation failure, or the text's fault
abbrev pub IsRefused : List ℕ → SwapFault → Type 0
IsRefused text fault.Memory = ⊤
IsRefused text (fault.Plan refusal) = spelled text ≡ Err refusal
IsRefused text fault.Unlike = ⊥
IsRefused text fault.Full = ⊥

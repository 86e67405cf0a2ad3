-- What is gathered of a chapter and of notes, which says whether they are settled.
use Rattle.std.specs.Prelude.{◌≡◌, ℕ, ◌+◌, ◌-◌, ◌<◌, ◌^◌, ◌==◌, min, nat_le, nat_lt, if◌then◌else◌, Bool, true, false, not, IsTrue, ◌&&◌, List, ◌∷◌, ◌++◌}
use Rattle.std.specs.Prelude.{bytes_eq, get_or, length, slice_get, map, take, Option, None, Some}
use Rattle.std.specs.List.Sorted.{IsStrictlyIncreasing}
use Rattle.std.specs.Arc.{arc_value}
use Rattle.std.specs.declared.alloc.Global.{Global}
use Rattle.std.specs.declared.sync.Arc.{Arc}
use Rattle.gw_plan.specs.declared.plan.Plan.{Plan}
use Rattle.gw_gate.specs.Parts.{PlanSeen, is_under}
use Rattle.gw_gate.specs.Seen.{plan_seen}
use Rattle.gw_gate.specs.Journal.{EntrySeen, Journal, WasSwapped, current, end, swapped}
use Rattle.gw_gate.specs.Replies.{Takes, Releases, reply_to}
use Rattle.gw_crew.specs.Notes.{NoteSeen, Added, Looked, ReceiptSeen, WasStale}
use Rattle.gw_run.specs.Passes.{PassSeen}
use Rattle.gw_audit.specs.Settled.{GoOn, agrees, fits, fits_at, fits_between, having, is_idle, is_nothing, last_end, next_at}
use Rattle.gw_audit.specs.Turns.{IsFirstFrom, Passes, TurnsAt, is_within}
use Rattle.gw_audit.specs.own.Queues.{QueueSeen, queue_at}

-- ---- receipts

-- how often each number from since on is that of a receipt; twice stands for more too
abbrev pub Marks : ℕ → List ReceiptSeen → List ℕ → Type 0
Marks since all marks = (p : ℕ) → p < length marks → get_or marks p 0 ≡ min (having all (since + p)) 2

-- old marks become new ones as these receipts come
abbrev pub MarksMore : ℕ → List ReceiptSeen → List ℕ → List ℕ → Type 0
MarksMore since more old new = (all : List ReceiptSeen) → Marks since all old → Marks since (all ++ more) new

-- the notes of each pass
abbrev pub notes_of : List PassSeen → List (List NoteSeen)
notes_of passes = map (λ pass. pass.notes) passes

-- ---- other notes

-- this is the first number of entries over all chapters, from low on, at which the note fits one of them
abbrev pub IsFirst : List Journal → ℕ → NoteSeen → Option ℕ → Type 0
IsFirst js low note first = IsFirstFrom low (λ k. fits_at js k note) first

-- a chapter as it was with its first entries alone
abbrev pub begun : Journal → ℕ → Journal
begun j k = record j { entries = take k j.entries }

-- this is the first number of a chapter's own entries, from low on, at which the note fits it
abbrev pub IsFirstIn : Journal → ℕ → NoteSeen → Option ℕ → Type 0
IsFirstIn j low note first = IsFirstFrom low (λ k. fits (begun j k) note) first

-- a number of a chapter's own entries as one over all chapters, where the chapter has that many
abbrev pub number_in : ℕ → ℕ → ℕ → Option ℕ
number_in last count k = if nat_lt count k then None else Some (last - (count - k))

abbrev pub first_in : ℕ → ℕ → Option ℕ → Option ℕ
first_in last count None = None
first_in last count (Some k) = number_in last count k

-- whether a note is a receipt
abbrev pub is_receipt : NoteSeen → Bool
is_receipt (Added at e) = true
is_receipt note = false

-- whether notes agree with the chapters, where those before them fit these from low up to need
abbrev pub meets : List Journal → ℕ → ℕ → List NoteSeen → Bool
meets js low need notes = agrees js low notes && nat_le need (next_at (last_end 0 js) notes)

abbrev pub meets_after : List Journal → Option (ℕ × ℕ) → List NoteSeen → Bool
meets_after js None notes = false
meets_after js (Some s) notes = meets js s.0 s.1 notes

-- how a note is followed: from which number on, and up to which, those after it are to fit
abbrev pub Follows : List Journal → ℕ → ℕ → NoteSeen → Option (ℕ × ℕ) → Type 0
Follows js low need note after = (notes : List NoteSeen) → GoOn js → meets js low need (note ∷ notes) ≡ meets_after js after notes

-- how notes that are no receipts are followed, by the first number at which they fit
abbrev pub FollowsBy : ℕ → ℕ → Option ℕ → Option (ℕ × ℕ) → Type 0
FollowsBy low need first after = (js : List Journal) (note : NoteSeen) (notes : List NoteSeen)
    → ((high : ℕ) → fits_between js low high note ≡ is_within high first) → IsTrue (not (is_receipt note))
    → meets js low need (note ∷ notes) ≡ meets_after js after notes

-- ---- what is gathered of a chapter, by the numbers of its own entries

-- whether a note that names a version fits, where this is that version's plan
abbrev pub suits : NoteSeen → PlanSeen → Bool
suits (Looked v plan) there = bytes_eq there.text plan.text
suits (WasStale v c) there = not (is_under c v there)
suits note there = false

-- whether there is a plan, and it passes a test
abbrev pub is_suited : (PlanSeen → Bool) → Option PlanSeen → Bool
is_suited test None = false
is_suited test (Some plan) = test plan

-- whether a plan that passes a test was in force as this version
abbrev pub in_force : Journal → ℕ → (PlanSeen → Bool) → ℕ → Bool
in_force j v test k = ((current (begun j k)).number == v) && test (current (begun j k)).plan

-- whether an entry is that of a plan
abbrev pub is_swap : EntrySeen → Bool
is_swap (WasSwapped v plan) = true
is_swap e = false

-- how many plans were swapped in among the first k entries
abbrev pub swaps_in : List EntrySeen → ℕ → ℕ
swaps_in h k = length (swapped (take k h))

-- the numbers of entries at which plans were swapped, and the plans in order
pub record PlansAt (j : Journal) (swaps : List ℕ) (seen : List PlanSeen) : Type 0 where
  pub rising : IsStrictlyIncreasing swaps
  pub number : (k i : ℕ) → Passes swaps k i → (current (begun j k)).number ≡ j.start.version + i
  pub plan : (k i : ℕ) → Passes swaps k i → slice_get seen i ≡ Some (current (begun j k)).plan

abbrev pub plans_at : List (Arc Plan Global) → List PlanSeen
plans_at all = map (λ p. plan_seen (arc_value p)) all

-- beside these the numbers at which there begins or ceases to be no pair to be taken, and for each receiver nothing to be given out
pub record Tells (j : Journal) (swaps : List ℕ) (seen : List PlanSeen) (idle : List ℕ) (queues : List QueueSeen) : Type 0 where
  pub few : end j < 2 ^ 64
  pub plans : PlansAt j swaps seen
  pub idle_at : TurnsAt (λ k. is_idle (reply_to (begun j k) Takes)) idle
  pub nothing : (r : ℕ) → TurnsAt (λ k. is_nothing (reply_to (begun j k) (Releases r))) (queue_at queues r).turns

-- What was handed over in all calls over one journal.
use Rattle.std.specs.Prelude.{ℕ, List, [], ◌∷◌}
use Rattle.std.specs.List.{AllByRecursion}
use mathlib.Core.List.{IsPrefix}
use Rattle.gw_journal.specs.declared.event.Event as happened
use Rattle.gw_ledger.specs.Backlogs.{Between, HasPassed, WasFirst}
use Rattle.gw_delivery.specs.Delivering.{IsRunBetween}

-- what a call did: it sent what was due at these places; or it had the receiver pass what was due at this one, and didn't send it:
-- it can't be made, or a person has it passed over
pub data Call : Type 0 where
  sends : (places : List ℕ) → Call
  puts_aside : (place : ℕ) → Call

-- the places of which it handed something over, or put it aside
abbrev pub places_of : Call → List ℕ
places_of (sends places) = places
places_of (puts_aside place) = place ∷ []

-- between two moments of a journal it did just that, and nobody else passed anything for the receiver
abbrev pub HasDone : List (List ℕ) → (receiver : ℕ) → Call → (old new : List happened.Event) → Type 0
HasDone before receiver (sends places) old new = IsRunBetween before receiver old new places
HasDone before receiver (puts_aside place) old new = Between (HasPassed receiver (place ∷ [])) before old new

-- between two moments of a journal there was this call. Each of its places was the first that is left by what was on the disk, when it was handed over or put aside
pub record IsCall (before : List (List ℕ)) (receiver : ℕ) (call : Call) (old new : List happened.Event) : Type 0 where
  pub done : HasDone before receiver call old new
  pub kept : AllByRecursion (λ place. WasFirst before receiver place new) (places_of call)

-- there were these calls, each of which began where the one before it ended
pub data Calls (before : List (List ℕ)) (receiver : ℕ) : List happened.Event → List Call → List happened.Event → Type 0 where
  no_call : (here : List happened.Event) → Calls before receiver here [] here
  one_call : (old mid new : List happened.Event) (call : Call) (others : List Call) → IsPrefix old mid → IsCall before receiver call old mid
      → Calls before receiver mid others new → Calls before receiver old (call ∷ others) new

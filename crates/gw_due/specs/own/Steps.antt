-- What a step on receivers asks of them and of its event, and what a record makes of a state.
use Rattle.std.specs.Prelude.{◌≡◌, ⊤, ℕ, ◌<◌, Bool, IsTrue, List, nat_lt, ◌&&◌}
use Rattle.gw_due.specs.Events.{Event, Passed}
use Rattle.gw_due.specs.Spelling.{Entry, Fits, spelled}
use Rattle.gw_due.specs.State.{Receiver, State, after, allows}

-- a place that is passed is below this one
abbrev pub PassesBelow : ℕ → Event → Type 0
PassesBelow limit (Passed receiver place how) = place < limit
PassesBelow limit _ = ⊤

abbrev pub has_room_for_one : Receiver → Bool
has_room_for_one r = nat_lt r.left 18446744073709551615 && nat_lt r.refused 18446744073709551615

-- the record is spelled so, and the one state allows its event, after which it is the other
pub record MovesBy (bytes : List ℕ) (old new : State) : Type 0 where
  pub entry : Entry
  pub fits : Fits entry
  pub spells : bytes ≡ spelled entry
  pub allowed : IsTrue (allows old entry.event)
  pub is : new ≡ after old entry.event

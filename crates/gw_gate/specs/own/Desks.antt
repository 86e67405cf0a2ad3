-- What the desks of a gate hold, by the receivers' numbers.
use Rattle.std.specs.Prelude.{◌≡◌, ℕ, ◌<◌, ◌≤◌, Bool, true, false, length, if◌then◌else◌, List, map, slice_index_or, option_map}
use Rattle.std.specs.Arc.{arc_value}
use Rattle.std.specs.declared.alloc.Global.{Global}
use Rattle.std.specs.declared.sync.Arc.{Arc}
use Rattle.gw_reorder.specs.State.{DeskState, SameButRoom, nothing_due, with_due}
use Rattle.gw_reorder.specs.Calls.{next_of, after_giving}
use Rattle.gw_gate.specs.Parts.{ConformingSeen, TranslatedSeen, delivers}
use Rattle.gw_gate.specs.Seen.{Translated, translated_seen}

-- a desk, as it lies in memory
abbrev pub Held : Type 0
Held = DeskState (Arc Translated Global)

abbrev pub value_seen : Arc Translated Global → TranslatedSeen
value_seen t = translated_seen (arc_value t)

abbrev pub desk_seen : Held → DeskState TranslatedSeen
desk_seen s = record { due = s.due; released = s.released; kept = map (option_map value_seen) s.kept; room = s.room }

-- the desk of this receiver; nothing is due at one that isn't there
abbrev pub desk_at : List Held → ℕ → DeskState TranslatedSeen
desk_at desks r = desk_seen (slice_index_or desks r nothing_due)

-- the same desk, with no less room
pub record IsRoomier (s t : DeskState TranslatedSeen) : Type 0 where
  pub same : SameButRoom s t
  pub room : s.room ≤ t.room

-- the same desks, with no less room
abbrev pub AreRoomier : List Held → List Held → Type 0
AreRoomier old new = (r : ℕ) → IsRoomier (desk_at old r) (desk_at new r)

-- there is room at this receiver's desk for one more due number
abbrev pub HasRoomFor : List Held → ConformingSeen → Type 0
HasRoomFor desks c = (r : ℕ) → delivers c r ≡ true → 0 < (desk_at desks r).room

-- the number is due at the desks to which the message goes
abbrev pub due_to : ConformingSeen → ℕ → ℕ → DeskState TranslatedSeen → DeskState TranslatedSeen
due_to c n r s = if delivers c r then with_due s n else s

-- of desks: something due at one of them wasn't released, or nothing waits at any
abbrev pub Waits : (ℕ → DeskState TranslatedSeen) → Bool → Type 0
Waits desk true = (r : ℕ) × ((desk r).released < length (desk r).due)
Waits desk false = (r : ℕ) → length (desk r).due ≤ (desk r).released

-- what is next was released
abbrev pub given_out : DeskState TranslatedSeen → DeskState TranslatedSeen
given_out s = after_giving s (next_of s)

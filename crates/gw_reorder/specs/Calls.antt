-- What the calls of a desk do to it, and what they answer.
use Rattle.std.specs.Prelude.{ℕ, List, Option, None, Some, ◌-◌, ◌+◌, ◌==◌, nat_lt, if◌then◌else◌, position, slice_get, slice_set, drop}
use Rattle.gw_reorder.specs.State.{DeskState}
use Rattle.gw_reorder.specs.declared.desk.Status.{Status}
use Rattle.gw_reorder.specs.declared.desk.Status.TheVariants.{Waiting, Repeat, Stranger}
use Rattle.gw_reorder.specs.declared.desk.Held as held
use Rattle.gw_reorder.specs.declared.desk.Held.{Held}

-- the place of the number among those due
abbrev pub place_of : {T : Type 0} → DeskState T → ℕ → Option ℕ
place_of s n = position (λ m. m == n) s.due

-- what a due number that was not released is, by what was kept for it
abbrev pub slot_status : {T : Type 0} → Option (Option T) → Status
slot_status None = Waiting
slot_status (Some None) = Waiting
slot_status (Some (Some x)) = Repeat

-- what the number at this place is
abbrev pub status_at : {T : Type 0} → DeskState T → Option ℕ → Status
status_at s None = Stranger
status_at s (Some place) = if nat_lt place s.released then Repeat else slot_status (slice_get s.kept (place - s.released))

-- `Stranger` where the number was never due, `Repeat` where a value was kept for it, released or not, else `Waiting`
abbrev pub status_of : {T : Type 0} → DeskState T → ℕ → Status
status_of s n = status_at s (place_of s n)

-- what becomes of a value, by what its number is
abbrev pub held_as : {T : Type 0} → Status → T → Held T
held_as Waiting x = held.TheVariants.Kept
held_as Repeat x = held.TheVariants.Repeat x
held_as Stranger x = held.TheVariants.Stranger x

-- the values kept, with one more for the due number at this place
abbrev pub kept_with : {T : Type 0} → DeskState T → Option ℕ → T → List (Option T)
kept_with s None x = s.kept
kept_with s (Some place) x = slice_set s.kept (place - s.released) (Some x)

-- the value is kept for the number, and nothing else changes
abbrev pub with_value : {T : Type 0} → DeskState T → ℕ → T → DeskState T
with_value s n x = record s { kept = kept_with s (place_of s n) x }

-- a desk after a value was brought for a number that is this
abbrev pub after_bringing : {T : Type 0} → DeskState T → Status → ℕ → T → DeskState T
after_bringing s Waiting n x = with_value s n x
after_bringing s Repeat n x = s
after_bringing s Stranger n x = s

-- what holding leaves: the value is kept where its number waits for one, else nothing changes
abbrev pub after_holding : {T : Type 0} → DeskState T → ℕ → T → DeskState T
after_holding s n x = after_bringing s (status_of s n) n x

-- a number with the value kept for it, where there are both
abbrev pub kept_pair : {T : Type 0} → Option ℕ → Option (Option T) → Option (ℕ × T)
kept_pair None x = None
kept_pair (Some n) None = None
kept_pair (Some n) (Some None) = None
kept_pair (Some n) (Some (Some x)) = Some (n, x)

-- the least due number that was not released, where a value is kept for it
abbrev pub next_of : {T : Type 0} → DeskState T → Option (ℕ × T)
next_of s = kept_pair (slice_get s.due s.released) (slice_get s.kept 0)

-- what `release` leaves: one more number was released, and its value is gone
abbrev pub after_giving : {T : Type 0} → DeskState T → Option (ℕ × T) → DeskState T
after_giving s None = s
after_giving s (Some given) = record s { released = s.released + 1; kept = drop 1 s.kept }

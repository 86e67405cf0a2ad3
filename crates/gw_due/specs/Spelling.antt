-- The one spelling of each record.
use Rattle.std.specs.Prelude.{⊤, ℕ, ◌<◌, ◌^◌, List, [], ◌∷◌, ◌++◌, length, flat_map}
use Rattle.std.specs.List.{AllByRecursion}
use Rattle.std.specs.Int.{w32, w64, to_be_bytes}
use Rattle.gw_due.specs.Events.{How, Taken, Refused, Skipped, Event, Planned, Accepted, Again, Passed, Named, Margin, Retired}

-- a record: what happened, and when
pub record Entry : Type 0 where
  pub time : ℕ
  pub event : Event

-- the length in four bytes, the high one first, and so many bytes
abbrev pub text : List ℕ → List ℕ
text bytes = to_be_bytes w32 (length bytes) ++ bytes

-- how many there are, and each in four bytes
abbrev pub receivers : List ℕ → List ℕ
receivers to = to_be_bytes w32 (length to) ++ flat_map (to_be_bytes w32) to

abbrev pub how : How → List ℕ
how Taken = 0 ∷ []
how (Refused code reason) = 1 ∷ (to_be_bytes w32 code ++ text reason)
how Skipped = 2 ∷ []

-- a tag, and what the event is made of: receivers and codes in four bytes, other numbers in eight
abbrev pub event : Event → List ℕ
event (Planned plan) = 1 ∷ text plan
event (Accepted number to bytes) = 2 ∷ (to_be_bytes w64 number ++ (receivers to ++ text bytes))
event (Again receiver place) = 3 ∷ (to_be_bytes w32 receiver ++ to_be_bytes w64 place)
event (Passed receiver place passed) = 4 ∷ (to_be_bytes w32 receiver ++ (to_be_bytes w64 place ++ how passed))
event (Named receiver name address) = 5 ∷ (to_be_bytes w32 receiver ++ (text name ++ text address))
event (Margin number) = 6 ∷ to_be_bytes w64 number
event (Retired segment) = 7 ∷ to_be_bytes w64 segment

-- the time in eight bytes, and the event
abbrev pub spelled : Entry → List ℕ
spelled e = to_be_bytes w64 e.time ++ event e.event

-- ---- what has a spelling

abbrev pub IsShort : List ℕ → Type 0
IsShort bytes = length bytes < 2 ^ 32

abbrev pub AreShort : List ℕ → Type 0
AreShort to = (length to < 2 ^ 32) × AllByRecursion (λ r. r < 2 ^ 32) to

abbrev pub HowFits : How → Type 0
HowFits Taken = ⊤
HowFits (Refused code reason) = (code < 2 ^ 32) × IsShort reason
HowFits Skipped = ⊤

abbrev pub EventFits : Event → Type 0
EventFits (Planned plan) = IsShort plan
EventFits (Accepted number to bytes) = (number < 2 ^ 64) × (AreShort to × IsShort bytes)
EventFits (Again receiver place) = (receiver < 2 ^ 32) × (place < 2 ^ 64)
EventFits (Passed receiver place passed) = (receiver < 2 ^ 32) × ((place < 2 ^ 64) × HowFits passed)
EventFits (Named receiver name address) = (receiver < 2 ^ 32) × (IsShort name × IsShort address)
EventFits (Margin number) = number < 2 ^ 64
EventFits (Retired segment) = segment < 2 ^ 64

abbrev pub Fits : Entry → Type 0
Fits e = (e.time < 2 ^ 64) × EventFits e.event

-- What is due by a log, what was passed, and which plan is in force.
use Rattle.std.specs.Prelude.{ℕ, ◌+◌, Bool, nat_eq, if◌then◌else◌, List, [], ◌∷◌, ◌++◌, length, take, drop, Option, Some, None}
use Rattle.std.specs.List.{fold, list_any}
use Rattle.gw_due.specs.Events.{Refused, Event, Planned, Accepted, Again, Passed, Named, Margin, Retired}

-- a receiver is one of these
abbrev pub is_among : ℕ → List ℕ → Bool
is_among r to = list_any (λ n. nat_eq n r) to

-- ---- what is due to a receiver

-- the place, where something is due to the receiver by the event there
abbrev pub due_by : ℕ → ℕ → Event → List ℕ
due_by r at (Accepted number to bytes) = if is_among r to then at ∷ [] else []
due_by r at (Again receiver place) = if nat_eq receiver r then at ∷ [] else []
due_by r at _ = []

-- the same of events of which the first stands at a place
abbrev pub due_from : ℕ → ℕ → List Event → List ℕ
due_from r at [] = []
due_from r at (e ∷ log) = due_by r at e ++ due_from r (at + 1) log

-- the places at which something is due to a receiver, in order
abbrev pub due : ℕ → List Event → List ℕ
due r log = due_from r 0 log

abbrev pub passed_by : ℕ → Event → List ℕ
passed_by r (Passed receiver place how) = if nat_eq receiver r then place ∷ [] else []
passed_by r _ = []

-- the places that a receiver passed, in order
abbrev pub passed : ℕ → List Event → List ℕ
passed r [] = []
passed r (e ∷ log) = passed_by r e ++ passed r log

abbrev pub refused_by : ℕ → Event → List ℕ
refused_by r (Passed receiver place (Refused code reason)) = if nat_eq receiver r then place ∷ [] else []
refused_by r _ = []

-- those of them that it refused
abbrev pub refused : ℕ → List Event → List ℕ
refused r [] = []
refused r (e ∷ log) = refused_by r e ++ refused r log

-- what is due to it by a log that goes on from an old one, but for what it had passed by then
abbrev pub due_since : ℕ → (old new : List Event) → List ℕ
due_since r old new = drop (length (passed r old)) (due r new)

-- what is left of what is due
abbrev pub left : ℕ → List Event → List ℕ
left r log = due_since r log log

-- ---- the plan

abbrev pub plan_by : List ℕ → Event → List ℕ
plan_by text (Planned new) = new
plan_by text _ = text

-- the text of the plan in force, and of the one in force at a place
abbrev pub plan : List Event → List ℕ
plan log = fold plan_by [] log

abbrev pub plan_at : ℕ → List Event → List ℕ
plan_at place log = plan (take place log)

-- ---- numbers, names

abbrev pub last_by : Option ℕ → Event → Option ℕ
last_by last (Accepted number to bytes) = Some number
last_by last _ = last

-- the number of the last message that was accepted
abbrev pub last : List Event → Option ℕ
last log = fold last_by None log

abbrev pub margin_by : ℕ → Event → ℕ
margin_by margin (Margin number) = number
margin_by margin _ = margin

-- numbers below this one may have been given
abbrev pub margin : List Event → ℕ
margin log = fold margin_by 0 log

abbrev pub oldest_by : ℕ → Event → ℕ
oldest_by oldest (Retired segment) = segment
oldest_by oldest _ = oldest

-- segments below this one may be gone
abbrev pub oldest : List Event → ℕ
oldest log = fold oldest_by 0 log

-- a receiver's number, and its name
pub record Name : Type 0 where
  pub number : ℕ
  pub name : List ℕ

abbrev pub names_by : Event → List Name
names_by (Named receiver name address) = record { number = receiver; name = name } ∷ []
names_by _ = []

-- the names that were given
abbrev pub names : List Event → List Name
names [] = []
names (e ∷ log) = names_by e ++ names log

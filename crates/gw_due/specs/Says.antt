-- What a state says of its log.
use Rattle.std.specs.Prelude.{◌≡◌, ⊤, ℕ, ◌≤◌, List, [], length, drop, Option, Some, None, slice_get}
use Rattle.std.specs.List.{AllByRecursion}
use Rattle.gw_due.specs.Events.{Event, Planned, Accepted, Again, Passed}
use Rattle.gw_due.specs.Due.{due_from, left, refused, plan, last, margin, oldest, Name, names}
use Rattle.gw_due.specs.Lawful.{IsAccepted}
use Rattle.gw_due.specs.State.{Receiver, State}

-- What is left for a receiver is what is due to it from a place on. So who reads the log on from there finds it, in order.
pub record SaysOf (log : List Event) (r : Receiver) : Type 0 where
  pub within : r.from ≤ length log
  pub behind : left r.number log ≡ due_from r.number r.from (drop r.from log)
  pub left : r.left ≡ length (left r.number log)
  pub refused : r.refused ≡ length (refused r.number log)

-- the plan in force stands at this place
abbrev pub IsPlanAt : Option ℕ → List Event → Type 0
IsPlanAt None log = plan log ≡ []
IsPlanAt (Some place) log = slice_get log place ≡ Some (Planned (plan log))

pub record Says (log : List Event) (s : State) : Type 0 where
  pub next : s.next ≡ length log
  pub plan : IsPlanAt s.plan log
  pub last : s.last ≡ last log
  pub margin : s.margin ≡ margin log
  pub oldest : s.oldest ≡ oldest log
  pub receivers : AllByRecursion (SaysOf log) s.receivers

-- What no state can say of an event, and who reads the log sees. The plan in force routes a message so, and it conforms.
-- A message that is due again was accepted at its place. The place that is passed is the first that is left.
module _ (Routes : (names : List Name) (plan to bytes : List ℕ) → Type 0) where
  abbrev pub IsSeen : List Event → Event → Type 0
  IsSeen log (Accepted number to bytes) = Routes (names log) (plan log) to bytes
  IsSeen log (Again receiver place) = IsAccepted place log
  IsSeen log (Passed receiver place how) = slice_get (left receiver log) 0 ≡ Some place
  IsSeen log _ = ⊤

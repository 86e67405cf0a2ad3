-- What a start has to know of a log.
use Rattle.std.specs.Prelude.{ℕ, ◌+◌, ◌-◌, Bool, true, false, nat_eq, nat_lt, nat_le, ◌&&◌, if◌then◌else◌, List, [], ◌∷◌, map, Option, None, Some}
use Rattle.std.specs.List.{fold, list_any, list_all}
use Rattle.gw_due.specs.Events.{How, Refused, Event, Planned, Accepted, Again, Passed, Named, Margin, Retired}
use Rattle.gw_due.specs.Due.{is_among, last_by, margin_by, oldest_by, Name}
use Rattle.gw_due.specs.Lawful.{agrees}

-- What is known of a receiver. What is left for it stands at the place `from` or behind it: who reads on from there finds it.
pub record Receiver : Type 0 where
  pub number : ℕ
  pub name : List ℕ
  pub address : List ℕ
  pub from : ℕ
  -- how many are left, and how many it refused
  pub left : ℕ
  pub refused : ℕ

-- the place of the next record; that of the plan in force; the number of the last message; the margin of numbers;
-- the oldest segment that has to be there; the receivers
pub record State : Type 0 where
  pub next : ℕ
  pub plan : Option ℕ
  pub last : Option ℕ
  pub margin : ℕ
  pub oldest : ℕ
  pub receivers : List Receiver

-- ---- what an event changes

abbrev pub refusals : How → ℕ
refusals (Refused code reason) = 1
refusals _ = 0

-- something more is left, at this place
abbrev pub owed : ℕ → Receiver → Receiver
owed at r = record r { from = if nat_eq r.left 0 then at else r.from; left = r.left + 1 }

-- what was left at this place is passed
abbrev pub passed : ℕ → How → Receiver → Receiver
passed place how r = record r { from = place + 1; left = r.left - 1; refused = r.refused + refusals how }

abbrev pub receiver_by : ℕ → Event → Receiver → Receiver
receiver_by at (Accepted number to bytes) r = if is_among r.number to then owed at r else r
receiver_by at (Again receiver place) r = if nat_eq receiver r.number then owed at r else r
receiver_by at (Passed receiver place how) r = if nat_eq receiver r.number then passed place how r else r
receiver_by at _ r = r

-- the receiver of this number has this address; where there is none, it is a new one
abbrev pub named : ℕ → List ℕ → List ℕ → List Receiver → List Receiver
named n name address [] = record { number = n; name = name; address = address; from = 0; left = 0; refused = 0 } ∷ []
named n name address (r ∷ rs) = if nat_eq r.number n then record r { address = address } ∷ rs else r ∷ named n name address rs

-- it gives a name, or an address: it alone takes memory
abbrev pub is_naming : Event → Bool
is_naming (Named n name address) = true
is_naming _ = false

abbrev pub receivers_by : ℕ → Event → List Receiver → List Receiver
receivers_by at (Named n name address) rs = named n name address rs
receivers_by at e rs = map (receiver_by at e) rs

abbrev pub plan_place : ℕ → Option ℕ → Event → Option ℕ
plan_place at plan (Planned text) = Some at
plan_place at plan _ = plan

abbrev pub after : State → Event → State
after s e = record {
  next = s.next + 1;
  plan = plan_place s.next s.plan e;
  last = last_by s.last e;
  margin = margin_by s.margin e;
  oldest = oldest_by s.oldest e;
  receivers = receivers_by s.next e s.receivers;
}

-- the state of no events, and of these
abbrev pub nothing : State
nothing = record { next = 0; plan = None; last = None; margin = 0; oldest = 0; receivers = [] }

abbrev pub state_of : List Event → State
state_of log = fold after nothing log

-- ---- what may follow, as far as a state can say

abbrev pub is_known : List Receiver → ℕ → Bool
is_known rs n = list_any (λ r. nat_eq r.number n) rs

abbrev pub is_above : Option ℕ → ℕ → Bool
is_above None n = true
is_above (Some m) n = nat_lt m n

-- something is left for the receiver, and may stand at this place
abbrev pub awaits : ℕ → ℕ → Receiver → Bool
awaits n place r = nat_eq r.number n && (nat_lt 0 r.left && nat_le r.from place)

abbrev pub name_of : Receiver → Name
name_of r = record { number = r.number; name = r.name }

abbrev pub allows : State → Event → Bool
allows s (Planned text) = true
allows s (Accepted number to bytes) = list_all (is_known s.receivers) to && (is_above s.last number && nat_lt number s.margin)
allows s (Again receiver place) = is_known s.receivers receiver && nat_lt place s.next
allows s (Passed receiver place how) = nat_lt place s.next && list_any (awaits receiver place) s.receivers
allows s (Named receiver name address) = list_all (λ r. agrees receiver name (name_of r)) s.receivers
allows s (Margin number) = nat_le s.margin number
allows s (Retired segment) = nat_le s.oldest segment

-- each count has room for one more, in eight bytes
abbrev pub has_room : State → Bool
has_room s = nat_lt s.next 18446744073709551615
    && list_all (λ r. nat_lt r.left 18446744073709551615 && nat_lt r.refused 18446744073709551615) s.receivers

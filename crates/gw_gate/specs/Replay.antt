-- Events that are replayed.
use Rattle.std.specs.Prelude.{◌≡◌, ℕ, List, ◌∷◌, Result, Err, MatchResult}
use Rattle.gw_gate.specs.declared.replays.ReplayFault.{ReplayFault}
use Rattle.gw_gate.specs.declared.replays.ReplayFault.TheVariants.{Memory, NoPlan}
use Rattle.gw_gate.specs.Journal.{Journal, opening, from}
use Rattle.gw_gate.specs.Replies.{EventSeen, Swaps, ReplySeen, most, replies, run}

-- the number of a fault
abbrev pub number_of : ReplayFault → ℕ
number_of Memory = 1
number_of NoPlan = 2

-- a journal with the replies that led to it
abbrev pub Answered : Type 0
Answered = Journal × List ReplySeen

-- the events lead from this journal to that one, with these replies
pub record Leads (before : Journal) (events : List EventSeen) (r : Answered) : Type 0 where
  pub journal : r.0 ≡ run most before events
  pub replies : r.1 ≡ replies most before events

-- The plan of the first event opens the gate, and the others follow; any other list has no plan.
abbrev pub Replays : List EventSeen → Result Answered ReplayFault → Type 0
Replays (Swaps plan ∷ events) result = MatchResult result (λ r. Leads (from (opening plan)) events r) (λ fault. fault ≡ Memory)
Replays events result = result ≡ Err NoPlan

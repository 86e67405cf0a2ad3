-- The queues of receivers, entry by entry.
use Rattle.std.specs.Prelude.{◌≡◌, ℕ, ◌==◌, Bool, true, false, not, is_some, nat_eq, slice_index_or, List, [], ⊤}
use Rattle.std.specs.List.{IsDistinct, list_any}
use Rattle.gw_reorder.specs.State.{SameButRoom, nothing_due}
use Rattle.gw_reorder.specs.Calls.{next_of}
use Rattle.gw_gate.specs.Journal.{EntrySeen, WasAccepted}
use Rattle.gw_audit.specs.Owing.{Desk, entered}
use Rattle.gw_audit.specs.Turns.{TurnsOn}

-- a receiver's desk, and the numbers of entries at which there began or ceased to be nothing to be given out
pub record QueueSeen : Type 0 where
  pub desk : Desk
  pub turns : List ℕ

abbrev pub no_queue : QueueSeen
no_queue = record { desk = nothing_due; turns = [] }

-- the queue of this receiver; nothing is due at one that isn't there
abbrev pub queue_at : List QueueSeen → ℕ → QueueSeen
queue_at queues r = slice_index_or queues r no_queue

-- whether a receiver is one of these
abbrev pub among : List ℕ → ℕ → Bool
among to r = list_any (λ q. q == r) to

-- an acceptance concerns each receiver once
abbrev pub ConcernsOnce : EntrySeen → Type 0
ConcernsOnce (WasAccepted n arrival c) = IsDistinct nat_eq c.receivers
ConcernsOnce e = ⊤

-- the queue of a receiver after an entry that concerns it, with which there are this many
pub record Advanced (e : EntrySeen) (at : ℕ) (old new : QueueSeen) : Type 0 where
  pub desk : SameButRoom (entered e old.desk) new.desk
  pub turns : TurnsOn at (not (is_some (next_of new.desk))) old.turns new.turns

abbrev pub Moved : Bool → EntrySeen → ℕ → QueueSeen → QueueSeen → Type 0
Moved true e at old new = Advanced e at old new
Moved false e at old new = new ≡ old

-- the queue of a receiver after an entry, where it concerns these receivers
abbrev pub MovedIf : List ℕ → ℕ → EntrySeen → ℕ → QueueSeen → QueueSeen → Type 0
MovedIf to r e at old new = Moved (among to r) e at old new

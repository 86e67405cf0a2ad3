-- What a forwarder sends a receiver over a line.
use Rattle.std.specs.Prelude.{◌≡◌, ◌⊎◌, ℕ, List, [], ◌∷◌, ◌++◌, Option, Some, IsNone, IfSome}
use Rattle.std.specs.List.{AllByRecursion}
use Rattle.std.specs.Io.KnownBytes.{Appends}
use Rattle.gw_due.specs.Events.{Event, How}
use Rattle.gw_due.specs.Runs.{IsRun}
use Rattle.gw_journal.specs.declared.event.Event as happened
use Rattle.gw_ledger.specs.Backlogs.{BacklogState, Between, GoesOn, WasFirst}
use Rattle.gw_mllp.specs.Stream.{block}
use Rattle.gw_stream.specs.Sent.{BeginsWith}
use Rattle.gw_delivery.specs.Waiting.{Follows, IsHanded, IsPassed, WaitingState}

module _ (before : List (List ℕ)) (receiver : ℕ) (name : List ℕ) where
  -- From one moment to another a receiver was sent these bytes, and nothing else: the blocks of what was due to it at these places.
  -- Each was the first that was left for it then, and before the next was sent a record that it passed the one before was on the disk.
  pub data Delivers (from : BacklogState) : (places sent : List ℕ) → BacklogState → Type 0 where
    none_yet : Delivers from [] [] from
    one_more : (places sent : List ℕ) (mid given to : BacklogState) (place : ℕ) (bytes : List ℕ) (passed : How) (history : List happened.Event)
        → Delivers from places sent mid → GoesOn before mid given [] → IsHanded before receiver name place bytes given
        → IsPassed before receiver place passed history → GoesOn before given to (place ∷ [])
        → Delivers from (places ++ place ∷ []) (sent ++ block bytes) to

  -- At last nothing more was sent; or one more, the first that is left then, which is to be sent again; or, at a fault, a beginning of its block at most.
  pub data EndsWith (mid : BacklogState) : (places sent : List ℕ) → BacklogState → Type 0 where
    all_passed : EndsWith mid [] [] mid
    one_again : (given : BacklogState) (place : ℕ) (bytes : List ℕ) → GoesOn before mid given [] → IsHanded before receiver name place bytes given
        → EndsWith mid (place ∷ []) (block bytes) given
    one_begun : (given : BacklogState) (place : ℕ) (bytes part : List ℕ) → GoesOn before mid given [] → IsHanded before receiver name place bytes given
        → BeginsWith (block bytes) part → EndsWith mid (place ∷ []) part given

-- Between two moments of a journal what was due to a receiver at these places was handed over: it passed all of them but the last perhaps, and nothing else.
-- That one is the first that is left then.
abbrev pub IsRunBetween : List (List ℕ) → (receiver : ℕ) (old new : List happened.Event) (places : List ℕ) → Type 0
IsRunBetween before receiver old new places = Between (λ was now. IsRun receiver was now places) before old new

-- From one moment, at which what is left was seen, to another a writer got what was due to the receiver at these places: this is a run.
-- Each was the first that is left by what was on the disk, when it was sent
pub record IsHandedOver (before : List (List ℕ)) (receiver : ℕ) (name : List ℕ) (start end : BacklogState) (places sent : List ℕ) : Type 0 where
  pub passed : List ℕ
  pub settled : List ℕ
  pub mid : BacklogState
  pub delivers : Delivers before receiver name start passed settled mid
  pub last : List ℕ
  pub rest : List ℕ
  pub ends : EndsWith before receiver name mid last rest end
  pub places_are : places ≡ passed ++ last
  pub sent_is : sent ≡ settled ++ rest
  pub run : IsRunBetween before receiver start.history end.history places
  pub kept : AllByRecursion (λ place. WasFirst before receiver place end.history) places

-- a writer got just that, from what was known at the start on
pub record HasDelivered (before : List (List ℕ)) (old new : WaitingState) (had has : Option (List ℕ)) : Type 0 where
  pub start : BacklogState
  pub begins : IfSome old.backlog (λ was. start ≡ was)
  pub end : BacklogState
  pub places : List ℕ
  pub sent : List ℕ
  pub over : IsHandedOver before old.receiver old.name start end places sent
  pub wrote : Appends had has sent
  -- what was seen last is kept, if it is, and nothing was passed since
  pub stays : IsNone new.backlog ⊎ Follows before (Some end) new.backlog

-- When a fault came nothing had been sent; or a writer had got what was due, as a run, of whose last perhaps a beginning alone was sent
pub data HasStopped (before : List (List ℕ)) (old new : WaitingState) (had has : Option (List ℕ)) : Type 0 where
  at_once : Appends had has [] → HasStopped before old new had has
  later : HasDelivered before old new had has → HasStopped before old new had has

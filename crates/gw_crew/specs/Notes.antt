-- What a door notes of its replies, and the law of doors.
use Rattle.std.specs.Prelude.{◌≡◌, ℕ, List, ◌++◌, ⊤, IsTrue, Option, None, Some, Result, MatchResult}
use Rattle.std.specs.Option.{option_to_list}
use Rattle.gw_gate.specs.Parts.{PlanSeen, ConformingSeen, delivers}
use Rattle.gw_gate.specs.Journal.{EntrySeen, Journal, end}
use Rattle.gw_gate.specs.Replies.{EventSeen, Looks, Arrives, Refuses, Swaps, Takes, Puts, Reissues, Releases, Cuts, added}
use Rattle.gw_gate.specs.Replies.{ReplySeen, IsCurrent, IsAccepted, IsStale, IsRefused, IsSwapped, IsUnlike, IsJob, IsIdle, IsKept, IsRepeat, IsStranger}
use Rattle.gw_gate.specs.Replies.{IsIssued, IsDone, IsOut, IsNothing, IsPending, IsClosed, IsFull}

-- what is noted of a reply: what it said, or the entry that it added, with its number over all chapters
pub data NoteSeen : Type 0 where
  Looked : (version : ℕ) → (plan : PlanSeen) → NoteSeen
  WasStale : (version : ℕ) → (conforming : ConformingSeen) → NoteSeen
  WasFull : NoteSeen
  WasIdle : NoteSeen
  WasNothing : (receiver : ℕ) → NoteSeen
  Added : (at : ℕ) → (entry : EntrySeen) → NoteSeen

-- the receiver that an event asks for, 0 where it asks for none
abbrev pub asked_for : EventSeen → ℕ
asked_for (Releases r) = r
asked_for event = 0

-- the note of a reply that adds no entry, if it leaves one, by the receiver that was asked for
abbrev pub plain_by : ℕ → ReplySeen → Option NoteSeen
plain_by r (IsCurrent version plan) = Some (Looked version plan)
plain_by r (IsStale version c) = Some (WasStale version c)
plain_by r (IsFull back) = Some WasFull
plain_by r IsIdle = Some WasIdle
plain_by r IsNothing = Some (WasNothing r)
plain_by r given = None

-- the note of an entry, else the plain note
abbrev pub note_or : ℕ → Option NoteSeen → Option EntrySeen → Option NoteSeen
note_or at plain None = plain
note_or at plain (Some entry) = Some (Added at entry)

-- the note of a reply; `at` is the number of the entry, where it adds one
abbrev pub note_of : ℕ → EventSeen → ReplySeen → Option NoteSeen
note_of at event given = note_or at (plain_by (asked_for event) given) (added event given)

-- ---- the law of doors

-- The replies that an event can have. A value that comes back is the one that was given; a job goes to a receiver of its message's route.
abbrev pub Answers : EventSeen → ReplySeen → Type 0
Answers Looks (IsCurrent version plan) = ⊤
Answers (Arrives c) (IsAccepted n arrival) = ⊤
Answers (Arrives c) (IsStale version back) = back ≡ c
Answers (Arrives c) (IsFull back) = back ≡ Arrives c
Answers (Refuses code) (IsRefused arrival) = ⊤
Answers (Refuses code) (IsFull back) = back ≡ Refuses code
Answers (Swaps plan) (IsSwapped version) = ⊤
Answers (Swaps plan) (IsUnlike back) = back ≡ plan
Answers (Swaps plan) (IsFull back) = back ≡ Swaps plan
Answers Takes (IsJob n r c) = IsTrue (delivers c r)
Answers Takes IsIdle = ⊤
Answers Takes (IsFull back) = back ≡ Takes
Answers (Puts n t) IsKept = ⊤
Answers (Puts n t) (IsRepeat back) = back ≡ t
Answers (Puts n t) (IsStranger back) = back ≡ Some t
Answers (Puts n t) (IsFull back) = back ≡ Puts n t
Answers (Reissues n r) IsIssued = ⊤
Answers (Reissues n r) IsDone = ⊤
Answers (Reissues n r) (IsStranger back) = back ≡ None
Answers (Reissues n r) (IsFull back) = back ≡ Reissues n r
Answers (Releases r) (IsOut n t) = ⊤
Answers (Releases r) IsNothing = ⊤
Answers (Releases r) (IsFull back) = back ≡ Releases r
Answers Cuts IsPending = ⊤
Answers Cuts (IsClosed chapter) = ⊤
Answers event given = ⊥

-- a reply was given and noted
pub record Notes (event : EventSeen) (given : ReplySeen) (old new : List NoteSeen) : Type 0 where
  pub answers : Answers event given
  pub at : ℕ
  pub notes : new ≡ old ++ option_to_list (note_of at event given)

-- after an allocation failure the event came back, and nothing was noted
pub record ComesBack (event back : EventSeen) (old new : List NoteSeen) : Type 0 where
  pub back_is : back ≡ event
  pub notes : new ≡ old

-- a call of a door
abbrev pub Calls : List NoteSeen → EventSeen → Result ReplySeen EventSeen → List NoteSeen → Type 0
Calls old event result new = MatchResult result (λ given. Notes event given old new) (λ back. ComesBack event back old new)

-- ---- a door that is a gate's alone

-- what it notes of a step of its gate: the reply, with the number that its entry gets
abbrev pub NotesAt : Journal → EventSeen → Result ReplySeen EventSeen → List NoteSeen → List NoteSeen → Type 0
NotesAt before event result old new = MatchResult result (λ given. new ≡ old ++ option_to_list (note_of (end before) event given)) (λ back. new ≡ old)

-- ---- what notes hold

-- an entry with its number over all chapters
pub record ReceiptSeen : Type 0 where
  pub at : ℕ
  pub entry : EntrySeen

-- the receipt that a note is, if it is one
abbrev pub receipt_of : NoteSeen → Option ReceiptSeen
receipt_of (Added at entry) = Some (record { at = at; entry = entry })
receipt_of note = None

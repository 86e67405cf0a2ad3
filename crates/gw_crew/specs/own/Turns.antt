-- How workers and couriers come through a round.
use Rattle.std.specs.Prelude.{◌≡◌, ℕ, Bool, true, false, List, [], ◌∷◌, ◌++◌, ⊤, IsTrue, Option, None, Some}
use Rattle.std.specs.Arc.{arc_value}
use Rattle.gw_ack.specs.declared.receipt.Ack.{Ack}
use Rattle.gw_ack.specs.Headers.{control_of}
use Rattle.gw_er7.specs.Message.{SegmentValue}
use Rattle.gw_er7.specs.Written.{written}
use Rattle.gw_gate.specs.Journal.{WasTaken, WasKept, WasOut}
use Rattle.gw_gate.specs.Parts.{ConformingSeen, TranslatedSeen, delivers}
use Rattle.gw_gate.specs.Replies.{ReplySeen, IsJob, IsIdle, IsKept, IsFull}
use Rattle.gw_gate.specs.Seen.{Translated, conforming_seen, translated_seen}
use Rattle.gw_mllp.specs.Stream.{Held, block}
use Rattle.gw_stream.specs.declared.fault.RunFault.{RunFault}
use Rattle.gw_stream.specs.declared.sink.Sink as sink
use Rattle.gw_stream.specs.declared.source.Source as source
use Rattle.gw_crew.specs.declared.workers.TakeReply as worker
use Rattle.gw_crew.specs.Notes.{NoteSeen, WasFull, WasIdle, WasNothing, Added}
use Rattle.gw_crew.specs.Works.{Ends}
use Rattle.gw_crew.specs.Carries as carries
use Rattle.std.specs.declared.alloc.Global.{Global}
use Rattle.std.specs.declared.sync.Arc.{Arc}

-- ---- what a worker is given

pub data TakeReplySeen : Type 0 where
  IsTaken : (n r : ℕ) → (conforming : ConformingSeen) → TakeReplySeen
  NoneLeft : TakeReplySeen
  NoRoom : TakeReplySeen

abbrev pub take_reply_seen : worker.TakeReply → TakeReplySeen
take_reply_seen (worker.TheVariants.Job job) = IsTaken job.n job.receiver (conforming_seen (arc_value job.conforming))
take_reply_seen worker.TheVariants.Idle = NoneLeft
take_reply_seen worker.TheVariants.Full = NoRoom

abbrev pub take_reply : ReplySeen → TakeReplySeen
take_reply (IsJob n r c) = IsTaken n r c
take_reply IsIdle = NoneLeft
take_reply given = NoRoom

-- a job goes to a receiver of its message's route
abbrev pub Goes : TakeReplySeen → Type 0
Goes (IsTaken n r c) = IsTrue (delivers c r)
Goes taken = ⊤

-- what is noted of it
abbrev pub take_notes : ℕ → TakeReplySeen → List NoteSeen
take_notes at (IsTaken n r c) = Added at (WasTaken n r) ∷ []
take_notes at NoneLeft = WasIdle ∷ []
take_notes at NoRoom = WasFull ∷ []

pub record Took (taken : TakeReplySeen) (old new : List NoteSeen) : Type 0 where
  pub goes : Goes taken
  pub at : ℕ
  pub noted : new ≡ old ++ take_notes at taken

-- ---- what becomes of its result

-- how many results were kept, where the worker goes on
abbrev pub put_reply : ReplySeen → Option ℕ
put_reply IsKept = Some 1
put_reply (IsFull back) = None
put_reply given = Some 0

-- ---- a worker's round

-- how a job ends: how many results were kept, if the worker goes on; whether its pause was stopped; and what was noted
pub data Finishes (n r : ℕ) : Option ℕ → Bool → List NoteSeen → Type 0 where
  is_kept : (at : ℕ) (t : TranslatedSeen) → t.receiver ≡ r → Finishes n r (Some 1) false (Added at (WasKept n t) ∷ [])
  is_dropped : Finishes n r (Some 0) false []
  is_full : Finishes n r None false (WasFull ∷ [])
  is_stopped : Finishes n r None true []

-- how a round ends
pub data Turn : Option ℕ → Bool → List NoteSeen → Type 0 where
  keeps : (at later n : ℕ) (t : TranslatedSeen) → Turn (Some 1) false (Added at (WasTaken n t.receiver) ∷ Added later (WasKept n t) ∷ [])
  drops : (at n r : ℕ) → Turn (Some 0) false (Added at (WasTaken n r) ∷ [])
  waits : Turn (Some 0) false (WasIdle ∷ [])
  ends : (stopped : Bool) (last : List NoteSeen) → Ends stopped last → Turn None stopped last

-- these notes were added, of which this holds
pub record Adds (Holds : List NoteSeen → Type 0) (old new : List NoteSeen) : Type 0 where
  pub more : List NoteSeen
  pub holds : Holds more
  pub noted : new ≡ old ++ more

-- ---- what a courier is given

-- that many times nothing was given out
pub data Waits (r : ℕ) : List NoteSeen → Type 0 where
  never : Waits r []
  again : (notes : List NoteSeen) → Waits r notes → Waits r (notes ++ WasNothing r ∷ [])

-- something was given out
pub record ComesOut (r n : ℕ) (t : TranslatedSeen) (old new : List NoteSeen) : Type 0 where
  pub mid : List NoteSeen
  pub waits : Adds (Waits r) old mid
  pub at : ℕ
  pub noted : new ≡ mid ++ Added at (WasOut n r t) ∷ []

-- nothing more is given out
pub record ComesNone (r : ℕ) (old new : List NoteSeen) : Type 0 where
  pub mid : List NoteSeen
  pub waits : Adds (Waits r) old mid
  pub last : NoteSeen
  pub ends : carries.Ends r last
  pub noted : new ≡ mid ++ last ∷ []

abbrev pub Comes : ℕ → Option (ℕ × TranslatedSeen) → List NoteSeen → List NoteSeen → Type 0
Comes r (Some out) old new = ComesOut r out.0 out.1 old new
Comes r None old new = ComesNone r old new

abbrev pub out_seen : ℕ × Arc Translated Global → ℕ × TranslatedSeen
out_seen out = (out.0, translated_seen (arc_value out.1))

-- ---- a message's block on a line

-- it was written, and acknowledged for the message's control id
abbrev pub SendsMessage : {R W : Type 0} → source.Ghosts R → sink.Ghosts W → List SegmentValue → R → R → W → W → Held → Held → Ack → Type 0
SendsMessage by to m = carries.SentBy by to (block (written m)) (control_of m)

-- it was written in part or whole, and not acknowledged for that
abbrev pub BreaksMessage : {R W : Type 0} → source.Ghosts R → sink.Ghosts W → ℕ → List SegmentValue → R → R → W → W → Held → RunFault → Type 0
BreaksMessage by to n m = carries.UnsentBy by to n (block (written m)) (control_of m)

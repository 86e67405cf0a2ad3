-- What a session notes and writes, block by block (HL7 v2.5.1 chapter 2, 2.9.2: original acknowledgment mode).
use Rattle.std.specs.Prelude.{◌≡◌, ℕ, ◌+◌, ◌≤◌, IsTrue, List, [], ◌∷◌, ◌++◌, Option, None, Some, Result, Ok}
use Rattle.gw_ack.specs.declared.reply.Reply.{Reply}
use Rattle.gw_ack.specs.declared.reply.Reply.TheVariants.{Accept, Refuse, Reject}
use Rattle.gw_er7.specs.Message.{SegmentValue}
use Rattle.gw_validate.specs.Kinds as kinds
use Rattle.gw_plan.specs.Shapes.{PlanValue}
use Rattle.gw_plan.specs.Whole.{spelled}
use Rattle.gw_gate.specs.Parts.{PlanSeen, ConformingSeen, is_under}
use Rattle.gw_gate.specs.Journal.{WasAccepted, WasRefused}
use Rattle.gw_gate.specs.Seen.{message_seen}
use Rattle.gw_mllp.specs.Stream.{Tail}
use Rattle.gw_stream.specs.declared.counts.Counts.{Counts}
use Rattle.gw_stream.specs.declared.fault.RunFault.{RunFault}
use Rattle.gw_stream.specs.declared.judge.Outcome.{Outcome}
use Rattle.gw_stream.specs.declared.sink.Sink as sink
use Rattle.gw_stream.specs.declared.source.Source as source
use Rattle.gw_stream.specs.Exchanges.{AllExchanged, SomeExchanged}
use Rattle.gw_stream.specs.Served.{Routed}
use Rattle.gw_stream.specs.Streams.{Ends}
use Rattle.gw_crew.specs.declared.clock.Clock as clock
use Rattle.gw_crew.specs.declared.door.Door as door
use Rattle.gw_crew.specs.Notes.{NoteSeen, Looked, WasStale, WasFull, Added}

-- ---- what is said

-- what is said to a message under the plan that a text spells
pub record Judged (text : List ℕ) (m : List SegmentValue) (reply : Reply) : Type 0 where
  pub plan : PlanValue
  pub spells : spelled text ≡ Ok plan
  pub says : Routed plan m reply

-- the code of a refusal, which is that of ERR-3 of its answer
abbrev pub HasCode : Reply → ℕ → Type 0
HasCode Accept code = ⊥
HasCode (Refuse breach) code = code ≡ kinds.code_of breach.kind
HasCode (Reject number) code = code ≡ number

-- ---- what is noted

-- a message, admitted under this version and plan
pub record IsArrival (m : List SegmentValue) (version : ℕ) (plan : PlanSeen) (c : ConformingSeen) : Type 0 where
  pub message : c.message ≡ message_seen m
  pub under : IsTrue (is_under c version plan)

-- this many times the plan was looked up, and the message, admitted under it, was stale when it arrived
pub data Tries (m : List SegmentValue) : ℕ → List NoteSeen → Type 0 where
  untried : Tries m 0 []
  stale : (k : ℕ) (notes : List NoteSeen) (v w : ℕ) (plan : PlanSeen) (c : ConformingSeen) → Tries m k notes → IsArrival m v plan c
      → Tries m (k + 1) (notes ++ Looked v plan ∷ WasStale w c ∷ [])

-- What is to be said after these notes: what can't be read is rejected, with no look; a message is judged under the plan that was looked up last,
-- after three stale arrivals at most; after four it is rejected.
pub data Decides : Option (List SegmentValue) → List NoteSeen → Reply → Type 0 where
  no_message : Decides None [] (Reject 207)
  judged : (m : List SegmentValue) (k : ℕ) (tried : List NoteSeen) (v : ℕ) (plan : PlanSeen) (reply : Reply) → k ≤ 3 → Tries m k tried
      → Judged plan.text m reply → Decides (Some m) (tried ++ Looked v plan ∷ []) reply
  given_up : (m : List SegmentValue) (tried : List NoteSeen) → Tries m 4 tried → Decides (Some m) tried (Reject 207)

-- The outcome of a block: its notes, its number and what is said. The message was accepted, under the plan that was looked up last, and this is said under
-- the number of its arrival; or a refusal was noted, under the code of what is said; or the journal had no room.
pub data IsOutcome : Option (List SegmentValue) → List NoteSeen → ℕ → Reply → Type 0 where
  taken : (m : List SegmentValue) (k : ℕ) (tried : List NoteSeen) (v : ℕ) (plan : PlanSeen) (at n arrival : ℕ) (c : ConformingSeen) → k ≤ 3 → Tries m k tried
      → Judged plan.text m Accept → IsArrival m v plan c
      → IsOutcome (Some m) (tried ++ Looked v plan ∷ Added at (WasAccepted n arrival c) ∷ []) arrival Accept
  turned_away : (what : Option (List SegmentValue)) (before : List NoteSeen) (reply : Reply) (at arrival code : ℕ) → Decides what before reply
      → HasCode reply code → IsOutcome what (before ++ Added at (WasRefused arrival code) ∷ []) arrival reply
  no_room : (what : Option (List SegmentValue)) (before : List NoteSeen) (reply : Reply) → Decides what before reply
      → IsOutcome what (before ++ WasFull ∷ []) 0 (Reject 207)

-- the first notes of a block whose answer isn't made
pub data IsCutShort : Option (List SegmentValue) → List NoteSeen → Type 0 where
  at_once : (what : Option (List SegmentValue)) → IsCutShort what []
  tried : (m : List SegmentValue) (k : ℕ) (notes : List NoteSeen) → k ≤ 4 → Tries m k notes → IsCutShort (Some m) notes
  looked : (m : List SegmentValue) (k : ℕ) (notes : List NoteSeen) (v : ℕ) (plan : PlanSeen) → k ≤ 3 → Tries m k notes
      → IsCutShort (Some m) (notes ++ Looked v plan ∷ [])

-- ---- a session

-- A block is settled: its notes were added, and its answer has the number that they say, and a stamp that can be given.
pub record Settles (Gives : List ℕ → Type 0) (old new : List NoteSeen) (place : ℕ) (what : Option (List SegmentValue)) (outcome : Outcome) : Type 0 where
  pub notes : List NoteSeen
  pub is_outcome : IsOutcome what notes outcome.number outcome.reply
  pub noted : new ≡ old ++ notes
  pub given : Gives outcome.stamp

-- a block broke off: its first notes were added
pub record Breaks (old new : List NoteSeen) (what : Option (List SegmentValue)) : Type 0 where
  pub notes : List NoteSeen
  pub cut : IsCutShort what notes
  pub noted : new ≡ old ++ notes

-- nothing is noted where what was settled is secured
abbrev pub SameNotes : List NoteSeen → List NoteSeen → Type 0
SameNotes old new = new ≡ old

-- all blocks of the stream were settled in turn: the notes grew by theirs, and known bytes by their answers
abbrev pub SessionAll : (List ℕ → Type 0) → Option (List ℕ) → List NoteSeen → List NoteSeen → Option (List ℕ) → Option (List ℕ) → Tail → Counts → Type 0
SessionAll Gives = AllExchanged (Settles Gives) SameNotes

-- the first blocks of the stream were settled in turn, and the next one perhaps begun: known bytes grew by a beginning of their answers
abbrev pub SessionPart : (List ℕ → Type 0) → Option (List ℕ) → List NoteSeen → List NoteSeen → Option (List ℕ) → Option (List ℕ) → Type 0
SessionPart Gives = SomeExchanged (Settles Gives) SameNotes Breaks (λ old new. ⊥)

-- what a session did, by its result: all blocks were settled, or the first ones
abbrev pub IsSession : {D C R W : Type 0} → door.Ghosts D → clock.Ghosts C → source.Ghosts R → sink.Ghosts W → D → D → C → R → W → W
    → Result Counts RunFault → Type 0
IsSession at time by to door door' clock reader writer writer' result =
    Ends (SessionAll (time.gives clock) (by.remaining reader) (at.noted door) (at.noted door') (to.contents writer) (to.contents writer'))
    (λ fault. SessionPart (time.gives clock) (by.remaining reader) (at.noted door) (at.noted door') (to.contents writer) (to.contents writer')) result

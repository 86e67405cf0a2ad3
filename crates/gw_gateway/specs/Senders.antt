-- What is answered to a sender, and what of it is on the disk.
use Rattle.std.specs.Prelude.{◌≡◌, ◌≢◌, ℕ, List, ◌++◌, map, slice_get, Option, Some, IfSome, Result, Ok}
use Rattle.std.specs.Io.KnownBytes.{Appends}
use Rattle.std.specs.List.{AllByRecursion}
use Rattle.gw_ack.specs.declared.reply.Reply.{Reply}
use Rattle.gw_ack.specs.declared.reply.Reply.TheVariants.{Accept, Reject}
use Rattle.gw_er7.specs.Written.{written}
use Rattle.gw_due.specs.Events.{Event, Planned, Accepted}
use Rattle.gw_due.specs.Spelling as spelling
use Rattle.gw_journal.specs.declared.event.Event as happened
use Rattle.gw_journal.specs.Logs.{IsStored, log_in}
use Rattle.gw_ledger.specs.Finding.{InJournal}
use Rattle.gw_ledger.specs.Putting.{timed}
use Rattle.gw_mllp.specs.Stream.{Has, Tail}
use Rattle.gw_plan.specs.Shapes.{PlanValue}
use Rattle.gw_plan.specs.Whole.{spelled}
use Rattle.gw_stream.specs.declared.counts.Counts.{Counts}
use Rattle.gw_stream.specs.declared.fault.RunFault.{RunFault}
use Rattle.gw_stream.specs.Answers.{IsSettled, Message}
use Rattle.gw_stream.specs.Counted.{nothing}
use Rattle.gw_stream.specs.Exchanges.{Exchange, blocks_of, content_of, with_answers}
use Rattle.gw_stream.specs.Sent.{SendsPart}
use Rattle.gw_stream.specs.Served.{Routed}
use Rattle.gw_stream.specs.Streams.{Ends, HasFirst}
use Rattle.gw_gateway.specs.Waiting.{AllStored, GoesOn, IsAwaited, WaitState}

-- ---- what is said to a message

-- the plan of this text stands at this place
abbrev pub IsPlanned : ℕ → List ℕ → List Event → Type 0
IsPlanned place text log = slice_get log place ≡ Some (Planned text)

-- a plan of the journal says this of the message
pub record IsJudged (before : List (List ℕ)) (history : List happened.Event) (m : Message) (reply : Reply) : Type 0 where
  pub place : ℕ
  pub text : List ℕ
  pub stands : InJournal (IsPlanned place text) before history
  pub plan : PlanValue
  pub spells : spelled text ≡ Ok plan
  pub says : Routed plan m reply

-- the record that accepts the message under this number: it stands so at a place
pub record HasRecord (Stands : ℕ → List ℕ → Type 0) (m : Message) (number : ℕ) : Type 0 where
  pub place : ℕ
  pub time : ℕ
  pub to : List ℕ
  pub stands : Stands place (spelling.spelled (timed time (Accepted number to (written m))))

-- What is said under a number to what was read. A message is accepted where the plan accepts it, and its record stands in the journal.
-- Else it is refused as the plan refuses it. Where it can't be read, or there is no room, or the log takes nothing, it is rejected under 207.
pub data IsSaid (Stands : ℕ → List ℕ → Type 0) (before : List (List ℕ)) (history : List happened.Event) : Option Message → ℕ → Reply → Type 0 where
  accepted : (m : Message) (number : ℕ) → IsJudged before history m Accept → HasRecord Stands m number → IsSaid Stands before history (Some m) number Accept
  judged : (m : Message) (number : ℕ) (reply : Reply) → reply ≢ Accept → IsJudged before history m reply → IsSaid Stands before history (Some m) number reply
  unsettled : (what : Option Message) (number : ℕ) → IsSaid Stands before history what number (Reject 207)

-- ---- how a judge goes on

-- what was read is settled: this is said to it, and its answer waits for its record
pub record Settles (before : List (List ℕ)) (s t : WaitState) (what : Option Message) (number : ℕ) (reply : Reply) : Type 0 where
  pub on : GoesOn s t
  pub said : IsSaid (IsAwaited before t) before t.history what number reply

pub record Secures (before : List (List ℕ)) (s t : WaitState) : Type 0 where
  pub on : GoesOn s t
  pub stored : AllStored before t

-- ---- what goes to a sender

-- The answer to a content, as its sender may have it. It says what is said to the message that was read. The record of an accepted one
-- is on the disk: it stands in what any crash leaves from then on.
abbrev pub IsKept : List (List ℕ) → List happened.Event → Exchange → Type 0
IsKept before history e =
    IsSettled (λ what outcome. IsSaid (λ place bytes. IsStored place bytes (log_in before history)) before history what outcome.number outcome.reply) e.content e.answer

-- each of these answers is kept
abbrev pub AreKept : List (List ℕ) → List happened.Event → List Exchange → Type 0
AreKept before history done = AllByRecursion (IsKept before history) done

-- all blocks of the stream were answered: known bytes grew by the blocks of their answers, each of which is kept
pub record AnswersAll (before : List (List ℕ)) (history : List happened.Event) (stream : Option (List ℕ)) (old new : Option (List ℕ))
    (tail : Tail) (counts : Counts) : Type 0 where
  pub done : List Exchange
  pub cut : IfSome stream (λ bytes. Has bytes (map content_of done) tail)
  pub kept : AreKept before history done
  pub bytes : Appends old new (blocks_of done)
  pub counted : counts ≡ with_answers done nothing

-- the first blocks of the stream were answered: known bytes grew by a beginning of the blocks of their answers, each of which is kept
pub record AnswersFirst (before : List (List ℕ)) (history : List happened.Event) (stream : Option (List ℕ)) (old new : Option (List ℕ)) : Type 0 where
  pub done : List Exchange
  pub others : List (List ℕ)
  pub first : IfSome stream (λ bytes. HasFirst bytes (map content_of done ++ others))
  pub kept : AreKept before history done
  pub bytes : SendsPart old new (blocks_of done)

-- what went to the sender, by the result
abbrev pub Answers : List (List ℕ) → List happened.Event → Option (List ℕ) → Option (List ℕ) → Option (List ℕ) → Result Counts RunFault → Type 0
Answers before history stream old new result = Ends (AnswersAll before history stream old new) (λ fault. AnswersFirst before history stream old new) result

-- What is answered to a content (HL7 v2.5.1 chapter 2, 2.9.2: original acknowledgment mode).
use Rattle.std.specs.Prelude.{◌≡◌, ℕ, List, Option, None, Some}
use Rattle.std.specs.Arc.{arc_value}
use Rattle.std.specs.declared.alloc.Global.{Global}
use Rattle.std.specs.declared.sync.Arc.{Arc}
use Rattle.gw_ack.specs.declared.receipt.Ack.{Ack}
use Rattle.gw_ack.specs.declared.reply.Reply.{Reply}
use Rattle.gw_ack.specs.declared.reply.Reply.TheVariants.{Accept, Refuse, Reject}
use Rattle.gw_ack.specs.Answers.{ack_of, said_by}
use Rattle.gw_ack.specs.Headers.{HeaderValue, blank, header_of}
use Rattle.gw_er7.specs.declared.fault.ReadFault.{ReadFault}
use Rattle.gw_er7.specs.Faults.{Faulty}
use Rattle.gw_er7.specs.Message.{SegmentValue, IsMessage}
use Rattle.gw_er7.specs.Reading.{Reads}
use Rattle.gw_er7.specs.Written.{written}
use Rattle.gw_profile.specs.declared.profile.Profile.{Profile}
use Rattle.gw_profile.specs.Seen.{profile_value}
use Rattle.gw_profile.specs.Shapes.{ProfileValue}
use Rattle.gw_validate.specs.Broken.{IsLeast}
use Rattle.gw_validate.specs.Conforming.{Conforms}
use Rattle.gw_stream.specs.declared.judge.Outcome.{Outcome}

abbrev pub Message : Type 0
Message = List SegmentValue

-- what is said to a message that is held against one profile: it is accepted where it conforms, else its least breach is reported
abbrev pub Validated : ProfileValue → Message → Reply → Type 0
Validated p m Accept = Conforms p m
Validated p m (Refuse breach) = IsLeast p m breach
Validated p m (Reject code) = ⊥

-- the same by a profile as a caller holds it
abbrev pub ValidatedBy : Arc Profile Global → Message → Reply → Type 0
ValidatedBy profile = Validated (profile_value (arc_value profile))

-- what a content is read as: none, where it can't be read, or a message
pub data IsReadAs (content : List ℕ) : Option Message → Type 0 where
  unreadable : (fault : ReadFault) → Faulty content fault → IsReadAs content None
  readable : (m : Message) → IsMessage m → Reads content m → IsReadAs content (Some m)

-- the header of what is answered: that of a message with no fields, where it can't be read
abbrev pub header_for : Option Message → HeaderValue
header_for None = blank
header_for (Some m) = header_of m

-- what is said to what was read, by what is said to messages: what can't be read is rejected as an internal error
abbrev pub IsSaid : (Message → Reply → Type 0) → Option Message → Reply → Type 0
IsSaid Judged None reply = reply ≡ Reject 207
IsSaid Judged (Some m) reply = Judged m reply

-- an answer: its acknowledgment code and its content
pub record Answer : Type 0 where
  pub code : Ack
  pub content : List ℕ

-- A content was read, the outcome for it was settled, and the answer says the outcome's reply under its number and stamp.
pub record IsSettled (Settles : Option Message → Outcome → Type 0) (content : List ℕ) (answer : Answer) : Type 0 where
  pub what : Option Message
  pub is_read : IsReadAs content what
  pub outcome : Outcome
  pub settles : Settles what outcome
  pub code : answer.code ≡ ack_of outcome.reply
  pub spelled : answer.content ≡ written (said_by (header_for what) outcome.stamp outcome.number outcome.reply)

-- this is said, under this stamp and number
pub record IsSaidUnder (Judged : Message → Reply → Type 0) (stamp : List ℕ) (number : ℕ) (what : Option Message) (outcome : Outcome) : Type 0 where
  pub said : IsSaid Judged what outcome.reply
  pub stamp_is : outcome.stamp ≡ stamp
  pub number_is : outcome.number ≡ number

-- the answer of this number to a content
abbrev pub IsAnswer : (Message → Reply → Type 0) → List ℕ → ℕ → List ℕ → Answer → Type 0
IsAnswer Judged stamp number = IsSettled (IsSaidUnder Judged stamp number)

-- a content has one answer of this stamp and number at most
abbrev pub HasOneAnswer : (Message → Reply → Type 0) → List ℕ → ℕ → List ℕ → Type 0
HasOneAnswer Judged stamp number content = (a b : Answer) → IsAnswer Judged stamp number content a → IsAnswer Judged stamp number content b → a ≡ b

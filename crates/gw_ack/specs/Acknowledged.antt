-- What an acknowledgment says (HL7 v2.5.1 chapter 2, 2.15.8 "MSA").
use Rattle.std.specs.Prelude.{◌≡◌, ◌⊎◌, ℕ, Bool, true, false, if◌then◌else◌, List, [], ◌∷◌, codes, bytes_eq}
use Rattle.std.specs.Prelude.{Result, Ok, Err, Option, None, Some}
use Rattle.gw_er7.specs.Message.{SegmentValue, IsMessage, text_of}
use Rattle.gw_er7.specs.Reading.{Reads}
use Rattle.gw_ack.specs.declared.receipt.Ack.{Ack}
use Rattle.gw_ack.specs.declared.receipt.Ack.TheVariants.{AA, AE, AR}
use Rattle.gw_ack.specs.declared.receipt.AckFault.{AckFault}
use Rattle.gw_ack.specs.declared.receipt.AckFault.TheVariants.{Memory, Unreadable, NotAnAck, OtherMessage}

-- the number of a fault
abbrev pub number_of : AckFault → ℕ
number_of Memory = 1
number_of Unreadable = 2
number_of NotAnAck = 3
number_of OtherMessage = 4

-- the first segment of this name
abbrev pub first_named : List ℕ → List SegmentValue → Option SegmentValue
first_named name [] = None
first_named name (s ∷ ss) = if bytes_eq s.name name then Some s else first_named name ss

-- the code that a text is
abbrev pub code_in : List ℕ → Option Ack
code_in text =
    if bytes_eq text (codes "AA") then Some AA else if bytes_eq text (codes "AE") then Some AE
    else if bytes_eq text (codes "AR") then Some AR else None

-- the code of an MSA, where it answers the message of this control id
abbrev pub for_control : Option Ack → Bool → Result Ack AckFault
for_control None same = Err NotAnAck
for_control (Some ack) true = Ok ack
for_control (Some ack) false = Err OtherMessage

abbrev pub in_msa : Option SegmentValue → List ℕ → Result Ack AckFault
in_msa None control = Err NotAnAck
in_msa (Some s) control = for_control (code_in (text_of s.at 1 1 1 1)) (bytes_eq (text_of s.at 2 1 1 1) control)

-- what a message says as the acknowledgment of the message of this control id
abbrev pub acknowledgment : List SegmentValue → List ℕ → Result Ack AckFault
acknowledgment message control = in_msa (first_named (codes "MSA") message) control

-- a content that can be read as such an acknowledgment
pub record Acknowledges (content control : List ℕ) (ack : Ack) : Type 0 where
  pub message : List SegmentValue
  pub lawful : IsMessage message
  pub reads : Reads content message
  pub says : acknowledgment message control ≡ Ok ack

-- what was read is this, or an allocation failed
abbrev pub IsRead : Result Ack AckFault → Result Ack AckFault → Type 0
IsRead result said = (result ≡ Err Memory) ⊎ (result ≡ said)

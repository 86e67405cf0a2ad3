-- What an answer takes from the header of the message that it answers (HL7 v2.5.1 chapter 2, 2.15.9 "MSH").
use Rattle.std.specs.Prelude.{ℕ, List, [], ◌∷◌}
use Rattle.std.specs.FinMap as texts
use Rattle.gw_er7.specs.Entries.{Entry}
use Rattle.gw_er7.specs.Message.{SegmentValue, text_of}
use Rattle.gw_er7.specs.Text.{IsCanonical}
use Rattle.gw_er7.specs.Written.{those}
use Rattle.gw_ack.specs.Rows.{IsRepetition}

-- repetition 1 of a field, with all its components and subcomponents
abbrev pub first_repetition : ℕ → List Entry → List Entry
first_repetition field es = those 1 (those field es)

pub record HeaderValue : Type 0 where
  -- MSH-3 to MSH-6
  pub sending_application : List Entry
  pub sending_facility : List Entry
  pub receiving_application : List Entry
  pub receiving_facility : List Entry
  -- MSH-9.2
  pub event : List ℕ
  -- MSH-10
  pub control : List ℕ
  -- MSH-11
  pub processing : List Entry

-- the header whose segment holds these texts
abbrev pub header_from : List Entry → List ℕ → List ℕ → HeaderValue
header_from es event control = record {
  sending_application = first_repetition 3 es;
  sending_facility = first_repetition 4 es;
  receiving_application = first_repetition 5 es;
  receiving_facility = first_repetition 6 es;
  event = event;
  control = control;
  processing = first_repetition 11 es;
}

-- the header of a message of which nothing is known
abbrev pub blank : HeaderValue
blank = header_from [] [] []

abbrev pub header_in : SegmentValue → HeaderValue
header_in s = header_from (texts.entries s.at) (text_of s.at 9 1 2 1) (text_of s.at 10 1 1 1)

-- the header of a message: of its first segment
abbrev pub header_of : List SegmentValue → HeaderValue
header_of [] = blank
header_of (s ∷ ss) = header_in s

-- MSH-10 of a message: its control id, by its first subcomponent
abbrev pub control_of : List SegmentValue → List ℕ
control_of message = (header_of message).control

-- what every header keeps
pub record IsHeaderValue (h : HeaderValue) : Type 0 where
  pub sending_application : IsRepetition h.sending_application
  pub sending_facility : IsRepetition h.sending_facility
  pub receiving_application : IsRepetition h.receiving_application
  pub receiving_facility : IsRepetition h.receiving_facility
  pub event : IsCanonical h.event
  pub control : IsCanonical h.control
  pub processing : IsRepetition h.processing

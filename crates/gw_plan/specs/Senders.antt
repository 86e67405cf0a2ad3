-- Which messages a route takes of those of its code and event: by a text of their header (HL7 v2.5.1 chapter 2, 2.15.9).
use Rattle.std.specs.Prelude.{ℕ, Bool, true, false, ◌&&◌, ◌||◌, nat_eq, List, [], ◌∷◌, Option, Some, None, bytes_eq}
use Rattle.std.specs.List.{list_any}
use Rattle.gw_plan.specs.declared.senders.HeaderField.{HeaderField}
use Rattle.gw_plan.specs.declared.senders.HeaderField.TheVariants.{SendingApplication, SendingFacility, ReceivingApplication, ReceivingFacility, MessageProfile}

-- the number of the field in MSH
abbrev pub field_number : HeaderField → ℕ
field_number SendingApplication = 3
field_number SendingFacility = 4
field_number ReceivingApplication = 5
field_number ReceivingFacility = 6
field_number MessageProfile = 21

-- messages in whose header this field has one of these words
pub record Senders : Type 0 where
  pub field : HeaderField
  pub words : List (List ℕ)

-- the texts of a message's header, by their fields
abbrev pub Header : Type 0
Header = HeaderField → List ℕ

-- whether a message of this header is one of these, all where none are said
abbrev pub are_of : Header → Option Senders → Bool
are_of header None = true
are_of header (Some s) = list_any (bytes_eq (header s.field)) s.words

-- whether this field with this word is said
abbrev pub says : HeaderField → List ℕ → Option Senders → Bool
says field word None = false
says field word (Some s) = nat_eq (field_number field) (field_number s.field) && list_any (bytes_eq word) s.words

-- whether one of these words is taken, or stands twice
abbrev pub again : (List ℕ → Bool) → List (List ℕ) → Bool
again taken [] = false
again taken (word ∷ words) = taken word || (list_any (bytes_eq word) words || again taken words)

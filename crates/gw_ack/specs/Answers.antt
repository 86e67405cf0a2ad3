-- The message of an answer, field by field (HL7 v2.5.1 chapter 2, 2.9.2 "original mode", 2.15.8 "MSA", 2.15.5 "ERR").
use Rattle.std.specs.Prelude.{ℕ, ◌+◌, List, [], ◌∷◌, ◌++◌, map, codes}
use Rattle.std.specs.FinMap as texts
use Rattle.std.specs.Fmt.{decimal}
use Rattle.gw_validate.specs.Kinds.{code_of}
use Rattle.gw_er7.specs.Entries.{Entry}
use Rattle.gw_er7.specs.Message.{SegmentValue}
use Rattle.gw_ack.specs.declared.receipt.Ack.{Ack}
use Rattle.gw_ack.specs.declared.receipt.Ack.TheVariants.{AA, AE, AR}
use Rattle.gw_ack.specs.declared.reply.Reply.{Reply}
use Rattle.gw_ack.specs.declared.reply.Reply.TheVariants.{Accept, Refuse, Reject}
use Rattle.gw_ack.specs.Headers.{HeaderValue}
use Rattle.gw_ack.specs.Conditions.{condition, location_of, location_for}

-- a text at a component of a field, nothing where it is empty
abbrev pub component : ℕ → ℕ → List ℕ → List Entry
component number comp [] = []
component number comp (b ∷ text) = (number ∷ 1 ∷ comp ∷ 1 ∷ [], b ∷ text) ∷ []

-- texts at the components of a field, from this one on
abbrev pub components : ℕ → ℕ → List (List ℕ) → List Entry
components number comp [] = []
components number comp (text ∷ others) = component number comp text ++ components number (comp + 1) others

-- a field of these components
abbrev pub field : ℕ → List (List ℕ) → List Entry
field number parts = components number 1 parts

-- a field that is a copy of a repetition
abbrev pub copied : ℕ → List Entry → List Entry
copied number es = map (λ e. (number ∷ 1 ∷ e.0, e.1)) es

-- production, where the message doesn't say how it is to be processed
abbrev pub or_production : List Entry → List Entry
or_production [] = (1 ∷ 1 ∷ [], codes "P") ∷ []
or_production (e ∷ es) = e ∷ es

-- fields one after another
abbrev pub table : List (List Entry) → List Entry
table [] = []
table (rows ∷ fields) = rows ++ table fields

-- MSH: the sender and the receiver change places
abbrev pub msh : HeaderValue → List ℕ → ℕ → List Entry
msh h stamp arrival = table (
    copied 3 h.receiving_application
    ∷ copied 4 h.receiving_facility
    ∷ copied 5 h.sending_application
    ∷ copied 6 h.sending_facility
    ∷ field 7 (stamp ∷ [])
    ∷ field 9 (codes "ACK" ∷ h.event ∷ codes "ACK" ∷ [])
    ∷ field 10 ((71 ∷ decimal arrival) ∷ [])
    ∷ copied 11 (or_production h.processing)
    ∷ field 12 (codes "2.5.1" ∷ [])
    ∷ [])

-- MSA: the acknowledgment code, and the control id of the message
abbrev pub msa : List ℕ → List ℕ → List Entry
msa code control = table (field 1 (code ∷ []) ∷ field 2 (control ∷ []) ∷ [])

-- ERR: where, what and how bad
abbrev pub err : List (List ℕ) → ℕ → List Entry
err location code = table (
    field 2 location
    ∷ field 3 (decimal code ∷ condition code ∷ codes "HL70357" ∷ [])
    ∷ field 4 (codes "E" ∷ [])
    ∷ [])

abbrev pub segment : List ℕ → List Entry → SegmentValue
segment name rows = record { name = name; at = texts.from_entries rows }

-- the text of an acknowledgment code (table 0008)
abbrev pub ack_text : Ack → List ℕ
ack_text AA = codes "AA"
ack_text AE = codes "AE"
ack_text AR = codes "AR"

-- the message that says no more than this acknowledgment code
abbrev pub acknowledged : Ack → HeaderValue → List ℕ → ℕ → List SegmentValue
acknowledged ack h stamp arrival = segment (codes "MSH") (msh h stamp arrival) ∷ segment (codes "MSA") (msa (ack_text ack) h.control) ∷ []

-- the acknowledgment code of a reply
abbrev pub ack_of : Reply → Ack
ack_of Accept = AA
ack_of (Refuse breach) = AE
ack_of (Reject code) = AR

-- the ERR that reports why a message isn't accepted
abbrev pub reason : Reply → List SegmentValue
reason Accept = []
reason (Refuse breach) = segment (codes "ERR") (err (location_of breach) (code_of breach.kind)) ∷ []
reason (Reject code) = segment (codes "ERR") (err (location_for code) code) ∷ []

-- The message that says a reply: it is accepted, or it breaks its profile, or there is no route for it, or it can't be read or taken.
abbrev pub said_by : HeaderValue → List ℕ → ℕ → Reply → List SegmentValue
said_by h stamp arrival reply = acknowledged (ack_of reply) h stamp arrival ++ reason reply

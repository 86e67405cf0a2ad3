-- The conditions that an answer reports (HL7 v2.5.1 chapter 2, 2.15.5 "ERR", table 0357), and where they were found.
use Rattle.std.specs.Prelude.{◌≡◌, ℕ, ◌==◌, ◌⊎◌, if◌then◌else◌, List, [], ◌∷◌, codes}
use Rattle.std.specs.Fmt.{decimal}
use Rattle.gw_er7.specs.Names.{is_name}
use Rattle.gw_validate.specs.declared.breach.Breach.{Breach}

-- the text of a condition code
abbrev pub condition : ℕ → List ℕ
condition code =
    if code == 100 then codes "Segment sequence error" else if code == 101 then codes "Required field missing"
    else if code == 102 then codes "Data type error" else if code == 103 then codes "Table value not found"
    else if code == 200 then codes "Unsupported message type" else if code == 201 then codes "Unsupported event code"
    else if code == 202 then codes "Unsupported processing id" else if code == 203 then codes "Unsupported version id"
    else codes "Application internal error"

-- a number of a location, nothing for 0, which says that it isn't said
abbrev pub said : ℕ → List ℕ
said n = if n == 0 then [] else decimal n

-- a segment name, nothing where the bytes are none
abbrev pub named : List ℕ → List ℕ
named name = if is_name name then name else []

-- segment, sequence, field, repetition, component, subcomponent (ERR-2, data type ERL)
abbrev pub location_of : Breach → List (List ℕ)
location_of b = named b.segment ∷ said b.sequence ∷ said b.field ∷ said b.rep ∷ said b.comp ∷ said b.sub ∷ []

-- a component of the message header
abbrev pub header_place : List ℕ → List ℕ → List (List ℕ)
header_place field comp = codes "MSH" ∷ codes "1" ∷ field ∷ codes "1" ∷ comp ∷ []

-- the codes with which a message is rejected: message type, event, processing id, version, and what can't be read
abbrev pub IsRejection : ℕ → Type 0
IsRejection code = (code ≡ 200) ⊎ (code ≡ 201) ⊎ (code ≡ 202) ⊎ (code ≡ 203) ⊎ (code ≡ 207)

-- where each of them is found: MSH-9.1, MSH-9.2, MSH-11.1, MSH-12.1, and nowhere
abbrev pub location_for : ℕ → List (List ℕ)
location_for code =
    if code == 200 then header_place (codes "9") (codes "1") else if code == 201 then header_place (codes "9") (codes "2")
    else if code == 202 then header_place (codes "11") (codes "1") else if code == 203 then header_place (codes "12") (codes "1") else []

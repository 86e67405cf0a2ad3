-- The one text that a message is written as (HL7 v2.5.1 chapter 2, 2.6 "Message construction rules"): one CR ends each segment, each value is spelled by its canonical text, and no separator stands where it could be left out.
use Rattle.std.specs.Prelude.{◌≡◌, ℕ, ◌+◌, ◌-◌, ◌<◌, ◌≤◌, ◌==◌, if◌then◌else◌, List, [], ◌∷◌, ◌++◌, drop}
use Rattle.std.specs.List.{flat_map}
use Rattle.gw_er7.specs.declared.place.Place.{Place}
use Rattle.gw_er7.specs.declared.fault.ReadFault.{ReadFault}
use Rattle.gw_er7.specs.Text.{standard}
use Rattle.gw_er7.specs.Content.{Line, lines, delimiters_of, header_line}
use Rattle.gw_er7.specs.Faults.{Applies}
use Rattle.gw_er7.specs.Numbers.{number}
use Rattle.gw_er7.specs.Message.{SegmentValue, text_at, IsPlace}
use Rattle.gw_er7.specs.Reading.{raw_at, ReadsLines}

-- ---- separators that could be left out

-- the level of a separator: & ^ ~ | and CR; 0 for any other byte
abbrev pub rank : ℕ → ℕ
rank b = if b == 38 then 1 else if b == 94 then 2 else if b == 126 then 3 else if b == 124 then 4 else if b == 13 then 5 else 0

-- a separator right before one of a higher level
abbrev pub IsIdle : ℕ → ℕ → Type 0
IsIdle a b = (0 < rank a) × (rank a < rank b)

abbrev pub IsIdleBefore : ℕ → List ℕ → Type 0
IsIdleBefore a [] = ⊥
IsIdleBefore a (b ∷ bs) = IsIdle a b

-- no separator stands right before one of a higher level
abbrev pub HasNoIdle : List ℕ → Type 0
HasNoIdle [] = Unit {0}
HasNoIdle (a ∷ bs) = ¬ (IsIdleBefore a bs) × HasNoIdle bs

-- ---- the lines

-- each raw value of the fields, the first of which has the number `first`, is the text at its place
abbrev pub Spells : ℕ → List ℕ → SegmentValue → Type 0
Spells first bytes s = (p : Place) → IsPlace p → first ≤ p.field → raw_at standard bytes (p.field + 1 - first) p ≡ text_at s p

-- MSH and its delimiters are left aside
pub record WritesHeader (line : List ℕ) (s : SegmentValue) : Type 0 where
  pub spells : Spells 3 (drop 9 line) s
  pub tight : HasNoIdle (drop 8 line ++ 13 ∷ [])

pub record WritesOther (line : List ℕ) (s : SegmentValue) : Type 0 where
  pub spells : Spells 1 (drop 4 line) s
  pub tight : HasNoIdle (line ++ 13 ∷ [])

abbrev pub WritesOthers : List Line → List SegmentValue → Type 0
WritesOthers [] ss = Unit {0}
WritesOthers (l ∷ ls) [] = ⊥
WritesOthers (l ∷ ls) (s ∷ ss) = WritesOther l.bytes s × WritesOthers ls ss

abbrev pub WritesLines : List Line → List SegmentValue → Type 0
WritesLines [] ss = ⊥
WritesLines (l ∷ ls) [] = ⊥
WritesLines (l ∷ ls) (s ∷ ss) = WritesHeader l.bytes s × WritesOthers ls ss

-- ---- the content

-- bytes over |^~\& that reads as the message, the limit of segments set aside, and meets the rules of writing
pub record IsWriting (content : List ℕ) (message : List SegmentValue) : Type 0 where
  pub ended : content ≡ flat_map (λ l. l.bytes ++ 13 ∷ []) (lines content)
  pub faultless : (fault : ReadFault) → number fault < 7 → ¬ (Applies content fault)
  pub delimiters : delimiters_of (header_line (lines content)) ≡ standard
  pub reads : ReadsLines standard (lines content) message
  pub writes : WritesLines (lines content) message

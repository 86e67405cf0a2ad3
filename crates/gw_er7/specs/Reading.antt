-- How bytes read as a message: fields, repetitions, components and subcomponents are the parts between separators (HL7 v2.5.1 chapter 2, 2.5.4 "Message delimiters").
use Rattle.std.specs.Prelude.{◌≡◌, ℕ, ◌+◌, ◌-◌, ◌==◌, nat_lt, if◌then◌else◌, List, [], ◌∷◌, take, drop, slice_index_or}
use Rattle.std.specs.List.{slice_split}
use Rattle.gw_er7.specs.declared.delimiters.Delimiters.{Delimiters}
use Rattle.gw_er7.specs.declared.place.Place.{Place}
use Rattle.gw_er7.specs.Text.{canon}
use Rattle.gw_er7.specs.Content.{Line, lines, delimiters_of, header_line}
use Rattle.gw_er7.specs.Faults.{IsReadable}
use Rattle.gw_er7.specs.Message.{SegmentValue, text_at, IsPlace}

-- the n-th part, counted from 1, of the bytes cut at the separator; empty past the last
abbrev pub part : ℕ → ℕ → List ℕ → List ℕ
part separator n bytes = slice_index_or (slice_split (λ b. b == separator) bytes) (n - 1) []

-- the raw value at a place behind the n-th field of the bytes
abbrev pub raw_at : Delimiters → List ℕ → ℕ → Place → List ℕ
raw_at d bytes n p = part d.subcomponent p.sub (part d.component p.comp (part d.repetition p.rep (part d.field n bytes)))

-- these are the texts of the fields that the bytes hold, the first of which has the number `first`
abbrev pub ReadsFields : Delimiters → ℕ → List ℕ → SegmentValue → Type 0
ReadsFields d first bytes s = (p : Place) → IsPlace p → text_at s p ≡ (if nat_lt p.field first then [] else canon d (raw_at d bytes (p.field + 1 - first) p))

-- MSH, the field separator, MSH-2, the field separator, and the fields from the third on
pub record ReadsHeader (d : Delimiters) (line : List ℕ) (s : SegmentValue) : Type 0 where
  pub name : s.name ≡ take 3 line
  pub fields : ReadsFields d 3 (drop 9 line) s

-- a name, the field separator, and the fields
pub record ReadsOther (d : Delimiters) (line : List ℕ) (s : SegmentValue) : Type 0 where
  pub name : s.name ≡ take 3 line
  pub fields : ReadsFields d 1 (drop 4 line) s

-- one segment for each line
abbrev pub ReadsOthers : Delimiters → List Line → List SegmentValue → Type 0
ReadsOthers d [] ss = ss ≡ []
ReadsOthers d (l ∷ ls) [] = ⊥
ReadsOthers d (l ∷ ls) (s ∷ ss) = ReadsOther d l.bytes s × ReadsOthers d ls ss

abbrev pub ReadsLines : Delimiters → List Line → List SegmentValue → Type 0
ReadsLines d [] ss = ⊥
ReadsLines d (l ∷ ls) [] = ⊥
ReadsLines d (l ∷ ls) (s ∷ ss) = ReadsHeader d l.bytes s × ReadsOthers d ls ss

-- bytes without a fault read as the segments of their lines
pub record Reads (content : List ℕ) (message : List SegmentValue) : Type 0 where
  pub readable : IsReadable content
  pub segments : ReadsLines (delimiters_of (header_line (lines content))) (lines content) message

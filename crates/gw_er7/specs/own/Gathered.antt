-- The segments that are gathered from lines.
use Rattle.std.specs.Prelude.{◌≡◌, ℕ, true, not, List, [], ◌∷◌, ◌++◌, length, take, drop, None, position}
use Rattle.std.specs.List.{AllByRecursion}
use Rattle.std.specs.FinMap as texts
use Rattle.gw_er7.specs.declared.delimiters.Delimiters.{Delimiters}
use Rattle.gw_er7.specs.declared.fields.SegmentTexts.{SegmentTexts}
use Rattle.gw_er7.specs.declared.lines.Checked.{Checked}
use Rattle.gw_er7.specs.declared.reader.MessageParts.{MessageParts}
use Rattle.gw_er7.specs.declared.start.SegmentHead.{SegmentHead}
use Rattle.gw_er7.specs.Content.{Line, Begins, is_allowed, is_delimited, delimiters_of, first_bad}
use Rattle.gw_er7.specs.Names.{is_header}
use Rattle.gw_er7.specs.Message.{SegmentValue}
use Rattle.gw_er7.specs.Reading.{Reads}
use Rattle.gw_er7.specs.Entries.{fields}
use Rattle.gw_er7.specs.View.{held, lying, AreInside, AreLying, IsLying}
use Rattle.gw_er7.specs.own.Separators.{Lies, bytes_of, held_in}

-- the segment of a line whose fields begin behind this many bytes
abbrev pub segment_of : Delimiters → ℕ → ℕ → List ℕ → SegmentValue
segment_of d first skip line = record { name = take 3 line; at = texts.from_sorted (fields d first (drop skip line)) }

abbrev pub others_of : Delimiters → List Line → List SegmentValue
others_of d [] = []
others_of d (l ∷ ls) = segment_of d 1 4 l.bytes ∷ others_of d ls

-- the lines stand at their places among these bytes
abbrev pub LinesLie : List ℕ → List Line → Type 0
LinesLie content ls = AllByRecursion (λ l. Lies content l.at l.bytes) ls

-- no byte is one that no message may hold, and the first line has the delimiters behind MSH
pub record HasHeader (content : List ℕ) (k : Checked) : Type 0 where
  pub begins : Begins 0 content (record { at = k.header.at; bytes = k.header.bytes.now }) k.header.behind.now
  pub clean : position (λ b. not (is_allowed b)) content ≡ None
  pub headed : is_header k.header.bytes.now ≡ true
  pub delimited : is_delimited k.header.bytes.now ≡ true
  pub delimiters : k.delimiters ≡ delimiters_of k.header.bytes.now

-- so many lines, each of a segment
pub record AreSegments (field : ℕ) (ls : List Line) (count : ℕ) : Type 0 where
  pub good : first_bad field ls ≡ None
  pub long : length ls ≡ count

-- the segments that were taken in so far
pub record IsTaken (starts : List SegmentHead) (taken : SegmentTexts) : Type 0 where
  pub inside : AreInside (bytes_of taken) taken.spans
  pub each : AreLying starts (held_in taken)

-- these were taken in as well
pub record Takes (starts : List SegmentHead) (old : SegmentTexts) (after : List SegmentHead) (new : SegmentTexts) (more : List SegmentValue) : Type 0 where
  pub taken : IsTaken after new
  pub content : new.content.now ≡ old.content.now
  pub segments : lying after (held_in new) ≡ lying starts (held_in old) ++ more

-- the message that these bytes read as
pub record IsWhole (content : List ℕ) (m : MessageParts) : Type 0 where
  pub inside : AreInside (content ++ m.others.items) m.spans
  pub lies : IsLying m.starts.items (held (content ++ m.others.items) m.spans)
  pub reads : Reads content (lying m.starts.items (held (content ++ m.others.items) m.spans))

-- Parts of the program, without where they lie in memory.
use Rattle.std.specs.Prelude.{ℕ, List, [], ◌∷◌, take, drop}
use Rattle.gw_er7.specs.Entries.{Entry, level}
use Rattle.gw_er7.specs.View.{placed}
use Rattle.gw_er7.specs.declared.view.Value.{Value}
use Rattle.gw_ack.specs.declared.header.HeaderSpans.{HeaderSpans}
use Rattle.gw_ack.specs.declared.header.Span.{Span}
use Rattle.gw_ack.specs.Headers.{HeaderValue}

-- the text of a span
abbrev pub text_in : List ℕ → Span → List ℕ
text_in bytes span = take span.len (drop span.from bytes)

-- a text with no separator, absent where it is empty
abbrev pub leaf_in : List ℕ → List Entry
leaf_in [] = []
leaf_in (b ∷ text) = ([], b ∷ text) ∷ []

-- the texts of a repetition that is written: ^ between components, & between subcomponents
abbrev pub repetition_in : List ℕ → List Entry
repetition_in bytes = level (level leaf_in 38) 94 bytes

-- the header whose texts lie among the bytes, each as it is written
abbrev pub seen_header : List ℕ → HeaderSpans → HeaderValue
seen_header bytes spans = record {
  sending_application = repetition_in (text_in bytes spans.sending_application);
  sending_facility = repetition_in (text_in bytes spans.sending_facility);
  receiving_application = repetition_in (text_in bytes spans.receiving_application);
  receiving_facility = repetition_in (text_in bytes spans.receiving_facility);
  event = text_in bytes spans.event;
  control = text_in bytes spans.control;
  processing = repetition_in (text_in bytes spans.processing);
}

-- the rows of a table
abbrev pub rows : List Value → List Entry
rows = placed

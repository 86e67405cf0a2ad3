-- What a header keeps of a segment's texts.
use Rattle.std.specs.Prelude.{◌≡◌, ℕ, ◌≤◌, List, [], ◌∷◌, ◌++◌, drop}
use Rattle.gw_er7.specs.Entries.{Entry}
use Rattle.gw_er7.specs.Written.{repetition_text, those}
use Rattle.gw_er7.specs.own.Gaps.{gaps}
use Rattle.gw_ack.specs.declared.header.HeaderSpans.{HeaderSpans}
use Rattle.gw_ack.specs.declared.header.Span.{Span}
use Rattle.gw_ack.specs.Headers.{IsHeaderValue}
use Rattle.gw_ack.specs.Seen.{repetition_in, seen_header, text_in}

-- ^ and &
abbrev pub marks : List ℕ
marks = 94 ∷ 38 ∷ []

-- what is written of a repetition's texts behind the one with this key
abbrev pub written_behind : List ℕ → List Entry → List ℕ
written_behind key [] = []
written_behind key (e ∷ es) = gaps marks key e.0 ++ (e.1 ++ written_behind e.0 es)

-- the text of the span, whatever comes behind the bytes
abbrev pub Lies : List ℕ → Span → List ℕ → Type 0
Lies bytes span text = (more : List ℕ) → text_in (bytes ++ more) span ≡ text

-- of the texts from one number on, none is left of the fields from this one on
abbrev pub IsReached : ℕ → List Entry → ℕ → Type 0
IsReached field es next = (k : ℕ) → field ≤ k → those k (drop next es) ≡ those k es

-- the text is what is written of the repetition that is read from it
abbrev pub IsWritten : List ℕ → Type 0
IsWritten text = repetition_text (repetition_in text) ≡ text

pub record IsKept (bytes : List ℕ) (spans : HeaderSpans) : Type 0 where
  pub value : IsHeaderValue (seen_header bytes spans)
  pub sending_application : IsWritten (text_in bytes spans.sending_application)
  pub sending_facility : IsWritten (text_in bytes spans.sending_facility)
  pub receiving_application : IsWritten (text_in bytes spans.receiving_application)
  pub receiving_facility : IsWritten (text_in bytes spans.receiving_facility)
  pub processing : IsWritten (text_in bytes spans.processing)

-- Which fault message bytes have: the first of six kinds, in their order.
use Rattle.std.specs.Prelude.{◌≡◌, ℕ, ◌<◌, false, not, List, [], length, drop, Some, position}
use Rattle.gw_er7.specs.declared.delimiters.Delimiters.{Delimiters}
use Rattle.gw_er7.specs.declared.fault.ReadFault.{ReadFault}
use Rattle.gw_er7.specs.declared.lines.Checked.{Checked}
use Rattle.gw_er7.specs.declared.fault.ReadFault.TheVariants.{Memory, Empty, Control, NoHeader, BadDelimiters, BadSegment, TooManySegments}
use Rattle.gw_er7.specs.Names.{is_header}
use Rattle.gw_er7.specs.Numbers.{number}
use Rattle.gw_er7.specs.Content.{Line, Begins, lines, header_line, is_allowed, is_delimited, delimiters_of, first_bad}

-- what a fault says of the bytes, whatever else is wrong with them
abbrev pub Applies : List ℕ → ReadFault → Type 0
Applies content Memory = ⊥
Applies content Empty = lines content ≡ []
Applies content (Control at) = position (λ b. not (is_allowed b)) content ≡ Some at
Applies content NoHeader = is_header (header_line (lines content)) ≡ false
Applies content BadDelimiters = is_delimited (header_line (lines content)) ≡ false
Applies content (BadSegment at) = first_bad (delimiters_of (header_line (lines content))).field (drop 1 (lines content)) ≡ Some at
Applies content TooManySegments = 10000 < length (lines content)

-- the first of the faults that apply
pub record Faulty (content : List ℕ) (fault : ReadFault) : Type 0 where
  pub applies : Applies content fault
  pub first : (other : ReadFault) → number other < number fault → ¬ (Applies content other)

-- no fault applies
abbrev pub IsReadable : List ℕ → Type 0
IsReadable content = (fault : ReadFault) → ¬ (Applies content fault)

-- what the tests of the bytes find: no fault, the first line and the bytes behind it
pub record IsChecked (content : List ℕ) (d : Delimiters) (header : Line) (behind : List ℕ) : Type 0 where
  pub readable : IsReadable content
  pub begins : Begins 0 content header behind
  pub delimiters : d ≡ delimiters_of header.bytes

-- the bytes pass them, with this result
abbrev pub Passes : List ℕ → Checked → Type 0
Passes content k = IsChecked content k.delimiters (record { at = k.header.at; bytes = k.header.bytes.now }) k.header.behind.now

-- A form of text as it is declared.
use Rattle.std.specs.Prelude.{◌≡◌, ℕ, Bool, List, [], ◌∷◌, Option, Some, None, Result, Ok, Err}
use Rattle.gw_lines.specs.Words.{Word}
use Rattle.gw_lines.specs.Reading.{first_of, unless}

-- The line that words are, by its number; the tests of a line below the lines above it, the nearest first, in the order of the faults; and the fault of words that are no line.
pub record Grammar (L E : Type 0) : Type 0 where
  pub form : ℕ → List Word → Option L
  pub tests : List L → ℕ → L → List (Bool × E)
  pub syntax : ℕ → E

module _ {L E : Type 0} (g : Grammar L E) where
  abbrev pub tested : List L → ℕ → Option L → Result L E
  tested above at None = Err (g.syntax at)
  tested above at (Some line) = unless (first_of (g.tests above at line)) line

  -- the line that the words are below these lines, or its fault
  abbrev pub takes : List L → ℕ → List Word → Result L E
  takes above at words = tested above at (g.form at words)

  -- ---- lines that were taken, the last first

  -- the line is that of some words below these lines
  pub record Taken (above : List L) (line : L) : Type 0 where
    pub at : ℕ
    pub words : List Word
    pub taken : takes above at words ≡ Ok line

  abbrev pub AllTaken : List L → Type 0
  AllTaken [] = Unit {0}
  AllTaken (line ∷ above) = Taken above line × AllTaken above

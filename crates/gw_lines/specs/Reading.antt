-- What a text form makes of a text: a value, or its one fault.
use Rattle.std.specs.Prelude.{◌≡◌, ℕ, ◌+◌, Bool, true, false, ◌||◌, nat_lt, if◌then◌else◌, List, [], ◌∷◌, length, Option, Some, None, Result, Ok, Err}
use Rattle.gw_lines.specs.Words.{Word, words, lines}

-- ---- faults in order

-- the first of these faults that applies
abbrev pub first_of : {E : Type 0} → List (Bool × E) → Option E
first_of [] = None
first_of (f ∷ faults) = if f.0 then Some f.1 else first_of faults

-- a value, or the fault where there is one
abbrev pub unless : {E A : Type 0} → Option E → A → Result A E
unless None x = Ok x
unless (Some e) x = Err e

infixl 10 ◌>>=◌
abbrev pub ◌>>=◌ : {A B E : Type 0} → Result A E → (A → Result B E) → Result B E
(Ok x) >>= f = f x
(Err e) >>= f = Err e

-- ---- lines

-- What a line does: from the state before it, its number and its words to the state after it, or the line's fault.
abbrev pub Step : Type 0 → Type 0 → Type 0
Step S E = S → ℕ → List Word → Result S E

-- one line: it is broken, or passed over, or taken
abbrev pub with_line : {S E : Type 0} → E → Step S E → S → ℕ → Option (List Word) → Result S E
with_line broken step above number None = Err broken
with_line broken step above number (Some []) = Ok above
with_line broken step above number (Some (word ∷ more)) = step above number (word ∷ more)

-- the lines in turn, the first of this number, or the fault of the first line that has one
abbrev pub with_lines : {S E : Type 0} → (ℕ → E) → Step S E → S → ℕ → List (List ℕ) → Result S E
with_lines broken step above number [] = Ok above
with_lines broken step above number (line ∷ more) =
    with_line (broken number) step above number (words line) >>= λ next. with_lines broken step next (number + 1) more

-- A form takes the words of a line with the lines above it, the nearest first, and its number: it gives the line, or its fault.
abbrev pub Takes : Type 0 → Type 0 → Type 0
Takes L E = List L → ℕ → List Word → Result L E

-- the lines with one more below them
abbrev pub added : {L E : Type 0} → List L → Result L E → Result (List L) E
added above (Ok line) = Ok (line ∷ above)
added above (Err e) = Err e

abbrev pub adding : {L E : Type 0} → Takes L E → Step (List L) E
adding takes above number words = added above (takes above number words)

-- the lines that are accepted, the last first, or the fault of the first line that has one
abbrev pub accepted : {L E : Type 0} → (ℕ → E) → Takes L E → List L → ℕ → List (List ℕ) → Result (List L) E
accepted broken takes above number lines = with_lines broken (adding takes) above number lines

-- ---- texts

-- whether a text has more bytes or lines than these
abbrev pub is_too_large : ℕ → ℕ → List ℕ → Bool
is_too_large most_bytes most_lines text = nat_lt most_bytes (length text) || nat_lt most_lines (length (lines text))

-- What lines spell that come after others, the first of this number: the fault of the first line that has one, or what the whole makes of them.
-- The whole gets the number of the line after the last.
abbrev pub spelled_below : {S X E : Type 0} → (ℕ → E) → Step S E → (S → ℕ → Result X E) → S → ℕ → List (List ℕ) → Result X E
spelled_below broken step whole above number all =
    with_lines broken step above number all >>= λ last. whole last (number + length all)

-- What a text spells: TooLarge comes first, then the fault of the first line that has one, then those of the whole.
abbrev pub spelled_by : {S X E : Type 0} → ℕ → ℕ → E → (ℕ → E) → Step S E → (S → ℕ → Result X E) → S → List ℕ → Result X E
spelled_by most_bytes most_lines too_large broken step whole start text =
    if is_too_large most_bytes most_lines text then Err too_large else spelled_below broken step whole start 1 (lines text)

-- ---- answers of calls

-- What a call returned, seen by view, is what reading gives, unless memory ran out.
abbrev pub Gives : {X Y E : Type 0} → E → (X → Y) → Result X E → Result Y E → Type 0
Gives memory view (Ok x) read = read ≡ Ok (view x)
Gives memory view (Err e) read = (e ≡ memory → ⊥) → read ≡ Err e

-- What a call answers for lines: the fault of the first line that has one, or what gives says of the whole.
abbrev pub Answers : {S X E : Type 0} → (S → ℕ → Result X E → Type 0) → ℕ → Result S E → Result X E → Type 0
Answers gives at (Ok last) result = gives last at result
Answers gives at (Err e) result = result ≡ Err e

-- the same for these lines from the first on, from the state at the start
abbrev pub AnswersLines : {S X E : Type 0} → (ℕ → E) → Step S E → (S → ℕ → Result X E → Type 0) → S → List (List ℕ) → Result X E → Type 0
AnswersLines broken step gives start all result = Answers gives (1 + length all) (with_lines broken step start 1 all) result

-- the same for a text, by whether it is too large
abbrev pub AnswersText : {S X E : Type 0} → E → (S → ℕ → Result X E → Type 0) → Bool → ℕ → Result S E → Result X E → Type 0
AnswersText too_large gives true at lines result = result ≡ Err too_large
AnswersText too_large gives false at lines result = Answers gives at lines result

-- unless memory ran out
abbrev pub Unless : {X E : Type 0} → E → Result X E → Type 0 → Type 0
Unless memory result Fact = (result ≡ Err memory → ⊥) → Fact

-- Parts of a line, word by word: each gives what it spells with the words behind it.
use Rattle.std.specs.Prelude.{ℕ, if◌then◌else◌, List, [], ◌∷◌, Option, Some, None}
use Rattle.gw_lines.specs.Words.{Word}
use Rattle.gw_lines.specs.Spelled.{name, segment_word, is_keyword, number_word, range_word}
use Rattle.gw_lines.specs.Values.{value_bytes}

infixl 10 ◌>>=◌
abbrev pub ◌>>=◌ : {A B : Type 0} → Option A → (A → Option B) → Option B
None >>= f = None
(Some x) >>= f = f x

abbrev pub first_word : List Word → Option (Word × List Word)
first_word [] = None
first_word (w ∷ more) = Some (w, more)

-- NAME or LABEL
abbrev pub name_at : List Word → Option (List ℕ × List Word)
name_at words = do
  w ← first_word words
  text ← name w.0
  Some (text, w.1)

-- SEG
abbrev pub segment_at : List Word → Option (List ℕ × List Word)
segment_at words = do
  w ← first_word words
  text ← segment_word w.0
  Some (text, w.1)

-- N, from 1 to the greatest
abbrev pub number_at : ℕ → List Word → Option (ℕ × List Word)
number_at high words = do
  w ← first_word words
  number ← number_word 1 high w.0
  Some (number, w.1)

-- CARD
abbrev pub range_at : List Word → Option ((ℕ × Option ℕ) × List Word)
range_at words = do
  w ← first_word words
  range ← range_word w.0
  Some (range, w.1)

-- VALUE
abbrev pub value_at : List Word → Option (List ℕ × List Word)
value_at words = do
  w ← first_word words
  value ← value_bytes w.0
  Some (value, w.1)

-- the words behind this keyword, where it is the first word
abbrev pub behind : List ℕ → List Word → Option (List Word)
behind keyword [] = None
behind keyword (w ∷ more) = if is_keyword keyword w then Some more else None

-- the values that these words are
abbrev pub values : List Word → Option (List (List ℕ))
values [] = Some []
values (w ∷ more) = do
  value ← value_bytes w
  behind ← values more
  Some (value ∷ behind)

-- VALUE ...
abbrev pub some_values : List Word → Option (List (List ℕ))
some_values [] = None
some_values (w ∷ more) = values (w ∷ more)

-- what a line's last words say, where no word is left
abbrev pub with_all : {A : Type 0} → List Word → A → Option A
with_all [] x = Some x
with_all (w ∷ more) x = None

-- The lines of a profile, and the words of each.
use Rattle.std.specs.Prelude.{ℕ, Bool, true, false, not, ◌&&◌, ◌||◌, ◌==◌, nat_le, if◌then◌else◌, List, [], ◌∷◌, Option, Some, None, codes, bytes_eq}
use Rattle.std.specs.Option.{option_and_then, option_map}
use Rattle.gw_lines.specs.Words.{Word}
use Rattle.gw_lines.specs.Spelled.{plain_bytes, is_keyword, range_word}
use Rattle.gw_lines.specs.Parts.{first_word, name_at, segment_at, number_at, behind, some_values, with_all, ◌>>=◌}
use Rattle.gw_profile.specs.declared.shape.Usage.{Usage}
use Rattle.gw_profile.specs.declared.shape.Usage.TheVariants.{R, RE, O, X}
use Rattle.gw_profile.specs.declared.shape.Card.{Card}

-- what a line says of a leaf: its length and its table
pub record Leaf : Type 0 where
  pub len : Option ℕ
  pub table : Option (List ℕ)

-- A line. No usage stands for C and CE. A segment is renamed where it has a label of its own. A field or component with a leaf is one whose first leaf is so.
pub data Line : Type 0 where
  Begins : (name : List ℕ) → Line
  Table : (name : List ℕ) (values : List (List ℕ)) → Line
  Segment : (name label : List ℕ) (renamed : Bool) (usage : Option Usage) (card : Card) → Line
  Field : (number : ℕ) (usage : Option Usage) (card : Card) (leaf : Option Leaf) → Line
  Comp : (number : ℕ) (usage : Option Usage) (leaf : Option Leaf) → Line
  Sub : (number : ℕ) (usage : Option Usage) (leaf : Option Leaf) → Line
  Group : (at : ℕ) (label : List ℕ) (usage : Option Usage) (card : Card) → Line
  End : Line
  -- its lengths count characters
  Counts : Line

abbrev pub usage_of : List ℕ → Option (Option Usage)
usage_of bytes =
    if bytes_eq bytes (codes "R") then Some (Some R)
    else if bytes_eq bytes (codes "RE") then Some (Some RE)
    else if bytes_eq bytes (codes "O") then Some (Some O)
    else if bytes_eq bytes (codes "X") then Some (Some X)
    else if bytes_eq bytes (codes "C") || bytes_eq bytes (codes "CE") then Some None
    else None

abbrev pub usage_word : Word → Option (Option Usage)
usage_word word = option_and_then usage_of (plain_bytes word)

abbrev pub card_word : Word → Option Card
card_word word = option_map (λ r. record { min = r.0; max = r.1 }) (range_word word)

-- the greatest number, or none, allows this many
abbrev pub allows : Option ℕ → ℕ → Bool
allows None count = true
allows (Some max) count = nat_le count max

-- usage and cardinality agree: R is there at least once, RE and O may be left out, X never comes
abbrev pub agrees : Option Usage → Card → Bool
agrees None card = false
agrees (Some R) card = nat_le 1 card.min && allows card.max card.min
agrees (Some RE) card = card.min == 0 && allows card.max 1
agrees (Some O) card = card.min == 0 && allows card.max 1
agrees (Some X) card = card.min == 0 && not (allows card.max 1)

abbrev pub is_forbidden : Option Usage → Bool
is_forbidden None = false
is_forbidden (Some R) = false
is_forbidden (Some RE) = false
is_forbidden (Some O) = false
is_forbidden (Some X) = true

-- ---- parts of a line, each with the words behind it

abbrev pub usage_at : List Word → Option (Option Usage × List Word)
usage_at words = do
  w ← first_word words
  usage ← usage_word w.0
  Some (usage, w.1)

abbrev pub card_at : List Word → Option (Card × List Word)
card_at words = do
  w ← first_word words
  card ← card_word w.0
  Some (card, w.1)

-- [as LABEL]
abbrev pub label_behind : Option (List Word) → List ℕ → List Word → Option ((List ℕ × Bool) × List Word)
label_behind None other words = Some ((other, false), words)
label_behind (Some more) other words = do
  label ← name_at more
  Some ((label.0, true), label.1)

abbrev pub label_at : List ℕ → List Word → Option ((List ℕ × Bool) × List Word)
label_at other words = label_behind (behind (codes "as") words) other words

-- [leaf]
abbrev pub leaf_behind : Option (List Word) → List Word → Bool × List Word
leaf_behind None words = (false, words)
leaf_behind (Some more) words = (true, more)

abbrev pub leaf_at : List Word → Bool × List Word
leaf_at words = leaf_behind (behind (codes "leaf") words) words

-- [len N]
abbrev pub len_behind : Option (List Word) → List Word → Option (Option ℕ × List Word)
len_behind None words = Some (None, words)
len_behind (Some more) words = do
  number ← number_at 999999 more
  Some (Some number.0, number.1)

abbrev pub len_at : List Word → Option (Option ℕ × List Word)
len_at words = len_behind (behind (codes "len") words) words

-- [table NAME]
abbrev pub table_behind : Option (List Word) → List Word → Option (Option (List ℕ) × List Word)
table_behind None words = Some (None, words)
table_behind (Some more) words = do
  name ← name_at more
  Some (Some name.0, name.1)

abbrev pub table_at : List Word → Option (Option (List ℕ) × List Word)
table_at words = table_behind (behind (codes "table") words) words

-- a leaf, where something was said of it
abbrev pub is_said : Bool → Option ℕ → Option (List ℕ) → Bool
is_said said (Some len) table = true
is_said said None (Some table) = true
is_said said None None = said

abbrev pub said_leaf : Bool → Option ℕ → Option (List ℕ) → Option Leaf
said_leaf said len table = if is_said said len table then Some (record { len = len; table = table }) else None

-- an X line has no leaf
abbrev pub lawful_leaf : Option Usage → Option Leaf → Option (Option Leaf)
lawful_leaf usage None = Some None
lawful_leaf usage (Some leaf) = if is_forbidden usage then None else Some (Some leaf)

-- [len N] [table NAME], the last words of a line; said where the word `leaf` stood before them
abbrev pub options : Option Usage → Bool → List Word → Option (Option Leaf)
options usage said words = do
  len ← len_at words
  table ← table_at len.1
  leaf ← with_all table.1 (said_leaf said len.0 table.0)
  lawful_leaf usage leaf

-- [leaf] [len N] [table NAME]
abbrev pub leaf_options : Option Usage → List Word → Option (Option Leaf)
leaf_options usage words = let start = leaf_at words in options usage start.0 start.1

-- ---- lines

-- profile NAME
abbrev pub profile_form : List Word → Option Line
profile_form words = do
  name ← name_at words
  with_all name.1 (Begins name.0)

-- table NAME VALUE ...
abbrev pub table_form : List Word → Option Line
table_form words = do
  name ← name_at words
  all ← some_values name.1
  Some (Table name.0 all)

-- segment SEG [as LABEL] USAGE CARD
abbrev pub segment_form : List Word → Option Line
segment_form words = do
  name ← segment_at words
  label ← label_at name.0 name.1
  usage ← usage_at label.1
  card ← card_at usage.1
  with_all card.1 (Segment name.0 label.0.0 label.0.1 usage.0 card.0)

-- field N USAGE CARD [leaf] [len N] [table NAME]
abbrev pub field_form : List Word → Option Line
field_form words = do
  number ← number_at 999 words
  usage ← usage_at number.1
  card ← card_at usage.1
  leaf ← leaf_options usage.0 card.1
  Some (Field number.0 usage.0 card.0 leaf)

-- comp N USAGE [leaf] [len N] [table NAME]
abbrev pub comp_form : List Word → Option Line
comp_form words = do
  number ← number_at 99 words
  usage ← usage_at number.1
  leaf ← leaf_options usage.0 usage.1
  Some (Comp number.0 usage.0 leaf)

-- sub N USAGE [len N] [table NAME]
abbrev pub sub_form : List Word → Option Line
sub_form words = do
  number ← number_at 99 words
  usage ← usage_at number.1
  leaf ← options usage.0 false usage.1
  Some (Sub number.0 usage.0 leaf)

-- group LABEL USAGE CARD
abbrev pub group_form : ℕ → List Word → Option Line
group_form at words = do
  label ← name_at words
  usage ← usage_at label.1
  card ← card_at usage.1
  with_all card.1 (Group at label.0 usage.0 card.0)

-- count characters
abbrev pub count_form : List Word → Option Line
count_form words = do
  w ← first_word words
  if is_keyword (codes "characters") w.0 then with_all w.1 Counts else None

-- the line of a keyword and the words behind it
abbrev pub keyword_form : ℕ → Word → List Word → Option Line
keyword_form at keyword more =
    if is_keyword (codes "profile") keyword then profile_form more
    else if is_keyword (codes "table") keyword then table_form more
    else if is_keyword (codes "segment") keyword then segment_form more
    else if is_keyword (codes "field") keyword then field_form more
    else if is_keyword (codes "comp") keyword then comp_form more
    else if is_keyword (codes "sub") keyword then sub_form more
    else if is_keyword (codes "group") keyword then group_form at more
    else if is_keyword (codes "end") keyword then with_all more End
    else if is_keyword (codes "count") keyword then count_form more
    else None

-- the line that these words are
abbrev pub form : ℕ → List Word → Option Line
form at [] = None
form at (keyword ∷ more) = keyword_form at keyword more

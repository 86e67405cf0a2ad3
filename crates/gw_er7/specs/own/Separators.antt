-- The values between the separators of a segment's fields, one after the other. The reader's own words.
use Rattle.std.specs.Prelude.{◌≡◌, ℕ, ◌+◌, ◌==◌, ◌||◌, Bool, false, true, if◌then◌else◌, List, [], ◌∷◌, ◌++◌, length, map, take, Option, MatchOption}
use Rattle.std.specs.List.{All}
use denote.Ref.{Bor}
use Rattle.gw_er7.specs.declared.delimiters.Delimiters.{Delimiters}
use Rattle.gw_er7.specs.Text.{canon, is_special}
use Rattle.gw_er7.specs.Entries.{Entry}
use Rattle.gw_er7.specs.View.{Held, entries_of, held}
use Rattle.gw_er7.specs.own.Scanned.{FailsTo}
use Rattle.gw_er7.specs.declared.fields.SegmentTexts.{SegmentTexts}

-- those that cut fields, repetitions, components and subcomponents
abbrev pub separators : Delimiters → List ℕ
separators d = d.field ∷ d.repetition ∷ d.component ∷ d.subcomponent ∷ []

abbrev pub is_separator : List ℕ → ℕ → Bool
is_separator [] b = false
is_separator (t ∷ ts) b = b == t || is_separator ts b

-- it ends a value, or doesn't stand for itself
abbrev pub is_mark : Delimiters → ℕ → Bool
is_mark d b = (is_special b || b == d.escape) || is_separator (separators d) b

-- none of the first bytes does that
abbrev pub IsPlainTo : Delimiters → List ℕ → ℕ → Type 0
IsPlainTo d bytes count = FailsTo (is_mark d) bytes count

-- the numbers behind a separator: its own is one more, and the lower ones begin again
abbrev pub next_numbers : List ℕ → List ℕ → ℕ → List ℕ
next_numbers [] ns b = ns
next_numbers (t ∷ ts) [] b = []
next_numbers (t ∷ ts) (n ∷ ns) b = if b == t then (n + 1) ∷ map (λ t. 1) ts else n ∷ next_numbers ts ns b

-- a raw value at a place: an empty one is absent
abbrev pub value_at : Delimiters → List ℕ → List ℕ → List Entry
value_at d ns [] = []
value_at d ns (b ∷ bs) = (ns, canon d (b ∷ bs)) ∷ []

-- the message bytes, and the texts behind them
abbrev pub bytes_of : SegmentTexts → List ℕ
bytes_of t = t.content.now ++ t.others.items

-- what was read so far
abbrev pub held_in : SegmentTexts → List Held
held_in t = held (bytes_of t) t.spans

abbrev pub taken_by : SegmentTexts → List Entry
taken_by t = entries_of (held_in t)

-- what was read before stands first
abbrev pub Keeps : SegmentTexts → SegmentTexts → Type 0
Keeps old new = take (length (held_in old)) (held_in new) ≡ held_in old

-- these bytes stand among others, behind this many
pub record Lies (bytes : List ℕ) (at : ℕ) (part : List ℕ) : Type 0 where
  pub before : List ℕ
  pub after : List ℕ
  pub is : bytes ≡ before ++ (part ++ after)
  pub long : length before ≡ at

-- it has no separator
abbrev pub IsClear : List ℕ → List ℕ → Type 0
IsClear ts bytes = All (λ b. is_separator ts b ≡ false) bytes

-- bytes in which no separator stands
pub record IsLastValue (ts bytes value : List ℕ) : Type 0 where
  pub whole : bytes ≡ value
  pub clear : IsClear ts value

-- bytes up to the first separator, the separator, and those behind it
pub record IsNextValue (ts bytes value : List ℕ) (separator : ℕ) (behind : List ℕ) : Type 0 where
  pub whole : bytes ≡ value ++ separator ∷ behind
  pub clear : IsClear ts value
  pub separates : is_separator ts separator ≡ true

-- the value that is cut off, and the separator and the bytes behind it, where one stands there
abbrev pub IsCut : List ℕ → List ℕ → List ℕ → Option (ℕ × Bor (List ℕ)) → Type 0
IsCut ts bytes value behind = MatchOption behind (IsLastValue ts bytes value) (λ b. IsNextValue ts bytes value b.0 b.1.now)

-- the value with which bytes begin was read, whatever its raw bytes
pub record TakesOne (d : Delimiters) (ns bytes : List ℕ) (old new : List Entry) (behind : Option (ℕ × Bor (List ℕ))) : Type 0 where
  pub raw : List ℕ
  pub cut : IsCut (separators d) bytes raw behind
  pub read : new ≡ old ++ value_at d ns raw

-- The texts of a segment's fields, as a list of entries.
use Rattle.std.specs.Prelude.{ℕ, ◌+◌, ◌==◌, List, [], ◌∷◌, ◌++◌, map}
use Rattle.std.specs.List.{slice_split}
use Rattle.gw_er7.specs.declared.delimiters.Delimiters.{Delimiters}
use Rattle.gw_er7.specs.Text.{canon}

-- a text behind numbers that are still to be said
abbrev pub Entry : Type 0
Entry = List ℕ × List ℕ

abbrev pub under : ℕ → Entry → Entry
under n e = (n ∷ e.0, e.1)

-- the entries of the parts, the first of which has the number n
abbrev pub numbered : (List ℕ → List Entry) → ℕ → List (List ℕ) → List Entry
numbered inner n [] = []
numbered inner n (p ∷ ps) = map (under n) (inner p) ++ numbered inner (n + 1) ps

-- the entries of bytes that are cut at a separator
abbrev pub level : (List ℕ → List Entry) → ℕ → List ℕ → List Entry
level inner separator bytes = numbered inner 1 (slice_split (λ b. b == separator) bytes)

-- a raw value: an empty one is absent
abbrev pub value : Delimiters → List ℕ → List Entry
value d [] = []
value d (b ∷ bs) = ([], canon d (b ∷ bs)) ∷ []

abbrev pub subcomponents : Delimiters → List ℕ → List Entry
subcomponents d bytes = level (value d) d.subcomponent bytes

abbrev pub components : Delimiters → List ℕ → List Entry
components d bytes = level (subcomponents d) d.component bytes

abbrev pub repetitions : Delimiters → List ℕ → List Entry
repetitions d bytes = level (components d) d.repetition bytes

abbrev pub fields : Delimiters → ℕ → List ℕ → List Entry
fields d first bytes = numbered (repetitions d) first (slice_split (λ b. b == d.field) bytes)

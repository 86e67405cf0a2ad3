-- Messages in the making: segment by segment, text by text.
use Rattle.std.specs.Prelude.{◌≡◌, ℕ, List, [], ◌∷◌, None}
use Rattle.std.specs.FinMap as texts
use Rattle.gw_er7.specs.Message.{SegmentValue, first_field, IsEntry, IsMessage}

-- a builder's segments: none yet, or those of a message
abbrev pub IsBegun : List SegmentValue → Type 0
IsBegun [] = Unit {0}
IsBegun (s ∷ ss) = IsMessage (s ∷ ss)

-- the segments with a change to the last one
abbrev pub with_last : (SegmentValue → SegmentValue) → List SegmentValue → List SegmentValue
with_last change [] = []
with_last change (s ∷ []) = change s ∷ []
with_last change (s ∷ t ∷ ss) = s ∷ with_last change (t ∷ ss)

-- a text may be put at the place in the last segment, where none is
abbrev pub MayPut : List ℕ → List ℕ → List SegmentValue → Type 0
MayPut key text [] = ⊥
MayPut key text (s ∷ []) = (texts.get s.at key ≡ None) × IsEntry (first_field s.name) (key, text)
MayPut key text (s ∷ t ∷ ss) = MayPut key text (t ∷ ss)

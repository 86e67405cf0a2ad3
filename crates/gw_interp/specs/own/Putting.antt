-- Texts that are put into the last segment of a message in the making.
use Rattle.std.specs.Prelude.{◌≡◌, ℕ, ◌<◌, List, [], ◌∷◌, length, None, unwrap_or}
use Rattle.std.specs.FinMap as texts
use Rattle.gw_er7.specs.Message.{Texts, SegmentValue, first_field, IsEntry}
use Rattle.gw_er7.specs.Building.{IsBegun, with_last}

abbrev pub last_name : List SegmentValue → List ℕ
last_name [] = []
last_name (s ∷ []) = s.name
last_name (s ∷ t ∷ ss) = last_name (t ∷ ss)

abbrev pub last_texts : List SegmentValue → Texts
last_texts [] = texts.empty
last_texts (s ∷ []) = s.at
last_texts (s ∷ t ∷ ss) = last_texts (t ∷ ss)

-- the place of the last segment has no text, and the text may be put there, if it isn't absent
pub record MayStand (key text : List ℕ) (old : List SegmentValue) : Type 0 where
  pub begun : 0 < length old
  pub free : texts.get (last_texts old) key ≡ None
  pub entry : 0 < length text → IsEntry (first_field (last_name old)) (key, text)

-- the last segment has the text at the place, and nothing else differs
pub record IsPut (key text : List ℕ) (old new : List SegmentValue) : Type 0 where
  pub others : new ≡ with_last (λ s. record s { at = last_texts new }) old
  pub here : unwrap_or (texts.get (last_texts new) key) [] ≡ text
  pub elsewhere : (k : List ℕ) → (k ≡ key → ⊥) → texts.get (last_texts new) k ≡ texts.get (last_texts old) k
  pub keeps : IsBegun old → IsBegun new

-- What is present in a segment, and the last number that is (HL7 v2.5.1 chapter 2, 2.5.3 "Fields").
use Rattle.std.specs.Prelude.{◌≡◌, ◌≢◌, ℕ, ◌<◌, ◌≤◌, List, length, Some, slice_get}
use Rattle.std.specs.Ordering.{nat_cmp}
use Rattle.std.specs.declared.cmp.Ordering.TheVariants.{Less}
use Rattle.std.specs.Cmp.Lexicographic.{slice_cmp}
use Rattle.gw_er7.specs.Message.{Texts, text_of}
use Rattle.gw_er7.specs.Entries.{Entry}

-- a subcomponent is present where its text isn't empty, whatever holds it where something in it is
abbrev pub SubAt : Texts → ℕ → ℕ → ℕ → ℕ → Type 0
SubAt m f r c s = 0 < length (text_of m f r c s)

abbrev pub CompAt : Texts → ℕ → ℕ → ℕ → Type 0
CompAt m f r c = (s : ℕ) × SubAt m f r c s

abbrev pub RepAt : Texts → ℕ → ℕ → Type 0
RepAt m f r = (c : ℕ) × CompAt m f r c

abbrev pub FieldAt : Texts → ℕ → Type 0
FieldAt m f = (r : ℕ) × RepAt m f r

-- the last number that is present, 0 where none is; each is 1 at least
pub record IsLast (P : ℕ → Type 0) (n : ℕ) : Type 0 where
  pub there : 0 < n → P n
  pub within : (k : ℕ) → P k → (0 < k) × (k ≤ n)

-- of entries in order, the first n stand below the key, and no other
pub record IsStart (key : List ℕ) (es : List Entry) (n : ℕ) : Type 0 where
  pub bound : n ≤ length es
  pub before : (i : ℕ) (e : Entry) → i < n → slice_get es i ≡ Some e → slice_cmp nat_cmp e.0 key ≡ Less
  pub from : (i : ℕ) (e : Entry) → n ≤ i → slice_get es i ≡ Some e → slice_cmp nat_cmp e.0 key ≢ Less

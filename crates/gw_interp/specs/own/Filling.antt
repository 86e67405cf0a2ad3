-- Leaves that are put at a repetition of a field of the last segment.
use Rattle.std.specs.Prelude.{◌≡◌, ℕ, ◌<◌, List, [], ◌∷◌, length, map, None, unwrap_or}
use Rattle.std.specs.List.{AllByRecursion}
use Rattle.std.specs.FinMap as texts
use Rattle.gw_er7.specs.Message.{SegmentValue, first_field, IsEntry}
use Rattle.gw_er7.specs.Building.{IsBegun, with_last}
use Rattle.gw_validate.specs.Fitting.{OccValue}
use Rattle.gw_maplang.specs.Among.{Among, Distinct}
use Rattle.gw_resolve.specs.Resolved.{At, alternatives}
use Rattle.gw_interp.specs.declared.reading.Reading.{Reading}
use Rattle.gw_interp.specs.Meaning.{Walked, FirstText}
use Rattle.gw_interp.specs.own.Sourced.{walks, NoFaultOf}
use Rattle.gw_interp.specs.own.Putting.{last_name, last_texts, IsPut}

abbrev pub message_of : List OccValue → List SegmentValue
message_of [] = []
message_of (o ∷ os) = o.message

-- what is read, in the message of the occurrences
abbrev pub read_by : Reading → Walked
read_by r = walks (message_of r.scope.now) r

abbrev pub key_of : ℕ → ℕ → At → List ℕ
key_of field rep a = field ∷ rep ∷ a.comp ∷ a.sub ∷ []

-- what the leaves of a place give may stand there, and each gives something
pub record MayHold (w : Walked) (field rep : ℕ) (name : List ℕ) (a : At) : Type 0 where
  pub entry : (text : List ℕ) → FirstText w (alternatives a) text → 0 < length text → IsEntry (first_field name) (key_of field rep a, text)
  pub no_fault : NoFaultOf w (alternatives a)

-- the first text that the leaves of a place give was put there
pub record IsHeld (w : Walked) (field rep : ℕ) (a : At) (old new : List SegmentValue) : Type 0 where
  pub text : List ℕ
  pub means : FirstText w (alternatives a) text
  pub put : IsPut (key_of field rep a) text old new

-- the places are apart, and free in the last segment
pub record MayFill (w : Walked) (field rep : ℕ) (leaves : List At) (old : List SegmentValue) : Type 0 where
  pub begun : 0 < length old
  pub free : AllByRecursion (λ a. texts.get (last_texts old) (key_of field rep a) ≡ None) leaves
  pub distinct : Distinct (map (key_of field rep) leaves)
  pub each : AllByRecursion (MayHold w field rep (last_name old)) leaves

-- the last segment has the text of each place there, and nothing else differs
pub record AreFilled (w : Walked) (field rep : ℕ) (leaves : List At) (old new : List SegmentValue) : Type 0 where
  pub others : new ≡ with_last (λ s. record s { at = last_texts new }) old
  pub each : AllByRecursion (λ a. FirstText w (alternatives a) (unwrap_or (texts.get (last_texts new) (key_of field rep a)) [])) leaves
  pub elsewhere : (key : List ℕ) → (Among key (map (key_of field rep) leaves) → ⊥) → texts.get (last_texts new) key ≡ texts.get (last_texts old) key
  pub keeps : IsBegun old → IsBegun new

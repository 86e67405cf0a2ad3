-- What breaks the shape of a segment (HL7 v2.5.1 chapter 2, 2.12: usage, cardinality, length, table of fields, components and subcomponents).
use Rattle.std.specs.Prelude.{◌≡◌, ℕ, zero, suc, ◌<◌, ◌-◌, ◌⊎◌, Bool, true, false, not, nat_lt, List, [], ◌∷◌, length, Option, Some, None, bytes_eq}
use Rattle.gw_er7.specs.Message.{Texts, text_of}
use Rattle.gw_er7.specs.Presence.{CompAt, RepAt, FieldAt, IsLast}
use Rattle.gw_profile.specs.declared.shape.Usage.{Usage}
use Rattle.gw_profile.specs.declared.shape.Usage.TheVariants.{R, X}
use Rattle.gw_profile.specs.Shapes.{SubValue, CompValue, FieldValue, TableValue, ProfileValue}
use Rattle.gw_profile.specs.declared.shape.Count.{Count}
use Rattle.gw_profile.specs.Lengths.{measure, len_count}
use Rattle.gw_profile.specs.Fault.{is_among}
use Rattle.gw_profile.specs.Value.{table_of}

abbrev pub is_required : Usage → Bool
is_required R = true
is_required _ = false

abbrev pub is_forbidden : Usage → Bool
is_forbidden X = true
is_forbidden _ = false

-- of the numbers from 1 to n, k are present
abbrev pub Counted : (ℕ → Type 0) → ℕ → ℕ → Type 0
Counted P zero k = k ≡ 0
Counted P (suc n) k = (P (suc n) × (j : ℕ) × (k ≡ suc j) × Counted P n j) ⊎ ((P (suc n) → ⊥) × Counted P n k)

-- longer than the length allows
abbrev pub is_long : Count → Option ℕ → List ℕ → Bool
is_long count None text = false
is_long count (Some most) text = nat_lt most (measure count text)

abbrev pub lacks : Option (List (List ℕ)) → List ℕ → Bool
lacks None text = false
lacks (Some values) text = not (is_among text values)

-- no value of the table of this name
abbrev pub is_unlisted : List TableValue → Option (List ℕ) → List ℕ → Bool
is_unlisted tables None text = false
is_unlisted tables (Some name) text = lacks (table_of name tables) text

-- "" is present, and exempt from length and table
abbrev pub is_null : List ℕ → Bool
is_null text = bytes_eq text (34 ∷ 34 ∷ [])

-- A spot is what is still to be said of field, repetition, component and subcomponent, and the number of the kind.

-- of a subcomponent: required and absent, forbidden and present, too long, not in its table
pub data SubBreach (profile : ProfileValue) (shape : SubValue) (text : List ℕ) : List ℕ → Type 0 where
  sub_absent : is_required shape.usage ≡ true → length text ≡ 0 → SubBreach profile shape text (3 ∷ [])
  sub_forbidden : is_forbidden shape.usage ≡ true → 0 < length text → SubBreach profile shape text (4 ∷ [])
  too_long : 0 < length text → is_null text ≡ false → is_long (len_count profile) shape.len text ≡ true → SubBreach profile shape text (6 ∷ [])
  not_listed : 0 < length text → is_null text ≡ false → is_unlisted profile.tables shape.table text ≡ true → SubBreach profile shape text (7 ∷ [])

-- a breach of one of the shapes, at its number
pub data InAny {A : Type 0} (number : A → ℕ) (B : A → List ℕ → Type 0) : List A → List ℕ → Type 0 where
  in_first : {x : A} {xs : List A} {spot : List ℕ} → B x spot → InAny number B (x ∷ xs) (number x ∷ spot)
  in_later : {x : A} {xs : List A} {spot : List ℕ} → InAny number B xs spot → InAny number B (x ∷ xs) spot

-- of a component: required and absent, forbidden and present; where it is present, of a subcomponent
pub data CompBreach (profile : ProfileValue) (m : Texts) (f r : ℕ) (shape : CompValue) : List ℕ → Type 0 where
  comp_absent : is_required shape.usage ≡ true → (CompAt m f r shape.number → ⊥) → CompBreach profile m f r shape (0 ∷ 3 ∷ [])
  comp_forbidden : is_forbidden shape.usage ≡ true → CompAt m f r shape.number → CompBreach profile m f r shape (0 ∷ 4 ∷ [])
  in_sub : {spot : List ℕ} → CompAt m f r shape.number → InAny (λ s. s.number) (λ s. SubBreach profile s (text_of m f r shape.number s.number)) shape.subs spot → CompBreach profile m f r shape spot

-- of a repetition that is present: exactly max are present before it; of a component
pub data RepBreach (profile : ProfileValue) (m : Texts) (shape : FieldValue) (r : ℕ) : List ℕ → Type 0 where
  one_too_many : {most : ℕ} → is_forbidden shape.usage ≡ false → shape.card.max ≡ Some most → Counted (RepAt m shape.number) (r - 1) most → RepBreach profile m shape r (0 ∷ 0 ∷ 5 ∷ [])
  in_comp : {spot : List ℕ} → InAny (λ c. c.number) (CompBreach profile m shape.number r) shape.comps spot → RepBreach profile m shape r spot

pub data RepsBreach (profile : ProfileValue) (m : Texts) (shape : FieldValue) : List ℕ → Type 0 where
  in_rep : {r : ℕ} {spot : List ℕ} → RepAt m shape.number r → RepBreach profile m shape r spot → RepsBreach profile m shape (r ∷ spot)

-- of a field: fewer repetitions than min are present, forbidden and present, of a repetition
pub data FieldBreach (profile : ProfileValue) (m : Texts) (shape : FieldValue) : List ℕ → Type 0 where
  too_few : {last count : ℕ} → is_forbidden shape.usage ≡ false → IsLast (RepAt m shape.number) last → Counted (RepAt m shape.number) last count → count < shape.card.min → FieldBreach profile m shape (0 ∷ 0 ∷ 0 ∷ 3 ∷ [])
  field_forbidden : is_forbidden shape.usage ≡ true → FieldAt m shape.number → FieldBreach profile m shape (0 ∷ 0 ∷ 0 ∷ 4 ∷ [])
  in_reps : {spot : List ℕ} → RepsBreach profile m shape spot → FieldBreach profile m shape spot

-- of a segment: of one of its listed fields
abbrev pub SegmentBreach : ProfileValue → List FieldValue → Texts → List ℕ → Type 0
SegmentBreach profile fields m spot = InAny (λ f. f.number) (FieldBreach profile m) fields spot

-- the segment meets the shape
abbrev pub Meets : ProfileValue → List FieldValue → Texts → Type 0
Meets profile fields m = (spot : List ℕ) → SegmentBreach profile fields m spot → ⊥

-- spots are in the order of their numbers, the first that differs deciding
abbrev pub NotAfter : List ℕ → List ℕ → Type 0
NotAfter [] q = Unit {0}
NotAfter (a ∷ p) [] = ⊥
NotAfter (a ∷ p) (b ∷ q) = (a < b) ⊎ ((a ≡ b) × NotAfter p q)

-- Messages: segments, each a name with texts at places (HL7 v2.5.1 chapter 2, sections 2.5.2 "Segments and segment groups", 2.5.3 "Fields" and 2.5.4 "Message delimiters").
use Rattle.std.specs.Prelude.{◌≡◌, ◌≢◌, ℕ, ◌<◌, ◌≤◌, if◌then◌else◌, List, [], ◌∷◌, length, unwrap_or, refl}
use Rattle.std.specs.List.{AllByRecursion}
use Rattle.std.specs.Ordering.{nat_cmp}
use Rattle.std.specs.Cmp.Lexicographic.{slice_cmp}
use Rattle.std.specs.FinMap as texts
use Rattle.std.specs.Coded.{Coded, code_by, coded×, coded_ℕ, coded_list}
use Rattle.gw_er7.specs.declared.place.Place.{Place}
use Rattle.gw_er7.specs.Names.{is_header, IsName, header_name}
use Rattle.gw_er7.specs.Text.{IsCanonical}

-- ---- values

-- a place as the list of its four numbers, by which places are in order
abbrev pub numbers : Place → List ℕ
numbers p = p.field ∷ p.rep ∷ p.comp ∷ p.sub ∷ []

-- each number counts from 1
abbrev pub IsPlace : Place → Type 0
IsPlace p = (0 < p.field) × (0 < p.rep) × (0 < p.comp) × (0 < p.sub)

-- texts at places: a finite map, so two that answer alike are equal
abbrev pub Texts : Type 0
Texts = texts.FinMap (slice_cmp nat_cmp) (List ℕ)

-- the text of a span: field, repetition, component, subcomponent; empty where it is absent
abbrev pub text_of : Texts → ℕ → ℕ → ℕ → ℕ → List ℕ
text_of m f r c s = unwrap_or (texts.get m (f ∷ r ∷ c ∷ s ∷ [])) []

-- a segment: its name, and its texts
pub record SegmentValue : Type 0 where
  pub name : List ℕ
  pub at : Texts

-- the text of a segment at a place, empty where it is absent
abbrev pub text_at : SegmentValue → Place → List ℕ
text_at s p = unwrap_or (texts.get s.at (numbers p)) []

-- a segment is stored as the pair of its fields
abbrev pub segment_code : Coded SegmentValue
segment_code =
    code_by (List ℕ × Texts) (coded× (coded_list coded_ℕ) (texts.code (coded_list coded_ℕ) (coded_list coded_ℕ)))
    (λ s. (s.name, s.at)) (λ p. record { name = p.0; at = p.1 }) (λ _. refl)

-- ---- which segments, which messages

-- the first field that is a value: in MSH the delimiters count as the fields 1 and 2
abbrev pub first_field : List ℕ → ℕ
first_field name = if is_header name then 3 else 1

abbrev pub first_number : List ℕ → ℕ
first_number [] = 0
first_number (n ∷ key) = n

-- the numbers of a place whose field isn't below the first
pub record IsKey (first : ℕ) (key : List ℕ) : Type 0 where
  pub four : length key ≡ 4
  pub positive : AllByRecursion (λ n. 0 < n) key
  pub field : first ≤ first_number key

-- a text that may stand at a place
pub record IsEntry (first : ℕ) (entry : List ℕ × List ℕ) : Type 0 where
  pub key : IsKey first entry.0
  pub text : IsCanonical entry.1
  pub some : entry.1 ≢ []

-- a lawful name, and texts that may stand at their places
pub record IsSegment (s : SegmentValue) : Type 0 where
  pub name : IsName s.name
  pub each : AllByRecursion (IsEntry (first_field s.name)) (texts.entries s.at)

pub record IsHeader (s : SegmentValue) : Type 0 where
  pub segment : IsSegment s
  pub name : s.name ≡ header_name

pub record IsOther (s : SegmentValue) : Type 0 where
  pub segment : IsSegment s
  pub name : s.name ≢ header_name

-- at least one segment, the first named MSH, and no other
abbrev pub IsMessage : List SegmentValue → Type 0
IsMessage [] = ⊥
IsMessage (s ∷ ss) = IsHeader s × AllByRecursion IsOther ss

-- The canonical text of a value: escape sequences read once and for all (HL7 v2.5.1 chapter 2, 2.7 "Use of escape sequences in text fields").
use Rattle.std.specs.Prelude.{◌≡◌, ℕ, zero, suc, ◌+◌, ◌<◌, Bool, true, false, not, ◌&&◌, ◌||◌, ◌==◌, nat_le, nat_lt, if◌then◌else◌, List, [], ◌∷◌, ◌++◌, length, Option, None, Some}
use Rattle.std.specs.List.{list_all, before_first, flat_map, AllByRecursion}
use Rattle.std.specs.Str.{bytes_eq}
use Rattle.gw_er7.specs.declared.delimiters.Delimiters.{Delimiters}

-- | ^ ~ \ &
abbrev pub standard : Delimiters
standard = record { field = 124; component = 94; repetition = 126; escape = 92; subcomponent = 38 }

-- one of | ^ ~ \ &
abbrev pub is_special : ℕ → Bool
is_special b = b == 124 || b == 94 || b == 126 || b == 92 || b == 38

-- \ body \
abbrev pub escaped : List ℕ → List ℕ
escaped body = 92 ∷ body ++ 92 ∷ []

-- a byte that stands for itself or for a delimiter, in canonical text: \F\ \S\ \T\ \R\ \E\ for | ^ & ~ \
abbrev pub plainly : ℕ → List ℕ
plainly b =
    if b == 124 then escaped (70 ∷ []) else if b == 94 then escaped (83 ∷ []) else if b == 38 then escaped (84 ∷ [])
    else if b == 126 then escaped (82 ∷ []) else if b == 92 then escaped (69 ∷ []) else b ∷ []

-- the delimiter of the sender that a body stands for: F, S, T, R, E
abbrev pub delimiter_of : Delimiters → List ℕ → Option ℕ
delimiter_of d [] = None
delimiter_of d (x ∷ []) =
    if x == 70 then Some d.field else if x == 83 then Some d.component else if x == 84 then Some d.subcomponent
    else if x == 82 then Some d.repetition else if x == 69 then Some d.escape else None
delimiter_of d (x ∷ y ∷ bs) = None

-- what a body is in canonical text
abbrev pub meaning_by : Option ℕ → List ℕ → List ℕ
meaning_by None body = escaped body
meaning_by (Some b) body = plainly b

abbrev pub meaning : Delimiters → List ℕ → List ℕ
meaning d body = meaning_by (delimiter_of d body) body

-- not empty, and none of | ^ ~ \ &
abbrev pub is_body : List ℕ → Bool
is_body [] = false
is_body (b ∷ bs) = list_all (λ x. not (is_special x)) (b ∷ bs)

-- the bytes up to the next escape character of the sender
abbrev pub body_of : Delimiters → List ℕ → List ℕ
body_of d after = before_first (λ b. b == d.escape) after

-- whether this byte and those after it begin with a sequence: an escape character, a body, an escape character
abbrev pub opens : Delimiters → ℕ → List ℕ → Bool
opens d b after = b == d.escape && (nat_lt (length (body_of d after)) (length after) && is_body (body_of d after))

-- a sequence begins so, and this is its body
abbrev pub IsBodyAt : Delimiters → ℕ → List ℕ → List ℕ → Type 0
IsBodyAt d b after body = (opens d b after ≡ true) × (body ≡ body_of d after) × (length body < length after)

-- the canonical text of the bytes behind those that are passed over
abbrev pub canon_from : Delimiters → ℕ → List ℕ → List ℕ
canon_from d skip [] = []
canon_from d (suc skip) (b ∷ bs) = canon_from d skip bs
canon_from d zero (b ∷ bs) =
    if opens d b bs then meaning d (body_of d bs) ++ canon_from d (length (body_of d bs) + 1) bs
    else plainly b ++ canon_from d 0 bs

-- the canonical text of a raw value
abbrev pub canon : Delimiters → List ℕ → List ℕ
canon d raw = canon_from d 0 raw

-- ---- canonical texts

-- 0x20 to 0xFF, or TAB
abbrev pub IsInRange : ℕ → Type 0
IsInRange b = (b < 256) × (b < 32 → b ≡ 9)

-- a byte of a text: 0x20 to 0xFF or TAB, and none of | ^ ~ \ &
pub record IsPlain (b : ℕ) : Type 0 where
  pub range : IsInRange b
  pub not_special : is_special b ≡ false

pub data Item : Type 0 where
  Plain : ℕ → Item
  Escape : List ℕ → Item

abbrev pub spelled : Item → List ℕ
spelled (Plain b) = b ∷ []
spelled (Escape body) = escaped body

abbrev pub IsItem : Item → Type 0
IsItem (Plain b) = IsPlain b
IsItem (Escape body) = (body ≡ [] → ⊥) × AllByRecursion IsPlain body

-- the text is a list of plain bytes and escapes
pub record IsCanonical (text : List ℕ) : Type 0 where
  pub items : List Item
  pub whole : text ≡ flat_map spelled items
  pub each : AllByRecursion IsItem items

-- ---- the same, as a test

-- 0x20 to 0xFF, or TAB
abbrev pub is_text_byte : ℕ → Bool
is_text_byte b = (nat_le 32 b && nat_lt b 256) || b == 9

-- bytes of a text that stand for themselves under the standard delimiters
abbrev pub is_canonical : List ℕ → Bool
is_canonical text = list_all is_text_byte text && bytes_eq (canon standard text) text

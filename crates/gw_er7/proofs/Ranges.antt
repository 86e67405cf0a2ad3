-- What is read of lawful bytes is canonical.
use Rattle.std.proofs.Common.{◌≡◌, ℕ, zero, suc, ◌+◌, ◌<◌, ◌≤◌, Bool, true, false, not, List, [], ◌∷◌, ◌++◌, map, length, Option, None, Some, refl, sym, ap, ◌∙◌, append-nil, arith}
use Rattle.std.specs.Prelude.{◌==◌, ◌≢◌, if◌then◌else◌}
use Rattle.std.proofs.lemmas.Bool.{and_parts, not-true}
use Rattle.std.proofs.lemmas.Bool.Decides.{nat_tests}
use Rattle.std.proofs.lemmas.List.Concat.{flat_map-append}
use Rattle.std.specs.List.{slice_split, list_all, flat_map, position_or_len, AllByRecursion}
use Rattle.gw_er7.specs.declared.delimiters.Delimiters.{Delimiters}
use Rattle.gw_er7.specs.Text.{canon, canon_from, opens, meaning, meaning_by, delimiter_of, plainly, body_of, is_body, is_special, escaped, Plain, Escape, spelled, IsItem, IsPlain, IsInRange, IsCanonical}
use Rattle.gw_er7.specs.Message.{first_number, IsEntry}
use Rattle.gw_er7.specs.Entries.{Entry, under, numbered, value, subcomponents, components, repetitions, fields}
use Rattle.gw_er7.proofs.Each.{Each-append, Each-take, Each-split}

abbrev pub Lawful : List ℕ → Type 0
Lawful bytes = AllByRecursion IsInRange bytes

pub record HasLawful (d : Delimiters) : Type 0 where
  pub field : IsInRange d.field
  pub component : IsInRange d.component
  pub repetition : IsInRange d.repetition
  pub escape : IsInRange d.escape
  pub subcomponent : IsInRange d.subcomponent

pub high : (b : ℕ) → 32 ≤ b → b < 256 → IsInRange b
high b le lt = (lt, λ low. absurd (omega arith))

-- ---- parts of lawful bytes

abbrev AllLawful : List (List ℕ) → Type 0
AllLawful ps = AllByRecursion Lawful ps

lawful-split : (p : ℕ → Bool) (bytes : List ℕ) → Lawful bytes → AllLawful (slice_split p bytes)
lawful-split p bytes h = Each-split IsInRange IsInRange p (λ b is _. is) bytes h

-- ---- canonical texts, joined

joined : (a b : List ℕ) → IsCanonical a → IsCanonical b → IsCanonical (a ++ b)
joined a b h k = record {
  items = h.items ++ k.items;
  whole = (ap (λ (x : List ℕ). x ++ b) h.whole ∙ ap (λ (x : List ℕ). flat_map spelled h.items ++ x) k.whole) ∙ sym (flat_map-append spelled h.items k.items);
  each = Each-append IsItem h.items k.items h.each k.each;
}

empty : IsCanonical []
empty = record { items = []; whole = refl; each = tt }

-- canonical, and not empty
pub record IsGood (t : List ℕ) : Type 0 where
  pub canonical : IsCanonical t
  pub some : t ≢ []

joined_good : (a b : List ℕ) → IsGood a → IsCanonical b → IsGood (a ++ b)
joined_good [] b h k = absurd (h.some refl)
joined_good (x ∷ a) b h k = record { canonical = joined (x ∷ a) b h.canonical k; some = λ e. absurd (let z : ⊥ = cc in z) }

a_plain : (b : ℕ) → IsPlain b → IsGood (b ∷ [])
a_plain b is = record { canonical = record { items = Plain b ∷ []; whole = refl; each = (is, tt) }; some = λ e. absurd (let z : ⊥ = cc in z) }

good_escape : (body : List ℕ) → IsItem (Escape body) → IsGood (escaped body)
good_escape body is = record { canonical = record { items = Escape body ∷ []; whole = sym (append-nil (escaped body)); each = (is, tt) }; some = λ e. absurd (let z : ⊥ = cc in z) }

letter : (b : ℕ) → 32 ≤ b → b < 92 → b ≢ 38 → IsPlain b
letter b low high other = record { range = (omega arith, λ lt. absurd (omega arith)); not_special = grind (arith, nat_tests) }

an_escape : (b : ℕ) → 32 ≤ b → b < 92 → b ≢ 38 → IsGood (escaped (b ∷ []))
an_escape b low high other = good_escape (b ∷ []) ((λ e. absurd (let z : ⊥ = cc in z)), (letter b low high other, tt))

-- what holds of both sides of a test holds of what it chooses
pub choose : {A : Type 0} (P : A → Type 0) (v : Bool) {x y : A} → (v ≡ true → P x) → (v ≡ false → P y) → P (if v then x else y)
choose P true one other = one refl
choose P false one other = other refl

good-plainly : (b : ℕ) → IsInRange b → IsGood (plainly b)
good-plainly b is =
    choose IsGood (b == 124) (λ _. an_escape 70 (omega arith) (omega arith) (λ e. absurd (omega arith))) (λ a.
    choose IsGood (b == 94) (λ _. an_escape 83 (omega arith) (omega arith) (λ e. absurd (omega arith))) (λ c.
    choose IsGood (b == 38) (λ _. an_escape 84 (omega arith) (omega arith) (λ e. absurd (omega arith))) (λ d.
    choose IsGood (b == 126) (λ _. an_escape 82 (omega arith) (omega arith) (λ e. absurd (omega arith))) (λ e.
    choose IsGood (b == 92) (λ _. an_escape 69 (omega arith) (omega arith) (λ e. absurd (omega arith))) (λ f.
    a_plain b (record { range = is; not_special = rw (a, c, e, f, d) refl }))))))

-- ---- a body

plain_body : (body : List ℕ) → Lawful body → list_all (λ x. not (is_special x)) body ≡ true → AllByRecursion IsPlain body
plain_body [] h e = tt
plain_body (b ∷ bs) h e =
    let both = and_parts (not (is_special b)) _ e in
    (record { range = h.0; not_special = not-true (is_special b) both.0 }, plain_body bs h.1 both.1)

good-escaped : (body : List ℕ) → Lawful body → is_body body ≡ true → IsGood (escaped body)
good-escaped [] h e = absurd (let z : ⊥ = cc in z)
good-escaped (b ∷ bs) h e = good_escape (b ∷ bs) ((λ z. absurd (let no : ⊥ = cc in no)), plain_body (b ∷ bs) h e)

abbrev IsLawfulOption : Option ℕ → Type 0
IsLawfulOption None = Unit {0}
IsLawfulOption (Some b) = IsInRange b

lawful-delimiter : (d : Delimiters) (body : List ℕ) → HasLawful d → IsLawfulOption (delimiter_of d body)
lawful-delimiter d [] h = tt
lawful-delimiter d (x ∷ y ∷ bs) h = tt
lawful-delimiter d (x ∷ []) h =
    choose IsLawfulOption (x == 70) (λ _. h.field) (λ _. choose IsLawfulOption (x == 83) (λ _. h.component) (λ _. choose IsLawfulOption (x == 84) (λ _. h.subcomponent) (λ _.
    choose IsLawfulOption (x == 82) (λ _. h.repetition) (λ _. choose IsLawfulOption (x == 69) (λ _. h.escape) (λ _. tt)))))

good-by : (o : Option ℕ) (body : List ℕ) → IsLawfulOption o → Lawful body → is_body body ≡ true → IsGood (meaning_by o body)
good-by None body o h is = good-escaped body h is
good-by (Some b) body o h is = good-plainly b o

good-canon : (d : Delimiters) (b : ℕ) (bs : List ℕ) → HasLawful d → IsInRange b → Lawful bs → ((skip : ℕ) → IsCanonical (canon_from d skip bs)) → IsGood (canon_from d zero (b ∷ bs))
good-canon d b bs delimiters h hs later =
    elim (opens d b bs) as (λ v. opens d b bs ≡ v → IsGood (if v then meaning d (body_of d bs) ++ canon_from d (length (body_of d bs) + 1) bs else plainly b ++ canon_from d 0 bs)) [
      | true ↦ λ e. joined_good (meaning d (body_of d bs)) _ (good-by (delimiter_of d (body_of d bs)) (body_of d bs) (lawful-delimiter d (body_of d bs) delimiters)
          (Each-take IsInRange (position_or_len (λ x. x == d.escape) bs) bs hs) (and_parts _ (is_body (body_of d bs)) (and_parts (b == d.escape) _ e).1).1) (later (length (body_of d bs) + 1))
      | false ↦ λ e. joined_good (plainly b) _ (good-plainly b h) (later 0)
    ] refl

pub canonical-from : (d : Delimiters) (skip : ℕ) (bs : List ℕ) → HasLawful d → Lawful bs → IsCanonical (canon_from d skip bs)
canonical-from d zero [] delimiters h = empty
canonical-from d (suc skip) [] delimiters h = empty
canonical-from d (suc skip) (b ∷ bs) delimiters h = canonical-from d skip bs delimiters h.1
canonical-from d zero (b ∷ bs) delimiters h = (good-canon d b bs delimiters h.0 h.1 (λ skip. canonical-from d skip bs delimiters h.1)).canonical

pub good-value : (d : Delimiters) (b : ℕ) (bs : List ℕ) → HasLawful d → Lawful (b ∷ bs) → IsGood (canon d (b ∷ bs))
good-value d b bs delimiters h = good-canon d b bs delimiters h.0 h.1 (λ skip. canonical-from d skip bs delimiters h.1)

-- ---- the entries of lawful bytes

pub record IsLeaf (n : ℕ) (e : Entry) : Type 0 where
  size : length e.0 ≡ n
  positive : AllByRecursion (λ k. 0 < k) e.0
  good : IsGood e.1

abbrev Leaves : ℕ → List Entry → Type 0
Leaves n es = AllByRecursion (IsLeaf n) es

leaves-under : (n m : ℕ) (es rest : List Entry) → 0 < m → Leaves n es → Leaves (n + 1) rest → Leaves (n + 1) (map (under m) es ++ rest)
leaves-under n m [] rest lt h k = k
leaves-under n m (e ∷ es) rest lt h k = (record { size = omega (arith, h.0.size); positive = (lt, h.0.positive); good = h.0.good }, leaves-under n m es rest lt h.1 k)

abbrev Reads : ℕ → (List ℕ → List Entry) → Type 0
Reads n inner = (bytes : List ℕ) → Lawful bytes → Leaves n (inner bytes)

leaves-numbered : (n : ℕ) (inner : List ℕ → List Entry) (m : ℕ) (ps : List (List ℕ)) → 0 < m → Reads n inner → AllLawful ps → Leaves (n + 1) (numbered inner m ps)
leaves-numbered n inner m [] lt reads h = tt
leaves-numbered n inner m (p ∷ ps) lt reads h = leaves-under n m (inner p) (numbered inner (m + 1) ps) lt (reads p h.0) (leaves-numbered n inner (m + 1) ps (omega arith) reads h.1)

leaves-value : (d : Delimiters) → HasLawful d → Reads 0 (value d)
leaves-value d delimiters [] h = tt
leaves-value d delimiters (b ∷ bs) h = (record { size = refl; positive = tt; good = good-value d b bs delimiters h }, tt)

leaves-fields : (d : Delimiters) (from : ℕ) → 0 < from → HasLawful d → Reads 4 (fields d from)
leaves-fields d from lt delimiters bytes h =
    leaves-numbered 3 (repetitions d) from _ lt (λ r hr. leaves-numbered 2 (components d) 1 _ (omega arith) (λ c hc. leaves-numbered 1 (subcomponents d) 1 _ (omega arith) (λ s hs. leaves-numbered 0 (value d) 1 _ (omega arith) (leaves-value d delimiters)
    (lawful-split (λ b. b == d.subcomponent) s hs)) (lawful-split (λ b. b == d.component) c hc)) (lawful-split (λ b. b == d.repetition) r hr)) (lawful-split (λ b. b == d.field) bytes h)

abbrev From : ℕ → List Entry → Type 0
From first es = AllByRecursion (λ e. first ≤ first_number e.0) es

from-under : (first m : ℕ) (es rest : List Entry) → first ≤ m → From first rest → From first (map (under m) es ++ rest)
from-under first m [] rest le h = h
from-under first m (e ∷ es) rest le h = (le, from-under first m es rest le h)

from-numbered : (inner : List ℕ → List Entry) (first m : ℕ) (ps : List (List ℕ)) → first ≤ m → From first (numbered inner m ps)
from-numbered inner first m [] le = tt
from-numbered inner first m (p ∷ ps) le = from-under first m (inner p) (numbered inner (m + 1) ps) le (from-numbered inner first (m + 1) ps (omega arith))

entries_of_leaves : (first : ℕ) (es : List Entry) → Leaves 4 es → From first es → AllByRecursion (IsEntry first) es
entries_of_leaves first [] h k = tt
entries_of_leaves first (e ∷ es) h k = (record { key = record { four = h.0.size; positive = h.0.positive; field = k.0 }; text = h.0.good.canonical; some = h.0.good.some }, entries_of_leaves first es h.1 k.1)

pub fields_kept : (d : Delimiters) (first : ℕ) (bytes : List ℕ) → 0 < first → HasLawful d → Lawful bytes → AllByRecursion (IsEntry first) (fields d first bytes)
fields_kept d first bytes lt delimiters h = entries_of_leaves first (fields d first bytes) (leaves-fields d first lt delimiters bytes h) (from-numbered (repetitions d) first first (slice_split (λ b. b == d.field) bytes) (omega arith))

-- What is written holds no idle separator, and ends with none.
use Rattle.std.proofs.Common.{◌≡◌, ◌≢◌, ℕ, zero, suc, ◌+◌, ◌-◌, ◌<◌, ◌≤◌, max, true, false, List, [], ◌∷◌, ◌++◌, length, refl, sym, subst, arith}
use Rattle.std.proofs.lemmas.Bool.Decides.{nat_tests}
use Rattle.std.specs.Prelude.{◌==◌, unwrap_or, if◌then◌else◌}
use Rattle.std.proofs.lemmas.Bool.{ne_eqb}
use Rattle.std.proofs.lemmas.List.{length-append}
use Rattle.std.specs.List.{join_with_byte, AllByRecursion}
use Rattle.gw_er7.specs.Message.{first_number, IsEntry}
use Rattle.gw_er7.specs.Entries.{Entry}
use Rattle.gw_er7.specs.Written.{strip, those, last_number, parts_from, layer, leaf_text, component_text, repetition_text, field_text, fields_text}
use Rattle.gw_er7.specs.Encoding.{rank, IsIdle, HasNoIdle}
use Rattle.gw_er7.proofs.Each.{Each-weaker}
use Rattle.gw_er7.proofs.Under.{full}
use Rattle.gw_er7.proofs.Uniques.{LastFull}
use Rattle.gw_er7.proofs.Rounds.{IsTextByte, IsText, Texts, canonical_text, leaf_cases, Each-join, leaf-each, component-each, repetition-each, field-each}

-- no idle separator, and the last byte is none
abbrev pub Solid : List ℕ → Type 0
Solid [] = Unit {0}
Solid (b ∷ []) = rank b ≡ 0
Solid (a ∷ b ∷ bs) = ¬ (IsIdle a b) × Solid (b ∷ bs)

pub tight_of : (t : ℕ) (x : List ℕ) → Solid x → HasNoIdle (x ++ t ∷ [])
tight_of t [] h = ((λ z. z), tt)
tight_of t (b ∷ []) h = ((λ idle. absurd (let some = idle.0 in omega (arith, h, some))), ((λ z. z), tt))
tight_of t (a ∷ b ∷ bs) h = (h.0, tight_of t (b ∷ bs) h.1)

abbrev pub Low : ℕ → List ℕ → Type 0
Low n bs = AllByRecursion (λ b. rank b ≤ n) bs

pub solid_append : (s : ℕ) (p x : List ℕ) → Solid p → Solid x → 0 < length x → Low (rank s) x → Solid (p ++ s ∷ x)
solid_append s [] [] hp hx some low = absurd (omega arith)
solid_append s [] (c ∷ x) hp hx some low = ((λ idle. absurd (let lt = idle.1 in let le = low.0 in omega (arith, lt, le))), hx)
solid_append s (b ∷ []) x hp hx some low = ((λ idle. absurd (let has = idle.0 in omega (arith, hp, has))), solid_append s [] x tt hx some low)
solid_append s (a ∷ b ∷ p) x hp hx some low = (hp.0, solid_append s (b ∷ p) x hp.1 hx some low)

-- bytes that are no separators
abbrev pub Plains : List ℕ → Type 0
Plains bs = AllByRecursion (λ b. rank b ≡ 0) bs

pub solid_plain : (x : List ℕ) → Plains x → Solid x
solid_plain [] h = tt
solid_plain (b ∷ []) h = h.0
solid_plain (a ∷ b ∷ x) h = ((λ idle. absurd (let some = idle.0 in omega (arith, h.0, some))), solid_plain (b ∷ x) h.1)

pub rank_other : (b : ℕ) → b ≢ 38 → b ≢ 94 → b ≢ 126 → b ≢ 124 → b ≢ 13 → rank b ≡ 0
rank_other b s c r f e = rw (ne_eqb b 38 s, ne_eqb b 94 c, ne_eqb b 126 r, ne_eqb b 124 f, ne_eqb b 13 e) refl

rank_text : (b : ℕ) → IsTextByte b → rank b ≡ 0
rank_text b is = rank_other b is.subcomponent is.component is.repetition is.field (λ e. absurd (let tab = is.range.1 (omega (arith, e)) in omega (arith, e, tab)))

low_text : (n b : ℕ) → IsTextByte b → rank b ≤ n
low_text n b is = omega (arith, rank_text b is)

-- ---- entries of one shape

pub record IsShaped (n : ℕ) (e : Entry) : Type 0 where
  pub size : length e.0 ≡ n
  pub positive : AllByRecursion (λ k. 0 < k) e.0
  pub text : IsText e.1

abbrev pub Shape : ℕ → List Entry → Type 0
Shape n es = AllByRecursion (IsShaped n) es

shape-texts : (n : ℕ) (es : List Entry) → Shape n es → Texts IsText es
shape-texts n es h = Each-weaker (IsShaped n) (λ e. IsText e.1) (λ e is. is.text) es h

shape-those : (n k : ℕ) (es : List Entry) → Shape (n + 1) es → Shape n (those k es)
shape-those n k [] h = tt
shape-those n k (e ∷ es) h = shaped e.0 e.1 h.0 (those k es) (shape-those n k es h.1)
  where
    shaped : (key text : List ℕ) → IsShaped (n + 1) (key, text) → (rest : List Entry) → Shape n rest → Shape n (strip k key text ++ rest)
    shaped [] text is rest h = h
    shaped (m ∷ key) text is rest h =
        elim (m == k) as (λ v. Shape n ((if v then (key, text) ∷ [] else []) ++ rest)) [
          | true ↦ (record { size = omega (arith, is.size); positive = is.positive.1; text = is.text }, h)
          | false ↦ h
        ]

abbrev pub From : ℕ → List Entry → Type 0
From first es = AllByRecursion (λ e. first ≤ first_number e.0) es

from_one : (n : ℕ) (es : List Entry) → Shape (n + 1) es → From 1 es
from_one n es h = Each-weaker (IsShaped (n + 1)) (λ e. 1 ≤ first_number e.0) (λ e is. one e.0 is.size is.positive) es h
  where
    one : (key : List ℕ) → length key ≡ n + 1 → AllByRecursion (λ k. 0 < k) key → 1 ≤ first_number key
    one [] len h = absurd (omega arith)
    one (m ∷ key) len h = omega (arith, h.0)

from_last : (first : ℕ) (es : List Entry) → From first es → 0 < length es → first ≤ last_number es
from_last first [] h some = absurd (omega arith)
from_last first (e ∷ es) h some = (let le = h.0 in omega (arith, le))

-- something stands under the last number
attained : (n : ℕ) (es : List Entry) → Shape (n + 1) es → 0 < length es → 0 < length (those (last_number es) es)
attained n [] h some = absurd (omega arith)
attained n (e ∷ es) h some = by e.0 e.1 h.0.size (λ lt. attained n es h.1 (not_none es lt))
  where
    not_none : (es : List Entry) → 0 < last_number es → 0 < length es
    not_none [] lt = absurd (omega arith)
    not_none (f ∷ fs) lt = omega arith

    by : (key text : List ℕ) → length key ≡ n + 1 → (0 < last_number es → 0 < length (those (last_number es) es)) → 0 < length (strip (max (first_number key) (last_number es)) key text ++ those (max (first_number key) (last_number es)) es)
    by [] text len later = absurd (omega arith)
    by (m ∷ key) text len later =
        let long = length-append (strip (last_number es) (m ∷ key) text) (those (last_number es) es) in
        grind (arith, nat_tests)

-- ---- parts joined

join_full : (s : ℕ) (ps : List (List ℕ)) → LastFull ps → 0 < length (join_with_byte s ps)
join_full s [] h = absurd h
join_full s (p ∷ []) h = h
join_full s (p ∷ q ∷ ps) h = omega (arith, length-append p (s ∷ join_with_byte s (q ∷ ps)))

join_solid : (s : ℕ) (ps : List (List ℕ)) → AllByRecursion Solid ps → AllByRecursion (Low (rank s)) ps → LastFull ps → Solid (join_with_byte s ps)
join_solid s [] h low full = absurd full
join_solid s (p ∷ []) h low full = h.0
join_solid s (p ∷ q ∷ ps) h low full =
    solid_append s p (join_with_byte s (q ∷ ps)) h.0 (join_solid s (q ∷ ps) h.1 low.1 full) (join_full s (q ∷ ps) full) (Each-join (λ b. rank b ≤ rank s) s (q ∷ ps) (omega arith) low.1)

parts_last : (write : List Entry → List ℕ) (es : List Entry) (m count : ℕ) → 0 < length (write (those (m + count) es)) → LastFull (parts_from write es m (suc count))
parts_last write es m zero h = (let at : m + 0 ≡ m = omega arith in subst (λ (k : ℕ). 0 < length (write (those k es))) at h)
parts_last write es m (suc count) h = (let at : m + suc count ≡ (m + 1) + count = omega arith in parts_last write es (m + 1) count (subst (λ (k : ℕ). 0 < length (write (those k es))) at h))

-- ---- a level

pub record IsTight (n : ℕ) (write : List Entry → List ℕ) : Type 0 where
  pub solid : (es : List Entry) → Shape n es → Solid (write es)
  pub some : (es : List Entry) → Shape n es → 0 < length es → 0 < length (write es)

module _ (n s : ℕ) (write : List Entry → List ℕ) (is : IsTight n write) (low : (es : List Entry) → Shape n es → Low (rank s) (write es)) where
  each_solid : (es : List Entry) (m count : ℕ) → Shape (n + 1) es → AllByRecursion Solid (parts_from write es m count)
  each_solid es m zero h = tt
  each_solid es m (suc count) h = (is.solid (those m es) (shape-those n m es h), each_solid es (m + 1) count h)

  each_low : (es : List Entry) (m count : ℕ) → Shape (n + 1) es → AllByRecursion (Low (rank s)) (parts_from write es m count)
  each_low es m zero h = tt
  each_low es m (suc count) h = (low (those m es) (shape-those n m es h), each_low es (m + 1) count h)

  layer_last : (first : ℕ) (es : List Entry) → Shape (n + 1) es → From first es → 0 < length es → LastFull (parts_from write es first (last_number es + 1 - first))
  layer_last first es h from some =
      let le = from_last first es from some in
      let count : last_number es + 1 - first ≡ suc (last_number es - first) = omega (arith, le) in
      let at : first + (last_number es - first) ≡ last_number es = omega (arith, le) in
      let full : 0 < length (write (those (last_number es) es)) = is.some (those (last_number es) es) (shape-those n (last_number es) es h) (attained n es h some) in
      subst (λ (k : ℕ). LastFull (parts_from write es first k)) (sym count) (parts_last write es first (last_number es - first) (subst (λ (k : ℕ). 0 < length (write (those k es))) (sym at) full))

  pub layer_solid : (first : ℕ) (es : List Entry) → 0 < first → Shape (n + 1) es → From first es → Solid (layer write s first es)
  layer_solid first [] lt h from = (let none : 0 + 1 - first ≡ 0 = omega arith in subst (λ (k : ℕ). Solid (join_with_byte s (parts_from write [] first k))) (sym none) tt)
  layer_solid first (e ∷ es) lt h from =
      let ps = parts_from write (e ∷ es) first (last_number (e ∷ es) + 1 - first) in
      join_solid s ps (each_solid (e ∷ es) first _ h) (each_low (e ∷ es) first _ h) (layer_last first (e ∷ es) h from (omega arith))

  pub layer_some : (first : ℕ) (es : List Entry) → Shape (n + 1) es → From first es → 0 < length es → 0 < length (layer write s first es)
  layer_some first es h from some = join_full s (parts_from write es first (last_number es + 1 - first)) (layer_last first es h from some)

  pub layer_tight : IsTight (n + 1) (layer write s 1)
  layer_tight = record { solid = λ es h. layer_solid 1 es (omega arith) h (from_one n es h); some = λ es h some. layer_some 1 es h (from_one n es h) some }

span_tight : IsTight 0 leaf_text
span_tight = record {
  solid = λ es h. leaf_cases (λ o. Solid (unwrap_or o [])) IsText es (shape-texts 0 es h) tt (λ t is. solid_plain t (Each-weaker IsTextByte (λ b. rank b ≡ 0) rank_text t is.bytes));
  some = some;
}
  where
    here : (key text : List ℕ) (es : List Entry) → length key ≡ 0 → IsText text → 0 < length (leaf_text ((key, text) ∷ es))
    here [] text es len is = full text is.some
    here (k ∷ key) text es len is = absurd (omega arith)

    some : (es : List Entry) → Shape 0 es → 0 < length es → 0 < length (leaf_text es)
    some [] h lt = absurd (omega arith)
    some (e ∷ es) h lt = here e.0 e.1 es h.0.size h.0.text

component_tight : IsTight 1 component_text
component_tight = layer_tight 0 38 leaf_text span_tight (λ es h. leaf-each (λ b. rank b ≤ 1) (low_text 1) es (shape-texts 0 es h))

repetition_tight : IsTight 2 repetition_text
repetition_tight = layer_tight 1 94 component_text component_tight (λ es h. component-each (λ b. rank b ≤ 2) (omega arith) (low_text 2) es (shape-texts 1 es h))

field_tight : IsTight 3 field_text
field_tight = layer_tight 2 126 repetition_text repetition_tight (λ es h. repetition-each (λ b. rank b ≤ 3) (omega arith) (omega arith) (low_text 3) es (shape-texts 2 es h))

field_low : (es : List Entry) → Shape 3 es → Low 4 (field_text es)
field_low es h = field-each (λ b. rank b ≤ 4) (omega arith) (omega arith) (omega arith) (low_text 4) es (shape-texts 3 es h)

pub fields_solid : (first : ℕ) (es : List Entry) → 0 < first → Shape 4 es → From first es → Solid (fields_text first es)
fields_solid first es lt h from = layer_solid 3 124 field_text field_tight field_low first es lt h from

pub fields_some : (first : ℕ) (es : List Entry) → Shape 4 es → From first es → 0 < length es → 0 < length (fields_text first es)
fields_some first es h from some = layer_some 3 124 field_text field_tight field_low first es h from some

pub fields_low : (first : ℕ) (es : List Entry) → Shape 4 es → Low 4 (fields_text first es)
fields_low first es h = Each-join (λ b. rank b ≤ 4) 124 (parts_from field_text es first (last_number es + 1 - first)) (omega arith) (each_low 3 124 field_text field_tight field_low es first (last_number es + 1 - first) h)

pub shaped : (first : ℕ) (es : List Entry) → AllByRecursion (IsEntry first) es → Shape 4 es
shaped first es h =
    Each-weaker (IsEntry first) (IsShaped 4) (λ e is. record { size = is.key.four; positive = is.key.positive; text = canonical_text e.1 is.text is.some }) es h

pub from_first : (first : ℕ) (es : List Entry) → AllByRecursion (IsEntry first) es → From first es
from_first first es h = Each-weaker (IsEntry first) (λ e. first ≤ first_number e.0) (λ e is. is.key.field) es h

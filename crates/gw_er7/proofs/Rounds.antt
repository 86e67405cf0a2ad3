-- What was written is read again.
use Rattle.std.proofs.Common.{◌≡◌, ◌≢◌, ℕ, zero, suc, ◌+◌, ◌-◌, ◌<◌, ◌≤◌, true, false, cond, List, [], ◌∷◌, ◌++◌, length, Option, None, Some, refl, sym, ap, subst, ◌∙◌, arith, inl, inr}
use Rattle.std.specs.Prelude.{◌==◌, unwrap_or, slice_index_or, nat_lt, if◌then◌else◌}
use Rattle.std.proofs.lemmas.Bool.{cases_lt, eq-eqb, ne_eqb, lt-ltb, le-ltb}
use Rattle.std.proofs.lemmas.Bool.Decides.{nat_tests}
use Rattle.std.proofs.lemmas.List.Elements.{All-from_recursion}
use Rattle.std.proofs.lemmas.List.Splits.{slice_split_none, slice_split_at}
use Rattle.std.specs.List.{slice_split, join_with_byte, flat_map, All, AllByRecursion}
use Rattle.std.specs.FinMap as texts
use Rattle.gw_er7.specs.Text.{canon, standard, Item, Plain, Escape, spelled, IsItem, IsPlain, IsInRange, IsCanonical, escaped}
use Rattle.gw_er7.specs.Message.{numbers, SegmentValue, first_number, IsEntry}
use Rattle.gw_er7.specs.Reading.{raw_at, ReadsFields}
use Rattle.gw_er7.specs.Encoding.{Spells}
use Rattle.gw_er7.specs.Entries.{Entry, numbered, level}
use Rattle.gw_er7.specs.Written.{strip, those, last_number, parts_from, layer, leaf_text, component_text, repetition_text, field_text, fields_text}
use Rattle.gw_er7.proofs.Keys.{no_tie}
use Rattle.gw_er7.proofs.Fixed.{canonical_stays}
use Rattle.gw_er7.proofs.Levels.{look, look-numbered, look-place, level-empty, tie-cons}
use Rattle.gw_er7.proofs.Once.{found_kept}
use Rattle.gw_er7.proofs.Each.{Each-weaker}
pub use Rattle.gw_er7.proofs.Each.{Each-append}

-- this byte stands nowhere in the bytes
abbrev pub Lacks : ℕ → List ℕ → Type 0
Lacks byte bytes = AllByRecursion (λ b. b ≢ byte) bytes

-- a byte of a text: in range, and no separator
pub record IsTextByte (b : ℕ) : Type 0 where
  pub range : IsInRange b
  pub field : b ≢ 124
  pub repetition : b ≢ 126
  pub component : b ≢ 94
  pub subcomponent : b ≢ 38

-- a text that is not empty, and holds none of | ~ ^ &
pub record IsText (t : List ℕ) : Type 0 where
  pub some : t ≡ [] → ⊥
  pub bytes : AllByRecursion IsTextByte t

-- each text is such
abbrev pub Texts : (List ℕ → Type 0) → List Entry → Type 0
Texts P es = AllByRecursion (λ e. P e.1) es

-- ---- parts joined, and cut again

unmatched : (s : ℕ) (p : List ℕ) → Lacks s p → All (λ b. (b == s) ≡ false) p
unmatched s p h = All-from_recursion (λ b. (b == s) ≡ false) p (Each-weaker (λ b. b ≢ s) (λ b. (b == s) ≡ false) (λ b apart. ne_eqb b s apart) p h)

split-join : (s : ℕ) (p : List ℕ) (ps : List (List ℕ)) → AllByRecursion (Lacks s) (p ∷ ps) → slice_split (λ b. b == s) (join_with_byte s (p ∷ ps)) ≡ p ∷ ps
split-join s p [] h = slice_split_none (λ b. b == s) p (unmatched s p h.0)
split-join s p (q ∷ ps) h =
    slice_split_at (λ b. b == s) p s (join_with_byte s (q ∷ ps)) (unmatched s p h.0) (eq-eqb s s refl) ∙ ap (λ (xs : List (List ℕ)). p ∷ xs) (split-join s q ps h.1)

index-join : (s i : ℕ) (ps : List (List ℕ)) → AllByRecursion (Lacks s) ps → slice_index_or (slice_split (λ b. b == s) (join_with_byte s ps)) i [] ≡ slice_index_or ps i []
index-join s zero [] h = refl
index-join s (suc i) [] h = refl
index-join s i (p ∷ ps) h = ap (λ (xs : List (List ℕ)). slice_index_or xs i []) (split-join s p ps h)

-- ---- entries under a number

look-those : (n : ℕ) (key : List ℕ) (es : List Entry) → look (n ∷ key) es ≡ look key (those n es)
look-those n key [] = refl
look-those n key (e ∷ es) = look-strip n key e.0 e.1 es (look-those n key es)
  where
    look-strip : (n : ℕ) (key other text : List ℕ) (es : List Entry) → look (n ∷ key) es ≡ look key (those n es) → look (n ∷ key) ((other, text) ∷ es) ≡ look key (strip n other text ++ those n es)
    look-strip n key [] text es h = h
    look-strip n key (m ∷ other) text es h =
        let tied = tie-cons n m key other in
        let apart = no_tie (n ∷ key) (m ∷ other) in
        grind (arith, nat_tests)

those-past : (n : ℕ) (es : List Entry) → last_number es < n → those n es ≡ []
those-past n [] lt = refl
those-past n (e ∷ es) lt = rw (strip-past n e.0 e.1 (omega arith)) (those-past n es (omega arith))
  where
    strip-past : (n : ℕ) (key text : List ℕ) → first_number key < n → strip n key text ≡ []
    strip-past n [] text lt = refl
    strip-past n (m ∷ key) text lt = rw (ne_eqb m n (λ e. absurd (omega arith))) refl

part-at : (inner : List Entry → List ℕ) (es : List Entry) (m count i : ℕ) → i < count → slice_index_or (parts_from inner es m count) i [] ≡ inner (those (m + i) es)
part-at inner es m zero i lt = absurd (omega arith)
part-at inner es m (suc count) zero lt = (let at : m + 0 ≡ m = omega arith in rw at refl)
part-at inner es m (suc count) (suc i) lt = (let at : m + suc i ≡ (m + 1) + i = omega arith in rw at (part-at inner es (m + 1) count i (omega arith)))

part-past : (inner : List Entry → List ℕ) (es : List Entry) (m count i : ℕ) → count ≤ i → slice_index_or (parts_from inner es m count) i [] ≡ []
part-past inner es m zero i le = refl
part-past inner es m (suc count) zero le = absurd (omega arith)
part-past inner es m (suc count) (suc i) le = part-past inner es (m + 1) count i (omega arith)

pub Texts-those : (P : List ℕ → Type 0) (n : ℕ) (es : List Entry) → Texts P es → Texts P (those n es)
Texts-those P n [] h = tt
Texts-those P n (e ∷ es) h = Texts-strip P n e.0 e.1 (those n es) h.0 (Texts-those P n es h.1)
  where
    Texts-strip : (P : List ℕ → Type 0) (n : ℕ) (key text : List ℕ) (es : List Entry) → P text → Texts P es → Texts P (strip n key text ++ es)
    Texts-strip P n [] text es p h = h
    Texts-strip P n (m ∷ key) text es p h =
        elim (m == n) as (λ b. Texts P (cond b ((key, text) ∷ []) [] ++ es)) [ true ↦ (p, h) | false ↦ h ]

-- ---- one level

-- what a level writes lacks the separators of the levels above, and is read again
record IsAgain (P : List ℕ → Type 0) (read : List ℕ → List Entry) (write : List Entry → List ℕ) (n : ℕ) : Type 0 where
  pub empty : read [] ≡ []
  pub again : (es : List Entry) (key : List ℕ) → Texts P es → AllByRecursion (λ k. 0 < k) key → length key ≡ n → look key (read (write es)) ≡ look key es

parts-lack : (P : List ℕ → Type 0) (write : List Entry → List ℕ) (s : ℕ) → ((es : List Entry) → Texts P es → Lacks s (write es)) → (es : List Entry) (m count : ℕ) → Texts P es → AllByRecursion (Lacks s) (parts_from write es m count)
parts-lack P write s lacks es m zero texts = tt
parts-lack P write s lacks es m (suc count) texts = (lacks (those m es) (Texts-those P m es texts), parts-lack P write s lacks es (m + 1) count texts)

-- from the first number on
again-at : (P : List ℕ → Type 0) (read : List ℕ → List Entry) (write : List Entry → List ℕ) (n s first k : ℕ) (key : List ℕ) (es : List Entry) → IsAgain P read write n → ((es : List Entry) → Texts P es → Lacks s (write es)) → Texts P es
    → 0 < first → first ≤ k → AllByRecursion (λ j. 0 < j) key → length key ≡ n → look (k ∷ key) (numbered read first (slice_split (λ b. b == s) (layer write s first es))) ≡ look (k ∷ key) es
again-at P read write n s first k key es is lacks texts lt le positive len =
    let count = last_number es + 1 - first in
    let one = look-numbered read k first key (slice_split (λ b. b == s) (layer write s first es)) is.empty le in
    let cut = index-join s (k - first) (parts_from write es first count) (parts-lack P write s lacks es first count texts) in
    let two : look (k ∷ key) (numbered read first (slice_split (λ b. b == s) (layer write s first es))) ≡ look key (read (slice_index_or (parts_from write es first count) (k - first) [])) = one ∙ ap (λ (x : List ℕ). look key (read x)) cut in
    elim (cases_lt (k - first) count) as (λ _. look (k ∷ key) (numbered read first (slice_split (λ b. b == s) (layer write s first es))) ≡ look (k ∷ key) es) [
      | inl small ↦ (let at : first + (k - first) ≡ k = omega (arith, le) in
          two ∙ ap (λ (x : List ℕ). look key (read x)) (part-at write es first count (k - first) small ∙ ap (λ (i : ℕ). write (those i es)) at)
          ∙ is.again (those k es) key (Texts-those P k es texts) positive len ∙ sym (look-those k key es))
      | inr big ↦ two ∙ ap (λ (x : List ℕ). look key (read x)) (part-past write es first count (k - first) big) ∙ ap (look key) is.empty
          ∙ sym (look-those k key es ∙ ap (look key) (those-past k es (omega (arith, big, le))))
    ]

again-level : (P : List ℕ → Type 0) (read : List ℕ → List Entry) (write : List Entry → List ℕ) (n s : ℕ) → IsAgain P read write n → ((es : List Entry) → Texts P es → Lacks s (write es)) → IsAgain P (level read s) (layer write s 1) (n + 1)
again-level P read write n s is lacks = record {
  empty = level-empty read s is.empty;
  again = λ es key texts positive len. here es key texts positive len;
}
  where
    here : (es : List Entry) (key : List ℕ) → Texts P es → AllByRecursion (λ k. 0 < k) key → length key ≡ n + 1 → look key (level read s (layer write s 1 es)) ≡ look key es
    here es [] texts positive len = absurd (omega arith)
    here es (k ∷ key) texts positive len = again-at P read write n s 1 k key es is lacks texts (omega arith) (omega (arith, positive.0)) positive.1 (omega arith)

-- ---- each byte of a level

pub Each-join : (Q : ℕ → Type 0) (s : ℕ) (ps : List (List ℕ)) → Q s → AllByRecursion (AllByRecursion Q) ps → AllByRecursion Q (join_with_byte s ps)
Each-join Q s [] is h = tt
Each-join Q s (p ∷ []) is h = h.0
Each-join Q s (p ∷ q ∷ ps) is h = Each-append Q p (s ∷ join_with_byte s (q ∷ ps)) h.0 (is, Each-join Q s (q ∷ ps) is h.1)

Each-layer : (Q : ℕ → Type 0) (s first : ℕ) (P : List ℕ → Type 0) (write : List Entry → List ℕ) → Q s → ((es : List Entry) → Texts P es → AllByRecursion Q (write es)) → (es : List Entry) → Texts P es → AllByRecursion Q (layer write s first es)
Each-layer Q s first P write is each es texts = Each-join Q s (parts_from write es first (last_number es + 1 - first)) is (parts es first (last_number es + 1 - first) texts)
  where
    parts : (es : List Entry) (m count : ℕ) → Texts P es → AllByRecursion (AllByRecursion Q) (parts_from write es m count)
    parts es m zero texts = tt
    parts es m (suc count) texts = (each (those m es) (Texts-those P m es texts), parts es (m + 1) count texts)

-- the first entry with no number
pub leaf_cases : (Q : Option (List ℕ) → Type 0) (P : List ℕ → Type 0) (es : List Entry) → Texts P es → Q None → ((t : List ℕ) → P t → Q (Some t)) → Q (look [] es)
leaf_cases Q P [] texts none some = none
leaf_cases Q P (e ∷ es) texts none some = leaf_strip Q P e.0 e.1 es texts none some (leaf_cases Q P es texts.1 none some)
  where
    leaf_strip : (Q : Option (List ℕ) → Type 0) (P : List ℕ → Type 0) (key text : List ℕ) (es : List Entry) → Texts P ((key, text) ∷ es) → Q None → ((t : List ℕ) → P t → Q (Some t)) → Q (look [] es) → Q (look [] ((key, text) ∷ es))
    leaf_strip Q P [] text es texts none some rest = some text texts.0
    leaf_strip Q P (m ∷ key) text es texts none some rest = rest

pub leaf-each : (Q : ℕ → Type 0) → ((b : ℕ) → IsTextByte b → Q b) → (es : List Entry) → Texts IsText es → AllByRecursion Q (leaf_text es)
leaf-each Q to es texts = leaf_cases (λ o. AllByRecursion Q (unwrap_or o [])) IsText es texts tt (λ t is. Each-weaker IsTextByte Q to t is.bytes)

pub component-each : (Q : ℕ → Type 0) → Q 38 → ((b : ℕ) → IsTextByte b → Q b) → (es : List Entry) → Texts IsText es → AllByRecursion Q (component_text es)
component-each Q s to = Each-layer Q 38 1 IsText leaf_text s (leaf-each Q to)

pub repetition-each : (Q : ℕ → Type 0) → Q 38 → Q 94 → ((b : ℕ) → IsTextByte b → Q b) → (es : List Entry) → Texts IsText es → AllByRecursion Q (repetition_text es)
repetition-each Q s c to = Each-layer Q 94 1 IsText component_text c (component-each Q s to)

pub field-each : (Q : ℕ → Type 0) → Q 38 → Q 94 → Q 126 → ((b : ℕ) → IsTextByte b → Q b) → (es : List Entry) → Texts IsText es → AllByRecursion Q (field_text es)
field-each Q s c r to = Each-layer Q 126 1 IsText repetition_text r (repetition-each Q s c to)

pub fields-each : (Q : ℕ → Type 0) (first : ℕ) → Q 38 → Q 94 → Q 126 → Q 124 → ((b : ℕ) → IsTextByte b → Q b) → (es : List Entry) → Texts IsText es → AllByRecursion Q (fields_text first es)
fields-each Q first s c r f to = Each-layer Q 124 first IsText field_text f (field-each Q s c r to)

-- the entries of bytes whose raw values are kept as they are
abbrev raw_value : List ℕ → List Entry
raw_value [] = []
raw_value (b ∷ bs) = ([], b ∷ bs) ∷ []

value-raw : (raw : List ℕ) → unwrap_or (look [] (raw_value raw)) [] ≡ raw
value-raw [] = refl
value-raw (b ∷ bs) = refl

leaf-again : IsAgain IsText raw_value leaf_text 0
leaf-again = record { empty = refl; again = λ es key texts positive len. leaf es key texts len }
  where
    back : (t : List ℕ) → IsText t → look [] (raw_value t) ≡ Some t
    back [] is = absurd (is.some refl)
    back (b ∷ bs) is = refl

    leaf : (es : List Entry) (key : List ℕ) → Texts IsText es → length key ≡ 0 → look key (raw_value (leaf_text es)) ≡ look key es
    leaf es [] texts len = leaf_cases (λ o. look [] (raw_value (unwrap_or o [])) ≡ o) IsText es texts refl back
    leaf es (k ∷ key) texts len = absurd (omega arith)

component-again : IsAgain IsText (level raw_value 38) component_text 1
component-again = again-level IsText raw_value leaf_text 0 38 leaf-again (leaf-each (λ b. b ≢ 38) (λ b is. is.subcomponent))

repetition-again : IsAgain IsText (level (level raw_value 38) 94) repetition_text 2
repetition-again = again-level IsText (level raw_value 38) component_text 1 94 component-again (component-each (λ b. b ≢ 94) (λ e. absurd (omega arith)) (λ b is. is.component))

field-again : IsAgain IsText (level (level (level raw_value 38) 94) 126) field_text 3
field-again = again-level IsText (level (level raw_value 38) 94) repetition_text 2 126 repetition-again
    (repetition-each (λ b. b ≢ 126) (λ e. absurd (omega arith)) (λ e. absurd (omega arith)) (λ b is. is.repetition))

-- ---- the entries of a segment

plain_byte : (b : ℕ) → IsPlain b → IsTextByte b
plain_byte b is =
    let plain = is.not_special in
    record { range = is.range; field = λ e. grind (arith, nat_tests); repetition = λ e. grind (arith, nat_tests); component = λ e. grind (arith, nat_tests); subcomponent = λ e. grind (arith, nat_tests) }

escape_byte : IsTextByte 92
escape_byte = record { range = (omega arith, λ lt. absurd (omega arith)); field = λ e. absurd (omega arith); repetition = λ e. absurd (omega arith); component = λ e. absurd (omega arith); subcomponent = λ e. absurd (omega arith) }

pub text_bytes : (items : List Item) → AllByRecursion IsItem items → AllByRecursion IsTextByte (flat_map spelled items)
text_bytes [] h = tt
text_bytes (Plain b ∷ items) h = (plain_byte b h.0, text_bytes items h.1)
text_bytes (Escape body ∷ items) h =
    Each-append IsTextByte (escaped body) (flat_map spelled items) (escape_byte, Each-append IsTextByte body (92 ∷ []) (Each-weaker IsPlain IsTextByte plain_byte body h.0.1) (escape_byte, tt)) (text_bytes items h.1)

pub canonical_text : (t : List ℕ) → IsCanonical t → t ≢ [] → IsText t
canonical_text t is some = record { some = some; bytes = subst (λ (x : List ℕ). AllByRecursion IsTextByte x) (sym is.whole) (text_bytes is.items is.each) }

pub kept_texts : (first : ℕ) (es : List Entry) → AllByRecursion (IsEntry first) es → Texts IsText es
kept_texts first es h = Each-weaker (IsEntry first) (λ e. IsText e.1) (λ e is. canonical_text e.1 is.text is.some) es h

-- the raw values of what is written are the texts
pub written_spells : (first : ℕ) (s : SegmentValue) → 0 < first → AllByRecursion (IsEntry first) (texts.entries s.at) → Spells first (fields_text first (texts.entries s.at)) s
written_spells first s lt kept p is le =
    let es = texts.entries s.at in
    let bytes = fields_text first es in
    let again = again-at IsText (level (level (level raw_value 38) 94) 126) field_text 3 124 first p.field (p.rep ∷ p.comp ∷ p.sub ∷ []) es field-again
    (field-each (λ b. b ≢ 124) (λ e. absurd (omega arith)) (λ e. absurd (omega arith)) (λ e. absurd (omega arith)) (λ b is. is.field)) (kept_texts first es kept) lt le (is.1, (is.2, (is.3, tt))) refl in
    sym (ap (λ (o : Option (List ℕ)). unwrap_or o []) (look-place raw_value 124 126 94 38 first bytes p refl is le) ∙ value-raw (raw_at standard bytes (p.field + 1 - first) p))
    ∙ ap (λ (o : Option (List ℕ)). unwrap_or o []) (again ∙ sym (texts.get-entries s.at (numbers p)))

-- the fields that are written for a segment read as that segment
pub written_reads : (first : ℕ) (s : SegmentValue) → 0 < first → AllByRecursion (IsEntry first) (texts.entries s.at) → ReadsFields standard first (fields_text first (texts.entries s.at)) s
written_reads first s lt kept p is =
    let raw = raw_at standard (fields_text first (texts.entries s.at)) (p.field + 1 - first) p in
    elim (cases_lt p.field first) as (λ _. unwrap_or (texts.get s.at (numbers p)) [] ≡ (if nat_lt p.field first then [] else canon standard raw)) [
      | inl low ↦ (let below : nat_lt p.field first ≡ true = lt-ltb _ _ low in rw below (none low (texts.get s.at (numbers p)) refl))
      | inr le ↦ (let above : nat_lt p.field first ≡ false = le-ltb _ _ le in
          rw above (sym (ap (canon standard) (written_spells first s lt kept p is le) ∙ stays (texts.get s.at (numbers p)) refl)))
    ]
  where
    kept_at : (t : List ℕ) → texts.get s.at (numbers p) ≡ Some t → IsEntry first (numbers p, t)
    kept_at t e = found_kept first (numbers p) t (texts.entries s.at) kept (sym (texts.get-entries s.at (numbers p)) ∙ e)

    none : p.field < first → (o : Option (List ℕ)) → texts.get s.at (numbers p) ≡ o → unwrap_or o [] ≡ []
    none low None e = refl
    none low (Some t) e = absurd (let le = (kept_at t e).key.field in omega (arith, low, le))

    stays : (o : Option (List ℕ)) → texts.get s.at (numbers p) ≡ o → canon standard (unwrap_or o []) ≡ unwrap_or o []
    stays None e = refl
    stays (Some t) e = canonical_stays t (kept_at t e).text

-- What the entries of a level hold at a number is what the part of that number holds.
use Rattle.std.proofs.Common.{◌≡◌, ◌≢◌, ℕ, suc, ◌+◌, ◌-◌, ◌<◌, ◌≤◌, true, false, cond, List, [], ◌∷◌, ◌++◌, map, Option, None, Some, refl, sym, ap, ◌∙◌, arith, inl, inr}
use Rattle.std.specs.Ordering.{nat_cmp, eq_by_cmp, is_eq}
use Rattle.std.specs.Cmp.Lexicographic.{slice_cmp}
use Rattle.std.specs.Prelude.{◌==◌, unwrap_or, slice_index_or, nat_lt, if◌then◌else◌}
use Rattle.std.proofs.lemmas.Bool.{cases_eq, cases_lt, lt-ltb, le-ltb}
use Rattle.std.specs.List.{slice_split}
use Rattle.std.specs.FinMap as texts
use Rattle.std.specs.FinMap.{find, get-from_sorted}
use Rattle.gw_er7.proofs.Sorted.{cmp-same, sorted-fields}
use Rattle.gw_er7.specs.declared.delimiters.Delimiters.{Delimiters}
use Rattle.gw_er7.specs.declared.place.Place.{Place}
use Rattle.gw_er7.specs.Text.{canon}
use Rattle.gw_er7.specs.Reading.{part, raw_at, ReadsFields}
use Rattle.gw_er7.specs.Message.{numbers, IsPlace}
use Rattle.gw_er7.specs.Entries.{Entry, under, numbered, level, value, repetitions, fields}
use Rattle.gw_er7.proofs.Keys.{no_tie}

abbrev pub look : List ℕ → List Entry → Option (List ℕ)
look key es = find (slice_cmp nat_cmp) key es

-- a test of two keys behind their first numbers
pub tie-cons : (n m : ℕ) (key other : List ℕ) → n ≡ m → eq_by_cmp (slice_cmp nat_cmp) (n ∷ key) (m ∷ other) ≡ eq_by_cmp (slice_cmp nat_cmp) key other
tie-cons n m key other e = ap (λ (k : ℕ). eq_by_cmp (slice_cmp nat_cmp) (n ∷ key) (k ∷ other)) (sym e) ∙ ap is_eq (cmp-same n key other)

-- entries under the number n, and after them others
look-same : (n : ℕ) (key : List ℕ) (es rest : List Entry) → look (n ∷ key) rest ≡ None → look (n ∷ key) (map (under n) es ++ rest) ≡ look key es
look-same n key [] rest none = none
look-same n key (e ∷ es) rest none =
    rw (tie-cons n n key e.0 refl) (ap (λ (o : Option (List ℕ)). cond (eq_by_cmp (slice_cmp nat_cmp) key e.0) (Some e.1) o) (look-same n key es rest none))

-- entries under another number
look-other : (n m : ℕ) (key : List ℕ) (es rest : List Entry) → n ≢ m → look (n ∷ key) (map (under m) es ++ rest) ≡ look (n ∷ key) rest
look-other n m key [] rest apart = refl
look-other n m key (e ∷ es) rest apart =
    rw (no_tie (n ∷ key) (m ∷ e.0) (λ is. apart (let same : n ∷ key ≡ m ∷ e.0 = is in cc))) (look-other n m key es rest apart)

-- no entry has a lower number than the first
look-below : (inner : List ℕ → List Entry) (n m : ℕ) (key : List ℕ) (ps : List (List ℕ)) → n < m → look (n ∷ key) (numbered inner m ps) ≡ None
look-below inner n m key [] lt = refl
look-below inner n m key (p ∷ ps) lt =
    look-other n m key (inner p) (numbered inner (m + 1) ps) (λ e. absurd (omega arith)) ∙ look-below inner n (m + 1) key ps (omega arith)

pub look-numbered : (inner : List ℕ → List Entry) (n m : ℕ) (key : List ℕ) (ps : List (List ℕ)) → inner [] ≡ [] → m ≤ n → look (n ∷ key) (numbered inner m ps) ≡ look key (inner (slice_index_or ps (n - m) []))
look-numbered inner n m key [] empty le = sym (ap (look key) empty)
look-numbered inner n m key (p ∷ ps) empty le =
    elim (cases_eq n m) as (λ _. look (n ∷ key) (numbered inner m (p ∷ ps)) ≡ look key (inner (slice_index_or (p ∷ ps) (n - m) []))) [
      | inl e ↦ (let at : n - m ≡ 0 = omega arith in
          rw (at, ← e) (look-same n key (inner p) (numbered inner (n + 1) ps) (look-below inner n (n + 1) key ps (omega arith))))
      | inr apart ↦ (let at : n - m ≡ suc (n - (m + 1)) = omega arith in
          rw at (look-other n m key (inner p) (numbered inner (m + 1) ps) apart ∙ look-numbered inner n (m + 1) key ps empty (omega arith)))
    ]

look-level : (inner : List ℕ → List Entry) (separator n : ℕ) (key bytes : List ℕ) → inner [] ≡ [] → 0 < n → look (n ∷ key) (level inner separator bytes) ≡ look key (inner (part separator n bytes))
look-level inner separator n key bytes empty lt = look-numbered inner n 1 key (slice_split (λ b. b == separator) bytes) empty (omega arith)

value-text : (d : Delimiters) (raw : List ℕ) → unwrap_or (look [] (value d raw)) [] ≡ canon d raw
value-text d [] = refl
value-text d (b ∷ bs) = refl

pub level-empty : (inner : List ℕ → List Entry) (separator : ℕ) → inner [] ≡ [] → level inner separator [] ≡ []
level-empty inner separator empty = ap (λ (es : List Entry). map (under 1) es ++ []) empty

-- what is read at a place of fields that are cut at f, r, c and s is what is read of the raw value there
pub look-place : (read : List ℕ → List Entry) (f r c s first : ℕ) (bytes : List ℕ) (p : Place) → read [] ≡ [] → IsPlace p → first ≤ p.field
    → look (numbers p) (numbered (level (level (level read s) c) r) first (slice_split (λ b. b == f) bytes))
    ≡ look [] (read (part s p.sub (part c p.comp (part r p.rep (part f (p.field + 1 - first) bytes)))))
look-place read f r c s first bytes p empty is le =
    let subs = level read s in
    let comps = level subs c in
    let subs_empty = level-empty read s empty in
    let comps_empty = level-empty subs c subs_empty in
    let field = part f (p.field + 1 - first) bytes in
    let rep = part r p.rep field in
    let at : p.field - first ≡ p.field + 1 - first - 1 = omega (arith, le) in
    look-numbered (level comps r) p.field first (p.rep ∷ p.comp ∷ p.sub ∷ []) (slice_split (λ b. b == f) bytes) (level-empty comps r comps_empty) le
    ∙ ap (λ (n : ℕ). look (p.rep ∷ p.comp ∷ p.sub ∷ []) (level comps r (slice_index_or (slice_split (λ b. b == f) bytes) n []))) at
    ∙ look-level comps r p.rep (p.comp ∷ p.sub ∷ []) field comps_empty is.1
    ∙ look-level subs c p.comp (p.sub ∷ []) rep subs_empty is.2
    ∙ look-level read s p.sub [] (part c p.comp rep) empty is.3

-- what the entries of the fields hold at a place
look-fields : (d : Delimiters) (first : ℕ) (bytes : List ℕ) (p : Place) → IsPlace p
    → unwrap_or (look (numbers p) (fields d first bytes)) [] ≡ (if nat_lt p.field first then [] else canon d (raw_at d bytes (p.field + 1 - first) p))
look-fields d first bytes p is =
    elim (cases_lt p.field first) as (λ _. unwrap_or (look (numbers p) (fields d first bytes)) [] ≡ (if nat_lt p.field first then [] else canon d (raw_at d bytes (p.field + 1 - first) p))) [
      | inl lt ↦ (let below : nat_lt p.field first ≡ true = lt-ltb _ _ lt in
          rw below (ap (λ (o : Option (List ℕ)). unwrap_or o []) (look-below (repetitions d) p.field first (p.rep ∷ p.comp ∷ p.sub ∷ []) (slice_split (λ b. b == d.field) bytes) lt)))
      | inr le ↦ (let above : nat_lt p.field first ≡ false = le-ltb _ _ le in
          rw above (ap (λ (o : Option (List ℕ)). unwrap_or o []) (look-place (value d) d.field d.repetition d.component d.subcomponent first bytes p refl is le) ∙ value-text d (raw_at d bytes (p.field + 1 - first) p)))
    ]

-- a segment that holds these entries reads the fields
pub reads_fields : (d : Delimiters) (first : ℕ) (bytes name : List ℕ) → ReadsFields d first bytes (record { name = name; at = texts.from_sorted {R = slice_cmp nat_cmp} (fields d first bytes) })
reads_fields d first bytes name p is = ap (λ (o : Option (List ℕ)). unwrap_or o []) (get-from_sorted (slice_cmp nat_cmp) (fields d first bytes) (numbers p) (sorted-fields d first bytes)) ∙ look-fields d first bytes p is

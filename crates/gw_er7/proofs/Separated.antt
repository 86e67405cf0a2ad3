-- What is left of a segment's fields at a place: the entries of the bytes there, and of those behind each separator.
use Rattle.std.proofs.Common.{◌≡◌, ℕ, suc, ◌+◌, ◌<◌, ◌≤◌, Bool, true, false, cond, List, [], ◌∷◌, ◌++◌, length, get_or, take, drop, map, None, Some, refl, sym, ap, subst, ◌∙◌, append_assoc, append-nil, arith}
use Rattle.std.specs.Prelude.{◌==◌, ◌||◌, position}
use Rattle.std.specs.List.{slice_split, onto_first, position_or_len, All}
use Rattle.std.proofs.lemmas.List.{take-append-drop, drop_more, get_or-take, length-take, length-append, map-append}
use Rattle.std.proofs.lemmas.List.Elements.{All-from_get_or}
use Rattle.std.proofs.lemmas.List.Quantifiers.{position-Some}
use Rattle.std.proofs.lemmas.List.Sums.{fails_before_first}
use Rattle.std.proofs.lemmas.Grind.{common_steps}
use Rattle.std.proofs.lemmas.List.Splits.{slice_split_none, slice_split_at}
use Rattle.gw_er7.specs.declared.delimiters.Delimiters.{Delimiters}
use Rattle.gw_er7.specs.Text.{canon}
use Rattle.gw_er7.specs.Entries.{Entry, under, numbered, level, value, fields}
use Rattle.gw_er7.specs.own.Separators.{separators, is_separator, next_numbers, value_at, IsClear, IsLastValue, IsNextValue}

-- the entries of bytes that are cut at these separators, the highest first
abbrev pub entries_at : Delimiters → List ℕ → List ℕ → List Entry
entries_at d [] bytes = value d bytes
entries_at d (t ∷ ts) bytes = level (entries_at d ts) t bytes

abbrev head : List (List ℕ) → List ℕ
head [] = []
head (p ∷ ps) = p

abbrev tail : List (List ℕ) → List (List ℕ)
tail [] = []
tail (p ∷ ps) = ps

abbrev cut : ℕ → List ℕ → List (List ℕ)
cut t bytes = slice_split (λ b. b == t) bytes

-- the entries from a place on, where these bytes begin
abbrev pub rest : Delimiters → List ℕ → List ℕ → List ℕ → List Entry
rest d [] ns bytes = value d bytes
rest d (t ∷ ts) [] bytes = []
rest d (t ∷ ts) (n ∷ ns) bytes = map (under n) (rest d ts ns (head (cut t bytes))) ++ numbered (entries_at d ts) (n + 1) (tail (cut t bytes))

-- ---- cutting

cut_some : (t : ℕ) (bytes : List ℕ) → cut t bytes ≡ head (cut t bytes) ∷ tail (cut t bytes)
cut_some t [] = refl
cut_some t (b ∷ bs) = by (b == t) (cut t bs) (cut_some t bs)
  where
    by : (v : Bool) (ps : List (List ℕ)) → ps ≡ head ps ∷ tail ps → cond v ([] ∷ ps) (onto_first b ps) ≡ head (cond v ([] ∷ ps) (onto_first b ps)) ∷ tail (cond v ([] ∷ ps) (onto_first b ps))
    by true ps e = refl
    by false [] e = absurd (let z : ⊥ = cc in z)
    by false (p ∷ ps) e = refl

-- bytes before the first separator go with those behind it where it is another one
cut_through : (t : ℕ) (bytes more : List ℕ) → All (λ b. (b == t) ≡ false) bytes → cut t (bytes ++ more) ≡ (bytes ++ head (cut t more)) ∷ tail (cut t more)
cut_through t [] more none = cut_some t more
cut_through t (b ∷ bs) more none = rw (none 0 b (omega arith)) (ap (onto_first b) (cut_through t bs more (λ k d lt. none (suc k) d (omega arith))))

-- ---- which bytes are separators

both_false : (a b : Bool) → (a || b) ≡ false → (a ≡ false) × (b ≡ false)
both_false true b e = absurd (let z : ⊥ = cc in z)
both_false false b e = (refl, e)

not_this : (t : ℕ) (ts bytes : List ℕ) → IsClear (t ∷ ts) bytes → All (λ b. (b == t) ≡ false) bytes
not_this t ts bytes clear k d lt = (both_false (get_or bytes k d == t) (is_separator ts (get_or bytes k d)) (clear k d lt)).0

not_those : (t : ℕ) (ts bytes : List ℕ) → IsClear (t ∷ ts) bytes → IsClear ts bytes
not_those t ts bytes clear k d lt = (both_false (get_or bytes k d == t) (is_separator ts (get_or bytes k d)) (clear k d lt)).1

-- ---- one level at a time

under_value : (d : Delimiters) (n : ℕ) (ns raw : List ℕ) → map (under n) (value_at d ns raw) ≡ value_at d (n ∷ ns) raw
under_value d n ns [] = refl
under_value d n ns (b ∷ bs) = refl

numbered_by : (d : Delimiters) (t n : ℕ) (ts bytes : List ℕ) → rest d ts (map (λ t. 1) ts) (head (cut t bytes)) ≡ entries_at d ts (head (cut t bytes)) → rest d (t ∷ ts) (n ∷ map (λ t. 1) ts) bytes ≡ numbered (entries_at d ts) n (cut t bytes)
numbered_by d t n ts bytes e = ap (λ es. map (under n) es ++ numbered (entries_at d ts) (n + 1) (tail (cut t bytes))) e ∙ ap (numbered (entries_at d ts) n) (sym (cut_some t bytes))

-- from the first numbers on stands all of it
from_first : (d : Delimiters) (ts bytes : List ℕ) → rest d ts (map (λ t. 1) ts) bytes ≡ entries_at d ts bytes
from_first d [] bytes = refl
from_first d (t ∷ ts) bytes = numbered_by d t 1 ts bytes (from_first d ts (head (cut t bytes)))

numbered_from : (d : Delimiters) (t n : ℕ) (ts bytes : List ℕ) → rest d (t ∷ ts) (n ∷ map (λ t. 1) ts) bytes ≡ numbered (entries_at d ts) n (cut t bytes)
numbered_from d t n ts bytes = numbered_by d t n ts bytes (from_first d ts (head (cut t bytes)))

-- and of a segment's fields the entries of all
pub rest_first : (d : Delimiters) (first : ℕ) (bytes : List ℕ) → rest d (separators d) (first ∷ 1 ∷ 1 ∷ 1 ∷ []) bytes ≡ fields d first bytes
rest_first d first bytes = numbered_from d d.field first (d.repetition ∷ d.component ∷ d.subcomponent ∷ []) bytes

-- bytes without a separator are one value
last_value : (d : Delimiters) (ts ns bytes : List ℕ) → length ns ≡ length ts → IsClear ts bytes → rest d ts ns bytes ≡ value_at d ns bytes
last_value d [] [] [] len clear = refl
last_value d [] [] (b ∷ bs) len clear = refl
last_value d [] (n ∷ ns) bytes len clear = absurd (omega arith)
last_value d (t ∷ ts) [] bytes len clear = absurd (omega arith)
last_value d (t ∷ ts) (n ∷ ns) bytes len clear =
    ap (λ ps. map (under n) (rest d ts ns (head ps)) ++ numbered (entries_at d ts) (n + 1) (tail ps)) (slice_split_none (λ b. b == t) bytes (not_this t ts bytes clear))
    ∙ append-nil (map (under n) (rest d ts ns bytes))
    ∙ ap (map (under n)) (last_value d ts ns bytes (omega arith) (not_those t ts bytes clear)) ∙ under_value d n ns bytes

-- and behind a separator it goes on at the next place
next_value : (d : Delimiters) (ts ns bytes : List ℕ) (s : ℕ) (behind : List ℕ) → length ns ≡ length ts → IsClear ts bytes → is_separator ts s ≡ true
    → rest d ts ns (bytes ++ s ∷ behind) ≡ value_at d ns bytes ++ rest d ts (next_numbers ts ns s) behind
next_value d [] ns bytes s behind len clear is = absurd (let z : ⊥ = cc in z)
next_value d (t ∷ ts) [] bytes s behind len clear is = absurd (omega arith)
next_value d (t ∷ ts) (n ∷ ns) bytes s behind len clear is =
    elim (s == t) as (λ v. (s == t) ≡ v → (v || is_separator ts s) ≡ true → rest d (t ∷ ts) (n ∷ ns) (bytes ++ s ∷ behind) ≡ value_at d (n ∷ ns) bytes ++ rest d (t ∷ ts) (cond v ((n + 1) ∷ map (λ t. 1) ts) (n ∷ next_numbers ts ns s)) behind) [
      | true ↦ λ e _. here e
      | false ↦ λ e lower. through e (next_value d ts ns bytes s (head (cut t behind)) (omega arith) (not_those t ts bytes clear) lower)
    ] refl is
  where
    here : (s == t) ≡ true → rest d (t ∷ ts) (n ∷ ns) (bytes ++ s ∷ behind) ≡ value_at d (n ∷ ns) bytes ++ rest d (t ∷ ts) ((n + 1) ∷ map (λ t. 1) ts) behind
    here e =
        ap (λ ps. map (under n) (rest d ts ns (head ps)) ++ numbered (entries_at d ts) (n + 1) (tail ps)) (slice_split_at (λ b. b == t) bytes s behind (not_this t ts bytes clear) e)
        ∙ ap (λ es. map (under n) es ++ numbered (entries_at d ts) (n + 1) (cut t behind)) (last_value d ts ns bytes (omega arith) (not_those t ts bytes clear))
        ∙ ap (λ es. es ++ numbered (entries_at d ts) (n + 1) (cut t behind)) (under_value d n ns bytes)
        ∙ ap (λ es. value_at d (n ∷ ns) bytes ++ es) (sym (numbered_from d t (n + 1) ts behind))

    through : (s == t) ≡ false → rest d ts ns (bytes ++ s ∷ head (cut t behind)) ≡ value_at d ns bytes ++ rest d ts (next_numbers ts ns s) (head (cut t behind)) → rest d (t ∷ ts) (n ∷ ns) (bytes ++ s ∷ behind) ≡ value_at d (n ∷ ns) bytes ++ rest d (t ∷ ts) (n ∷ next_numbers ts ns s) behind
    through e inner =
        let one : cut t (s ∷ behind) ≡ (s ∷ head (cut t behind)) ∷ tail (cut t behind) = cut_through t (s ∷ []) behind (λ k x lt. alone k x lt) in
        let whole : cut t (bytes ++ s ∷ behind) ≡ (bytes ++ s ∷ head (cut t behind)) ∷ tail (cut t behind) =
        cut_through t bytes (s ∷ behind) (not_this t ts bytes clear) ∙ ap (λ ps. (bytes ++ head ps) ∷ tail ps) one in
        let later = numbered (entries_at d ts) (n + 1) (tail (cut t behind)) in
        let more = rest d ts (next_numbers ts ns s) (head (cut t behind)) in
        ap (λ ps. map (under n) (rest d ts ns (head ps)) ++ numbered (entries_at d ts) (n + 1) (tail ps)) whole
        ∙ ap (λ es. map (under n) es ++ later) inner
        ∙ ap (λ es. es ++ later) (map-append (under n) (value_at d ns bytes) more ∙ ap (λ es. es ++ map (under n) more) (under_value d n ns bytes))
        ∙ append_assoc (value_at d (n ∷ ns) bytes) (map (under n) more) later
      where
        alone : (k x : ℕ) → k < 1 → (get_or (s ∷ []) k x == t) ≡ false
        alone k x lt = let z : k ≡ 0 = omega arith in subst (λ j. (get_or (s ∷ []) j x == t) ≡ false) (sym z) e

-- ---- a segment's fields

pub value_last : (d : Delimiters) (f r c s : ℕ) (bytes raw : List ℕ) (out new target : List Entry) → IsLastValue (separators d) bytes raw → out ++ rest d (separators d) (f ∷ r ∷ c ∷ s ∷ []) bytes ≡ target
    → new ≡ out ++ value_at d (f ∷ r ∷ c ∷ s ∷ []) raw → new ≡ target
value_last d f r c s bytes raw out new target is h e =
    e ∙ ap (λ es. out ++ es) (sym (last_value d (separators d) (f ∷ r ∷ c ∷ s ∷ []) raw refl is.clear)) ∙ ap (λ b. out ++ rest d (separators d) (f ∷ r ∷ c ∷ s ∷ []) b) (sym is.whole) ∙ h

pub value_taken : (d : Delimiters) (f r c s : ℕ) (ns bytes raw : List ℕ) (b : ℕ) (behind : List ℕ) (out new target : List Entry) → IsNextValue (separators d) bytes raw b behind → ns ≡ next_numbers (separators d) (f ∷ r ∷ c ∷ s ∷ []) b
    → out ++ rest d (separators d) (f ∷ r ∷ c ∷ s ∷ []) bytes ≡ target → new ≡ out ++ value_at d (f ∷ r ∷ c ∷ s ∷ []) raw → new ++ rest d (separators d) ns behind ≡ target
value_taken d f r c s ns bytes raw b behind out new target is at h e =
    let here = value_at d (f ∷ r ∷ c ∷ s ∷ []) raw in
    ap (λ es. es ++ rest d (separators d) ns behind) e ∙ append_assoc out here (rest d (separators d) ns behind) ∙ ap (λ ms. out ++ (here ++ rest d (separators d) ms behind)) at
    ∙ ap (λ es. out ++ es) (sym (next_value d (separators d) (f ∷ r ∷ c ∷ s ∷ []) raw b behind refl is.clear is.separates)) ∙ ap (λ x. out ++ rest d (separators d) (f ∷ r ∷ c ∷ s ∷ []) x) (sym is.whole) ∙ h

pub some_value : (d : Delimiters) (ns raw : List ℕ) → 0 < length raw → value_at d ns raw ≡ (ns, canon d raw) ∷ []
some_value d ns [] lt = absurd (omega arith)
some_value d ns (b ∷ bs) lt = refl

-- ---- the first separator

pub found_none : (p : ℕ → Bool) (bytes : List ℕ) → position p bytes ≡ None → All (λ b. p b ≡ false) bytes
found_none p bytes e =
    let all : length bytes ≤ position_or_len p bytes = grind (arith, common_steps) in
    All-from_get_or (λ b. p b ≡ false) bytes 0 (λ i lt. fails_before_first p bytes i 0 (omega arith))

pub found_before : (p : ℕ → Bool) (bytes : List ℕ) (k : ℕ) → position p bytes ≡ Some k → All (λ b. p b ≡ false) (take k bytes)
found_before p bytes k e =
    let at = position-Some p bytes k 0 e in
    All-from_get_or (λ b. p b ≡ false) (take k bytes) 0 (λ i lt. (let small : i < k = omega (arith, length-take k bytes) in subst (λ b. p b ≡ false) (sym (get_or-take k bytes i 0 small)) (at.2 i small)))

pub found_whole : (p : ℕ → Bool) (bytes : List ℕ) (k : ℕ) → position p bytes ≡ Some k → bytes ≡ take k bytes ++ get_or bytes k 0 ∷ drop (k + 1) bytes
found_whole p bytes k e = (let at = position-Some p bytes k 0 e in sym (take-append-drop k bytes) ∙ ap (λ x. take k bytes ++ x) (drop_more bytes k 0 at.0))

pub later_less : (ts bytes raw : List ℕ) (b : ℕ) (behind : List ℕ) → IsNextValue ts bytes raw b behind → length behind < length bytes
later_less ts bytes raw b behind is = omega (arith, ap length is.whole, length-append raw (b ∷ behind))

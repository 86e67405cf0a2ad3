-- FS CR as a needle.
use Rattle.std.proofs.Common.{◌≡◌, ℕ, zero, suc, ◌+◌, ◌-◌, ◌<◌, ◌≤◌, true, List, [], ◌∷◌, ◌++◌, length, get_or, take, drop, Option, None, Some, refl, sym, ap, subst, ◌∙◌, append_assoc, arith, inl, inr}
use Rattle.std.proofs.lemmas.Bool.{cases_lt, eqb-true}
use Rattle.std.proofs.lemmas.List.{length-append, length-take, length-drop, take_rest, get_or-append-add, get_or-drop, take-append-drop, drop_more}
use Rattle.std.specs.Prelude.{option_map}
use Rattle.memchr.specs.Find.{OccursAt, FindsNeedle, IsFirst, IsFirstByte, NoneBefore, Nowhere, Passes, is_byte}
use Rattle.gw_mllp.specs.Stream.{HasNoEnd}

stands_at : (bytes before after : List ℕ) → bytes ≡ before ++ 28 ∷ 13 ∷ after → OccursAt bytes (28 ∷ 13 ∷ []) (length before)
stands_at bytes before after e = record {
  fits = omega (arith, ap length e, length-append before (28 ∷ 13 ∷ after));
  reads = λ j lt. ap (λ (s : List ℕ). get_or s (length before + j) 0) e ∙ get_or-append-add before (28 ∷ 13 ∷ after) j 0 ∙ reads_two j lt;
}
  where
    reads_two : (j : ℕ) → j < 2 → get_or (28 ∷ 13 ∷ after) j 0 ≡ get_or (28 ∷ 13 ∷ []) j 0
    reads_two zero lt = refl
    reads_two (suc zero) lt = refl
    reads_two (suc (suc j)) lt = absurd (omega arith)

pub cut_at : (bytes : List ℕ) (k : ℕ) → OccursAt bytes (28 ∷ 13 ∷ []) k → bytes ≡ take k bytes ++ 28 ∷ 13 ∷ drop ((k + 1) + 1) bytes
cut_at bytes k occurs =
    let fits : k + 2 ≤ length bytes = occurs.fits in
    let first : k < length bytes = omega arith in
    let second : k + 1 < length bytes = omega arith in
    let fs : get_or bytes (k + 0) 0 ≡ 28 = occurs.reads 0 (omega arith) in
    let cr : get_or bytes (k + 1) 0 ≡ 13 = occurs.reads 1 (omega arith) in
    let at : k + 0 ≡ k = omega arith in
    let one : drop k bytes ≡ 28 ∷ drop (k + 1) bytes = drop_more bytes k 0 first ∙ ap (λ (b : ℕ). b ∷ drop (k + 1) bytes) (ap (λ (i : ℕ). get_or bytes i 0) (sym at) ∙ fs) in
    let two : drop (k + 1) bytes ≡ 13 ∷ drop ((k + 1) + 1) bytes = drop_more bytes (k + 1) 0 second ∙ ap (λ (b : ℕ). b ∷ drop ((k + 1) + 1) bytes) cr in
    sym (take-append-drop k bytes) ∙ ap (λ (s : List ℕ). take k bytes ++ s) (one ∙ ap (λ (s : List ℕ). 28 ∷ s) two)

pub no_end_from_find : (bytes : List ℕ) (found : Option ℕ) → FindsNeedle bytes (28 ∷ 13 ∷ []) 0 found → found ≡ None → HasNoEnd bytes
no_end_from_find bytes None h e = λ before after is. h (length before) (omega arith) (omega (arith, ap length is, length-append before (28 ∷ 13 ∷ after))) (stands_at bytes before after is)
no_end_from_find bytes (Some k) h e = absurd cc

pub find_from_no_end : (bytes : List ℕ) (found : Option ℕ) → FindsNeedle bytes (28 ∷ 13 ∷ []) 0 found → HasNoEnd bytes → found ≡ None
find_from_no_end bytes None h no_end = refl
find_from_no_end bytes (Some k) h no_end = absurd (no_end (take k bytes) (drop ((k + 1) + 1) bytes) (cut_at bytes k h.1))

-- the bytes before the first FS CR
pub no_end_before : (bytes : List ℕ) (k : ℕ) → FindsNeedle bytes (28 ∷ 13 ∷ []) 0 (Some k) → HasNoEnd (take k bytes)
no_end_before bytes k found before after e =
    let whole : bytes ≡ before ++ 28 ∷ 13 ∷ (after ++ drop k bytes) = sym (take-append-drop k bytes) ∙ ap (λ (x : List ℕ). x ++ drop k bytes) e ∙ append_assoc before (28 ∷ 13 ∷ after) (drop k bytes) in
    let n : length (take k bytes) ≤ k = omega (arith, length-take k bytes) in
    found.0.before (length before) (omega arith) (omega (arith, n, ap length e, length-append before (28 ∷ 13 ∷ after))) (stands_at bytes before (after ++ drop k bytes) whole)

-- ---- the first FS from an index on

abbrev pub IsFs : List ℕ → ℕ → Type 0
IsFs = Passes (is_byte 28)

-- an index of what is left, among all bytes
is_there : (bytes : List ℕ) (from k : ℕ) → IsFs (drop from bytes) k ≡ IsFs bytes (from + k)
is_there bytes from k = ap (λ (b : ℕ). is_byte 28 b ≡ true) (get_or-drop from bytes k 0)

none_there : (bytes : List ℕ) (from : ℕ) → Nowhere (IsFs (drop from bytes)) 0 (length (drop from bytes)) → Nowhere (IsFs bytes) from (length bytes)
none_there bytes from none k low high is =
    let at : from + (k - from) ≡ k = omega arith in
    none (k - from) (omega arith) (omega (arith, length-drop from bytes)) (subst (λ (t : Type 0). t) (sym (is_there bytes from (k - from))) (subst (IsFs bytes) (sym at) is))

first_there : (bytes : List ℕ) (from at : ℕ) → NoneBefore (IsFs (drop from bytes)) 0 (length (drop from bytes)) at × IsFs (drop from bytes) at
    → NoneBefore (IsFs bytes) from (length bytes) (from + at) × IsFs bytes (from + at)
first_there bytes from at h = (
  record {
    low = omega arith;
    high = omega (arith, h.0.high, length-drop from bytes);
    before = λ k low high is.
        let there : from + (k - from) ≡ k = omega arith in
        h.0.before (k - from) (omega arith) (omega arith) (subst (λ (t : Type 0). t) (sym (is_there bytes from (k - from))) (subst (IsFs bytes) (sym there) is));
  },
  subst (λ (t : Type 0). t) (is_there bytes from at) h.1,
)

-- the first FS of what is left
pub fs_there : (bytes : List ℕ) (from : ℕ) (found : Option ℕ) → IsFirstByte (is_byte 28) (take (length bytes - from) (drop from bytes)) found
    → IsFirst (IsFs bytes) from (length bytes) (option_map (λ at. from + at) found)
fs_there bytes from None h = none_there bytes from (subst (λ (rest : List ℕ). Nowhere (IsFs rest) 0 (length rest)) (take_rest bytes from) h)
fs_there bytes from (Some at) h = first_there bytes from at (subst (λ (rest : List ℕ). NoneBefore (IsFs rest) 0 (length rest) at × IsFs rest at) (take_rest bytes from) h)

-- ---- FS CR, by its FS

begins : (bytes : List ℕ) (k : ℕ) → OccursAt bytes (28 ∷ 13 ∷ []) k → IsFs bytes k
begins bytes k occurs =
    let at : k + 0 ≡ k = omega arith in
    ap (is_byte 28) (ap (λ (i : ℕ). get_or bytes i 0) (sym at) ∙ occurs.reads 0 (omega arith))

-- none stands before an index
abbrev pub NoneTo : List ℕ → ℕ → Type 0
NoneTo bytes from = Nowhere (OccursAt bytes (28 ∷ 13 ∷ [])) 0 from

-- and none before the first FS from there on
none_to_fs : (bytes : List ℕ) (from at : ℕ) → NoneTo bytes from → Nowhere (IsFs bytes) from at → NoneTo bytes at
none_to_fs bytes from at none before k low high occurs =
    elim (cases_lt k from) as (λ _. ⊥) [
      | inl lt ↦ none k low lt occurs
      | inr le ↦ before k le high (begins bytes k occurs)
    ]

pub found_here : (bytes : List ℕ) (from at : ℕ) → NoneTo bytes from → NoneBefore (IsFs bytes) from (length bytes) at × IsFs bytes at
    → at + 1 < length bytes → get_or bytes (at + 1) 0 ≡ 13 → FindsNeedle bytes (28 ∷ 13 ∷ []) 0 (Some at)
found_here bytes from at none h second cr = (
  record { low = omega arith; high = omega (arith, second); before = none_to_fs bytes from at none h.0.before },
  record { fits = omega (arith, second); reads = reads },
)
  where
    reads : (j : ℕ) → j < 2 → get_or bytes (at + j) 0 ≡ get_or (28 ∷ 13 ∷ []) j 0
    reads zero lt =
        let here : at + 0 ≡ at = omega arith in
        ap (λ (i : ℕ). get_or bytes i 0) here ∙ eqb-true (get_or bytes at 0) 28 h.1
    reads (suc zero) lt = cr
    reads (suc (suc j)) lt = absurd (omega arith)

pub none_behind : (bytes : List ℕ) (from at : ℕ) → NoneTo bytes from → NoneBefore (IsFs bytes) from (length bytes) at × IsFs bytes at
    → ¬ ((at + 1 < length bytes) × (get_or bytes (at + 1) 0 ≡ 13)) → NoneTo bytes (at + 1)
none_behind bytes from at none h other k low high occurs =
    elim (cases_lt k at) as (λ _. ⊥) [
      | inl lt ↦ none_to_fs bytes from at none h.0.before k low lt occurs
      | inr le ↦ (
          let is : k ≡ at = omega arith in
          let here = subst (OccursAt bytes (28 ∷ 13 ∷ [])) is occurs in
          let fits : at + 2 ≤ length bytes = here.fits in
          other (omega (arith, fits), here.reads 1 (omega arith)))
    ]

pub none_at_all : (bytes : List ℕ) (from : ℕ) → NoneTo bytes from → Nowhere (IsFs bytes) from (length bytes) → FindsNeedle bytes (28 ∷ 13 ∷ []) 0 None
none_at_all bytes from none before k low high occurs =
    let fits : k + 2 ≤ length bytes = occurs.fits in
    none_to_fs bytes from (length bytes) none before k low (omega (arith, fits)) occurs

-- Lines that are joined are cut again.
use Rattle.std.proofs.Common.{◌≡◌, ℕ, zero, suc, ◌+◌, ◌-◌, Bool, true, false, List, [], ◌∷◌, ◌++◌, length, get_or, take, Some, None, refl, sym, ap, ◌∙◌, subst, arith, append_assoc}
use Rattle.std.proofs.Common.{length-append}
use Rattle.std.specs.Prelude.{◌==◌, not, cond, slice_index, if◌then◌else◌}
use Rattle.std.specs.List.{AllByRecursion, list_all, slice_split, onto_first}
use Rattle.std.specs.Option.{is_some}
use Rattle.std.proofs.lemmas.List.{append-nil, get_or-append-add}
use Rattle.std.proofs.lemmas.Bool.Decides.{Decides-eqb}
use Rattle.std.proofs.Math.Seq.{take-append_seam}
use Rattle.gw_lines.specs.Words.{without_last, is_line_end, lines, is_lawful, is_comment, words_from, words}
use Rattle.gw_profile.proofs.Facts.{both, and_of, not_is, true_not, if_true, all_map}
use Rattle.gw_plan.specs.declared.fault.PlanFault.TheVariants.{Syntax}
use Rattle.gw_plan.specs.Joined.{joined}
use Rattle.gw_plan.specs.Inner.{broken}

-- no byte ends a line
abbrev pub IsWhole : List ℕ → Type 0
IsWhole line = list_all (λ b. not (is_line_end b)) line ≡ true

-- ---- lines with an end between them

abbrev between : List ℕ → List (List ℕ) → List ℕ
between line [] = line
between line (next ∷ rest) = line ++ 10 ∷ between next rest

ended : (line : List ℕ) (rest : List (List ℕ)) → joined (line ∷ rest) ≡ between line rest ++ 10 ∷ []
ended line [] = append-nil (line ++ 10 ∷ [])
ended line (next ∷ rest) =
    ap (λ bytes. (line ++ 10 ∷ []) ++ bytes) (ended next rest)
    ∙ append_assoc line (10 ∷ []) (between next rest ++ 10 ∷ []) ∙ sym (append_assoc line (10 ∷ between next rest) (10 ∷ []))

cut_first : (line rest : List ℕ) → IsWhole line → slice_split is_line_end (line ++ 10 ∷ rest) ≡ line ∷ slice_split is_line_end rest
cut_first [] rest h = refl
cut_first (b ∷ line) rest h = let q = both (not (is_line_end b)) _ h in by (is_line_end b) (not_is _ q.0) (cut_first line rest q.1)
  where
    by : (e : Bool) → e ≡ false → slice_split is_line_end (line ++ 10 ∷ rest) ≡ line ∷ slice_split is_line_end rest
        → cond e ([] ∷ slice_split is_line_end (line ++ 10 ∷ rest)) (onto_first b (slice_split is_line_end (line ++ 10 ∷ rest))) ≡ (b ∷ line) ∷ slice_split is_line_end rest
    by true f g = absurd (cc)
    by false f g = ap (onto_first b) g

cut_last : (line : List ℕ) → IsWhole line → slice_split is_line_end line ≡ line ∷ []
cut_last [] h = refl
cut_last (b ∷ line) h = let q = both (not (is_line_end b)) _ h in by (is_line_end b) (not_is _ q.0) (cut_last line q.1)
  where
    by : (e : Bool) → e ≡ false → slice_split is_line_end line ≡ line ∷ [] → cond e ([] ∷ slice_split is_line_end line) (onto_first b (slice_split is_line_end line)) ≡ (b ∷ line) ∷ []
    by true f g = absurd (cc)
    by false f g = ap (onto_first b) g

cut_between : (line : List ℕ) (rest : List (List ℕ)) → AllByRecursion IsWhole (line ∷ rest) → slice_split is_line_end (between line rest) ≡ line ∷ rest
cut_between line [] h = cut_last line h.0
cut_between line (next ∷ rest) h = cut_first line (between next rest) h.0 ∙ ap (λ ls. line ∷ ls) (cut_between next rest h.1)

without_end : (bytes : List ℕ) → without_last 10 (bytes ++ 10 ∷ []) ≡ bytes
without_end bytes =
    let at : length (bytes ++ 10 ∷ []) - 1 ≡ length bytes + 0 = omega (arith, length-append bytes (10 ∷ [])) in
    let same : length (bytes ++ 10 ∷ []) - 1 ≡ length bytes = omega (arith, length-append bytes (10 ∷ [])) in
    if_true (slice_index (bytes ++ 10 ∷ []) (length (bytes ++ 10 ∷ []) - 1) == 10) (take (length (bytes ++ 10 ∷ []) - 1) (bytes ++ 10 ∷ [])) (bytes ++ 10 ∷ [])
    ((Decides-eqb (slice_index (bytes ++ 10 ∷ []) (length (bytes ++ 10 ∷ []) - 1)) 10).1 (ap (λ i. get_or (bytes ++ 10 ∷ []) i 0) at ∙ get_or-append-add bytes (10 ∷ []) 0 0))
    ∙ ap (λ i. take i (bytes ++ 10 ∷ [])) same ∙ take-append_seam bytes (10 ∷ [])

lines_ended : (bytes : List ℕ) → lines (bytes ++ 10 ∷ []) ≡ slice_split is_line_end bytes
lines_ended [] = ap (slice_split is_line_end) (without_end [])
lines_ended (b ∷ bytes) = ap (slice_split is_line_end) (without_end (b ∷ bytes))

lines_joined : (all : List (List ℕ)) → AllByRecursion IsWhole all → lines (joined all) ≡ all
lines_joined [] h = refl
lines_joined (line ∷ rest) h = ap lines (ended line rest) ∙ lines_ended (between line rest) ∙ cut_between line rest h

-- ---- lines that aren't broken are whole

whole_byte : (b : ℕ) → is_lawful b ≡ true → not (is_line_end b) ≡ true
whole_byte b e = true_not (b == 10) (λ f. let g : is_lawful 10 ≡ true = subst (λ c. is_lawful c ≡ true) ((Decides-eqb b 10).0 f) e in cc)

-- what holds of all bytes but the last, and of the last
with_last : (test : ℕ → Bool) (bytes : List ℕ) (n : ℕ) → length bytes ≡ suc n → list_all test (take n bytes) ≡ true → test (get_or bytes n 0) ≡ true → list_all test bytes ≡ true
with_last test [] n l h k = refl
with_last test (b ∷ []) zero l h k = and_of (test b) true k refl
with_last test (b ∷ []) (suc n) l h k = absurd (omega arith)
with_last test (b ∷ c ∷ bytes) zero l h k = absurd (omega arith)
with_last test (b ∷ c ∷ bytes) (suc n) l h k =
    let q = both (test b) (list_all test (take n (c ∷ bytes))) h in
    and_of (test b) (list_all test (c ∷ bytes)) q.0 (with_last test (c ∷ bytes) n (omega arith) q.1 k)

whole_with_end : (bytes : List ℕ) → IsWhole (without_last 13 bytes) → IsWhole bytes
whole_with_end [] h = refl
whole_with_end (b ∷ bytes) h = by (slice_index (b ∷ bytes) (length (b ∷ bytes) - 1) == 13) refl h
  where
    n : length (b ∷ bytes) - 1 ≡ length bytes
    n = omega arith

    by : (e : Bool) → (slice_index (b ∷ bytes) (length (b ∷ bytes) - 1) == 13) ≡ e → IsWhole (if e then take (length (b ∷ bytes) - 1) (b ∷ bytes) else b ∷ bytes) → IsWhole (b ∷ bytes)
    by false f k = k
    by true f k =
        with_last (λ c. not (is_line_end c)) (b ∷ bytes) (length bytes) refl (subst (λ m. IsWhole (take m (b ∷ bytes))) n k)
        (subst (λ c. not (is_line_end c) ≡ true) (sym (ap (λ m. get_or (b ∷ bytes) m 0) (sym n) ∙ (Decides-eqb (slice_index (b ∷ bytes) (length (b ∷ bytes) - 1)) 13).0 f)) refl)

whole_line : (line : List ℕ) → is_some (words line) ≡ true → IsWhole line
whole_line line h = whole_with_end line (by (list_all is_lawful (without_last 13 line)) refl h)
  where
    by : (e : Bool) → list_all is_lawful (without_last 13 line) ≡ e
        → is_some (if not e then None else if is_comment (without_last 13 line) then Some [] else words_from 0 (without_last 13 line)) ≡ true → IsWhole (without_last 13 line)
    by true f k = all_map is_lawful (λ b. not (is_line_end b)) whole_byte (without_last 13 line) f
    by false f k = absurd (cc)

whole_lines : (at : ℕ) (all : List (List ℕ)) → broken at all ≡ None → AllByRecursion IsWhole all
whole_lines at [] e = tt
whole_lines at (line ∷ rest) e = by (is_some (words line)) refl (whole_lines (at + 1) rest) e
  where
    by : (b : Bool) → is_some (words line) ≡ b → (broken (at + 1) rest ≡ None → AllByRecursion IsWhole rest) → (if b then broken (at + 1) rest else Some (Syntax at)) ≡ None
        → AllByRecursion IsWhole (line ∷ rest)
    by true f next k = (whole_line line f, next k)
    by false f next k = absurd (cc)

-- lines that are joined are cut again, where none is broken
pub rejoined : (at : ℕ) (all : List (List ℕ)) → broken at all ≡ None → lines (joined all) ≡ all
rejoined at all e = lines_joined all (whole_lines at all e)

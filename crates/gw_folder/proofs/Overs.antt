-- What is seen of a file with bytes behind it, and the digits of numbers.
use Rattle.std.proofs.Common.{◌≡◌, ℕ, zero, suc, ◌+◌, ◌-◌, ◌*◌, ◌/◌, ◌%◌, ◌≤◌, min, List, [], ◌∷◌, ◌++◌, length, take, drop, refl, sym, ◌∙◌, ap, arith, append_assoc, length-append, length-take, length-drop}
use Rattle.std.specs.Prelude.{Option, Some, None, IfSome}
use Rattle.gw_log.specs.Disk.{IsWritten}
use Rattle.gw_folder.specs.Names.{digits}

-- ---- two lists

pub take_both : (n : ℕ) (xs ys : List ℕ) → take n (xs ++ ys) ≡ take n xs ++ take (n - length xs) ys
take_both zero xs ys =
    let e : 0 ≡ 0 - length xs = omega arith in
    ap (λ k. take k ys) e
take_both (suc n) [] ys =
    let e : suc n ≡ suc n - 0 = omega arith in
    ap (λ k. take k ys) e
take_both (suc n) (x ∷ xs) ys =
    let e : n - length xs ≡ suc n - length (x ∷ xs) = omega arith in
    ap (λ (l : List ℕ). x ∷ l) (take_both n xs ys ∙ ap (λ k. take n xs ++ take k ys) e)

pub drop_both : (n : ℕ) (xs ys : List ℕ) → drop n (xs ++ ys) ≡ drop n xs ++ drop (n - length xs) ys
drop_both zero xs ys =
    let e : 0 ≡ 0 - length xs = omega arith in
    ap (λ k. xs ++ drop k ys) e
drop_both (suc n) [] ys =
    let e : suc n ≡ suc n - 0 = omega arith in
    ap (λ k. drop k ys) e
drop_both (suc n) (x ∷ xs) ys =
    let e : n - length xs ≡ suc n - length (x ∷ xs) = omega arith in
    drop_both n xs ys ∙ ap (λ k. drop n xs ++ drop k ys) e

pub take_capped : (n : ℕ) (xs : List ℕ) → take (min n (length xs)) xs ≡ take n xs
take_capped zero xs =
    let e : min 0 (length xs) ≡ 0 = omega arith in
    ap (λ k. take k xs) e
take_capped (suc n) [] =
    let e : min (suc n) 0 ≡ 0 = omega arith in
    ap (λ k. take {A = ℕ} k []) e
take_capped (suc n) (x ∷ xs) =
    let e : min (suc n) (length (x ∷ xs)) ≡ suc (min n (length xs)) = omega arith in
    ap (λ k. take k (x ∷ xs)) e ∙ ap (λ (l : List ℕ). x ∷ l) (take_capped n xs)

pub drop_capped : (n : ℕ) (xs : List ℕ) → drop (min n (length xs)) xs ≡ drop n xs
drop_capped zero xs =
    let e : min 0 (length xs) ≡ 0 = omega arith in
    ap (λ k. drop k xs) e
drop_capped (suc n) [] =
    let e : min (suc n) 0 ≡ 0 = omega arith in
    ap (λ k. drop {A = ℕ} k []) e
drop_capped (suc n) (x ∷ xs) =
    let e : min (suc n) (length (x ∷ xs)) ≡ suc (min n (length xs)) = omega arith in
    ap (λ k. drop k (x ∷ xs)) e ∙ drop_capped n xs

pub part_capped : (n m : ℕ) (xs : List ℕ) → take (min m (length (drop (min n (length xs)) xs))) (drop (min n (length xs)) xs) ≡ take m (drop n xs)
part_capped n m xs = take_capped m (drop (min n (length xs)) xs) ∙ ap (λ (l : List ℕ). take m l) (drop_capped n xs)

-- ---- a layer

take_over : (n : ℕ) (xs : List ℕ) → length xs ≤ n → take n xs ≡ xs
take_over zero [] le = refl
take_over zero (x ∷ xs) le = absurd (omega (arith, le))
take_over (suc n) [] le = refl
take_over (suc n) (x ∷ xs) le = ap (λ (l : List ℕ). x ∷ l) (take_over n xs (omega (arith, le)))

drop_over : (n : ℕ) (xs : List ℕ) → length xs ≤ n → drop n xs ≡ []
drop_over zero [] le = refl
drop_over zero (x ∷ xs) le = absurd (omega (arith, le))
drop_over (suc n) [] le = refl
drop_over (suc n) (x ∷ xs) le = drop_over n xs (omega (arith, le))

pub written_over : (keep at : ℕ) (tail bytes new file : List ℕ) → keep ≤ at → keep ≤ length file → IsWritten (at - keep) bytes tail new
    → IsWritten at bytes (take keep file ++ tail) (take keep file ++ new)
written_over keep at tail bytes new file low long is =
    let size : length (take keep file) ≡ keep = (let l = length-take keep file in omega (arith, l, long)) in
    let short : (k : ℕ) → keep ≤ k → take k (take keep file) ≡ take keep file = λ k le. take_over k (take keep file) (omega (arith, size, le)) in
    let none : drop (at + length bytes) (take keep file) ≡ [] = drop_over (at + length bytes) (take keep file) (omega (arith, size, low)) in
    let front : take at (take keep file ++ tail) ≡ take keep file ++ take (at - keep) tail =
    take_both at (take keep file) tail
    ∙ ap (λ (l : List ℕ). l ++ take (at - length (take keep file)) tail) (short at low)
    ∙ ap (λ k. take keep file ++ take (at - k) tail) size in
    let past : at + length bytes - length (take keep file) ≡ at - keep + length bytes = omega (arith, size, low) in
    let back : drop (at + length bytes) (take keep file ++ tail) ≡ drop (at - keep + length bytes) tail =
    drop_both (at + length bytes) (take keep file) tail
    ∙ ap (λ (l : List ℕ). l ++ drop (at + length bytes - length (take keep file)) tail) none
    ∙ ap (λ k. drop k tail) past in
    ap (λ (l : List ℕ). take keep file ++ l) is
    ∙ sym (append_assoc (take keep file) (take (at - keep) tail ++ bytes) (drop (at - keep + length bytes) tail))
    ∙ ap (λ (l : List ℕ). l ++ drop (at - keep + length bytes) tail) (sym (append_assoc (take keep file) (take (at - keep) tail) bytes))
    ∙ ap (λ (l : List ℕ). (l ++ bytes) ++ drop (at - keep + length bytes) tail) (sym front)
    ∙ ap (λ (l : List ℕ). (take at (take keep file ++ tail) ++ bytes) ++ l) (sym back)

pub read_over : (keep at len : ℕ) (tail front file : List ℕ) → keep ≤ length file → front ≡ take len (drop at (take keep file))
    → front ++ take (len - length front) (drop (at - keep) tail) ≡ take len (drop at (take keep file ++ tail))
read_over keep at len tail front file long is =
    let kept : length (take keep file) ≡ keep = (let l = length-take keep file in omega (arith, l, long)) in
    let left : length (drop at (take keep file)) ≡ keep - at = (let l = length-drop at (take keep file) in omega (arith, l, kept)) in
    let size : length front ≡ min len (keep - at) =
    (let l = length-take len (drop at (take keep file)) in ap (λ (l : List ℕ). length l) is ∙ l ∙ ap (λ k. min len k) left) in
    let more : len - length front ≡ len - length (drop at (take keep file)) = omega (arith, size, left) in
    let all : take len (drop at (take keep file ++ tail)) ≡ take len (drop at (take keep file)) ++ take (len - length (drop at (take keep file))) (drop (at - length (take keep file)) tail) =
    ap (λ (l : List ℕ). take len l) (drop_both at (take keep file) tail)
    ∙ take_both len (drop at (take keep file)) (drop (at - length (take keep file)) tail) in
    ap (λ (l : List ℕ). l ++ take (len - length front) (drop (at - keep) tail)) is
    ∙ ap (λ k. take len (drop at (take keep file)) ++ take k (drop (at - keep) tail)) more
    ∙ ap (λ k. take len (drop at (take keep file)) ++ take (len - length (drop at (take keep file))) (drop (at - k) tail)) (sym kept)
    ∙ sym all

-- ---- digits

pub last_digit : (width n : ℕ) → 1 ≤ width → digits width n ≡ digits (width - 1) (n / 10) ++ (48 + n % 10) ∷ []
last_digit zero n le = absurd (omega (arith, le))
last_digit (suc width) n le =
    let e : width ≡ suc width - 1 = omega arith in
    ap (λ w. digits w (n / 10) ++ (48 + n % 10) ∷ []) e

pub number_so : (bytes front : List ℕ) (last v d n : ℕ) → bytes ≡ front ++ last ∷ [] → front ≡ digits (length front) v → last ≡ 48 + d → d ≤ 9 → n ≡ v * 10 + d
    → bytes ≡ digits (length bytes) n
number_so bytes front last v d n is its shown small whole =
    let size : length bytes ≡ suc (length front) = (let l = length-append front (last ∷ []) in ap (λ (l : List ℕ). length l) is ∙ l ∙ omega arith) in
    let high : v ≡ n / 10 = omega (arith, whole, small) in
    let low : last ≡ 48 + n % 10 = omega (arith, shown, whole, small) in
    is ∙ ap (λ (l : List ℕ). l ++ last ∷ []) its
    ∙ ap (λ m. digits (length front) m ++ last ∷ []) high
    ∙ ap (λ m. digits (length front) (n / 10) ++ m ∷ []) low
    ∙ ap (λ w. digits w n) (sym size)

pub some_so : (o : Option ℕ) (P Q : ℕ → Type 0) → ((n : ℕ) → P n → Q n) → IfSome o P → IfSome o Q
some_so None P Q all is = is
some_so (Some n) P Q all is = all n is

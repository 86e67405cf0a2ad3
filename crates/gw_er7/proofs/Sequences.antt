-- How far a raw value has been read.
use Rattle.std.proofs.Common.{◌≡◌, ℕ, zero, suc, ◌+◌, ◌-◌, ◌<◌, ◌≤◌, true, false, List, [], ◌∷◌, ◌++◌, length, get_or, take, drop, None, Some, refl, sym, ap, ◌∙◌, append_assoc, arith}
use Rattle.std.specs.Prelude.{◌==◌, nat_lt}
use Rattle.std.proofs.lemmas.List.{take_all, length-take}
use Rattle.std.proofs.lemmas.List.Sums.{position_or_len_is}
use Rattle.std.proofs.lemmas.Bool.{le-ltb, lt-ltb, eq-eqb, and_right, false_from_ne_true}
use Rattle.memchr.specs.Find.{IsFirstByte, is_byte}
use Rattle.gw_er7.specs.declared.delimiters.Delimiters.{Delimiters}
use Rattle.gw_er7.specs.Text.{canon, canon_from, opens, meaning, plainly, body_of, is_body}

-- a byte that stands first is found there
pub first_at_once : (e : ℕ) (bytes : List ℕ) → 0 < length bytes → get_or bytes 0 0 ≡ e → IsFirstByte (is_byte e) bytes (Some 0)
first_at_once e bytes some is = (record { low = omega arith; high = some; before = λ k low lt p. omega (arith, lt) }, eq-eqb _ _ is)

-- where no byte stands, none is found
pub first_of_none : (e : ℕ) (bytes : List ℕ) → length bytes ≡ 0 → IsFirstByte (is_byte e) bytes None
first_of_none e bytes none = λ k low lt p. omega (arith, lt, none)

-- what a search for the escape character finds
pub body_found : (d : Delimiters) (after : List ℕ) (k : ℕ) → IsFirstByte (is_byte d.escape) after (Some k) → body_of d after ≡ take k after
body_found d after k h = ap (λ (n : ℕ). take n after)
    (position_or_len_is (λ b. b == d.escape) after k 0 (omega (arith, h.0.high)) (λ i lt. false_from_ne_true (get_or after i 0 == d.escape) (h.0.before i (omega arith) lt)) (λ lt. h.1))

pub body_not_found : (d : Delimiters) (after : List ℕ) → IsFirstByte (is_byte d.escape) after None → body_of d after ≡ after
body_not_found d after h = ap (λ (n : ℕ). take n after)
    (position_or_len_is (λ b. b == d.escape) after (length after) 0 (omega arith) (λ i lt. false_from_ne_true (get_or after i 0 == d.escape) (h i (omega arith) lt)) (λ lt. absurd (omega arith)))
    ∙ take_all (length after) after (omega arith)

pub not_opened : (d : Delimiters) (b : ℕ) (after : List ℕ) → body_of d after ≡ after → opens d b after ≡ false
not_opened d b after e =
    let short : nat_lt (length (body_of d after)) (length after) ≡ false = le-ltb _ _ (omega (arith, ap length e)) in
    rw short (and_right (b == d.escape) false refl)

pub is_opened : (d : Delimiters) (b : ℕ) (after : List ℕ) (k : ℕ) → b ≡ d.escape → body_of d after ≡ take k after → k < length after → is_body (take k after) ≡ true → opens d b after ≡ true
is_opened d b after k first body lt is =
    let is_escape : (b == d.escape) ≡ true = eq-eqb _ _ first in
    let short : nat_lt (length (body_of d after)) (length after) ≡ true = lt-ltb _ _ (omega (arith, ap length body, length-take k after)) in
    let full : is_body (body_of d after) ≡ true = ap is_body body ∙ is in
    rw (is_escape, short) full

pub no_body : (d : Delimiters) (b : ℕ) (after : List ℕ) (k : ℕ) → body_of d after ≡ take k after → is_body (take k after) ≡ false → opens d b after ≡ false
no_body d b after k body is = and_right (b == d.escape) _ (and_right (nat_lt (length (body_of d after)) (length after)) (is_body (body_of d after)) (ap is_body body ∙ is))

-- bytes that are passed over
pub canon-skip : (d : Delimiters) (k : ℕ) (bs : List ℕ) → canon_from d k bs ≡ canon d (drop k bs)
canon-skip d zero bs = refl
canon-skip d (suc k) [] = refl
canon-skip d (suc k) (b ∷ bs) = canon-skip d k bs

pub canon-sequence : (d : Delimiters) (b : ℕ) (bs : List ℕ) → opens d b bs ≡ true → canon d (b ∷ bs) ≡ meaning d (body_of d bs) ++ canon d (drop (length (body_of d bs) + 1) bs)
canon-sequence d b bs e = rw e (ap (λ (t : List ℕ). meaning d (body_of d bs) ++ t) (canon-skip d (length (body_of d bs) + 1) bs))

pub canon-plain : (d : Delimiters) (b : ℕ) (bs : List ℕ) → opens d b bs ≡ false → canon d (b ∷ bs) ≡ plainly b ++ canon d bs
canon-plain d b bs e = rw e refl

pub first_is : (rest : List ℕ) → 1 ≤ length rest → rest ≡ get_or rest 0 0 ∷ take (length rest - 1) (drop 1 rest)
first_is [] h = absurd (omega arith)
first_is (b ∷ rest) h =
    let n : length (b ∷ rest) - 1 ≡ length rest = omega arith in
    let same : take (length rest) rest ≡ rest = take_all (length rest) rest (omega arith) in
    rw (n, same) refl

-- a step of the loop
pub sequence_taken : (d : Delimiters) (text out : List ℕ) (b : ℕ) (rest after body left target : List ℕ) → text ++ canon d rest ≡ target → rest ≡ b ∷ after → opens d b after ≡ true → body ≡ body_of d after
    → out ≡ text ++ meaning d body → left ≡ drop (length body + 1) after → out ++ canon d left ≡ target
sequence_taken d text out b rest after body left target h cut is body_is out_is left_is =
    let one : canon d rest ≡ meaning d body ++ canon d left =
    ap (canon d) cut ∙ canon-sequence d b after is ∙ ap (λ (x : List ℕ). meaning d x ++ canon d (drop (length x + 1) after)) (sym body_is) ∙ ap (λ (x : List ℕ). meaning d body ++ canon d x) (sym left_is) in
    ap (λ (x : List ℕ). x ++ canon d left) out_is ∙ append_assoc text (meaning d body) (canon d left) ∙ ap (λ (x : List ℕ). text ++ x) (sym one) ∙ h

pub plain_taken : (d : Delimiters) (text out : List ℕ) (b : ℕ) (rest after target : List ℕ) → text ++ canon d rest ≡ target → rest ≡ b ∷ after → opens d b after ≡ false → out ≡ text ++ plainly b → out ++ canon d after ≡ target
plain_taken d text out b rest after target h cut closed out_is =
    ap (λ (x : List ℕ). x ++ canon d after) out_is ∙ append_assoc text (plainly b) (canon d after) ∙ ap (λ (x : List ℕ). text ++ x) (sym (ap (canon d) cut ∙ canon-plain d b after closed)) ∙ h

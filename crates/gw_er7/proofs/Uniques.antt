-- Bytes with the same raw values and no idle separator are equal.
use Rattle.std.proofs.Common.{◌≡◌, ℕ, zero, suc, ◌-◌, ◌<◌, ◌≤◌, Bool, true, false, List, [], ◌∷◌, ◌++◌, length, get_or, refl, sym, ap, subst, ◌∙◌, arith}
use Rattle.std.specs.Prelude.{◌==◌, if◌then◌else◌}
use Rattle.std.proofs.lemmas.Bool.{eqb-true}
use Rattle.std.proofs.lemmas.List.Splits.{join_with_byte-slice_split}
use Rattle.std.specs.List.{slice_split, onto_first, join_with_byte, AllByRecursion}
use Rattle.gw_er7.specs.Reading.{part}
use Rattle.gw_er7.specs.Encoding.{rank, IsIdle, HasNoIdle}

-- no idle separator, where one of the rank r stands behind the bytes
abbrev pub Good : ℕ → List ℕ → Type 0
Good r [] = Unit {0}
Good r (b ∷ []) = 0 < rank b → r ≤ rank b
Good r (a ∷ b ∷ bs) = ¬ (IsIdle a b) × Good r (b ∷ bs)

le_of : (m n : ℕ) → (m < n → ⊥) → n ≤ m
le_of m n no_less = omega (arith, no_less)

pub good_of : (t : ℕ) (x : List ℕ) → HasNoIdle (x ++ t ∷ []) → Good (rank t) x
good_of t [] h = tt
good_of t (b ∷ []) h = λ some. le_of (rank b) (rank t) (λ lt. h.0 (some, lt))
good_of t (a ∷ b ∷ bs) h = (h.0, good_of t (b ∷ bs) h.1)

-- ---- parts

-- the last of two parts or more isn't empty
abbrev pub LastFull : List (List ℕ) → Type 0
LastFull [] = ⊥
LastFull (p ∷ []) = 0 < length p
LastFull (p ∷ q ∷ ps) = LastFull (q ∷ ps)

abbrev Fine : List (List ℕ) → Type 0
Fine [] = ⊥
Fine (p ∷ []) = Unit {0}
Fine (p ∷ q ∷ ps) = LastFull (q ∷ ps)

-- the last part of bytes that don't end at the separator
full : (s r : ℕ) (b : ℕ) (x : List ℕ) → 0 < rank s → rank s < r → Good r (b ∷ x) → LastFull (slice_split (λ c. c == s) (b ∷ x))
full s r b [] some lt h =
    elim (b == s) as (λ v. (b == s) ≡ v → LastFull (if v then [] ∷ ([] ∷ []) else onto_first b ([] ∷ []))) [
      | true ↦ λ e. absurd (let same : b ≡ s = eqb-true b s e in let z : r ≤ rank s = subst (λ (c : ℕ). r ≤ rank c) same (h (subst (λ (c : ℕ). 0 < rank c) (sym same) some)) in omega arith)
      | false ↦ λ _. omega arith
    ] refl
full s r b (c ∷ x) some lt h = by (b == s) (slice_split (λ d. d == s) (c ∷ x)) (full s r c x some lt h.1)
  where
    by : (v : Bool) (ps : List (List ℕ)) → LastFull ps → LastFull (if v then [] ∷ ps else onto_first b ps)
    by v [] h = absurd h
    by true (p ∷ ps) h = h
    by false (p ∷ []) h = omega arith
    by false (p ∷ q ∷ ps) h = h

-- the first byte of the parts behind a byte that isn't the separator
abbrev Heads : ℕ → List ℕ → List (List ℕ) → Type 0
Heads s x [] = ⊥
Heads s [] (p ∷ ps) = p ≡ []
Heads s (c ∷ x) ([] ∷ ps) = c ≡ s
Heads s (c ∷ x) ((d ∷ p) ∷ ps) = c ≡ d

heads : (s : ℕ) (x : List ℕ) → Heads s x (slice_split (λ c. c == s) x)
heads s [] = refl
heads s (c ∷ x) = by (c == s) refl (slice_split (λ d. d == s) x) (heads s x)
  where
    by : (v : Bool) → (c == s) ≡ v → (ps : List (List ℕ)) → Heads s x ps → Heads s (c ∷ x) (if v then [] ∷ ps else onto_first c ps)
    by true e ps h = eqb-true c s e
    by false e [] h = refl
    by false e (p ∷ ps) h = refl

-- a byte before a part
pushed : (s r b : ℕ) (x : List ℕ) (ps : List (List ℕ)) → 0 < rank s → rank s < r → Heads s x ps → Good r (b ∷ x) → AllByRecursion (Good (rank s)) ps → AllByRecursion (Good (rank s)) (onto_first b ps)
pushed s r b x [] some lt head h each = absurd head
pushed s r b [] (p ∷ ps) some lt head h each =
    (subst (λ (q : List ℕ). Good (rank s) (b ∷ q)) (sym head) (λ has. (let le : r ≤ rank b = h has in omega arith)), each.1)
pushed s r b (c ∷ x) ([] ∷ ps) some lt head h each =
    ((λ has. le_of (rank b) (rank s) (λ less. h.0 (has, subst (λ (d : ℕ). rank b < rank d) (sym head) less))), each.1)
pushed s r b (c ∷ x) ((d ∷ p) ∷ ps) some lt head h each = (((λ idle. h.0 (subst (λ (k : ℕ). IsIdle b k) (sym head) idle)), each.0), each.1)

good_parts : (s r : ℕ) (x : List ℕ) → 0 < rank s → rank s < r → Good r x → AllByRecursion (Good (rank s)) (slice_split (λ c. c == s) x)
good_parts s r [] some lt h = (tt, tt)
good_parts s r (b ∷ []) some lt h =
    elim (b == s) as (λ v. AllByRecursion (Good (rank s)) (if v then [] ∷ ([] ∷ []) else onto_first b ([] ∷ []))) [
      | true ↦ (tt, (tt, tt))
      | false ↦ ((λ has. (let le : r ≤ rank b = h has in omega arith)), tt)
    ]
good_parts s r (b ∷ c ∷ x) some lt h =
    let later = good_parts s r (c ∷ x) some lt h.1 in
    elim (b == s) as (λ v. AllByRecursion (Good (rank s)) (if v then [] ∷ slice_split (λ d. d == s) (c ∷ x) else onto_first b (slice_split (λ d. d == s) (c ∷ x)))) [
      | true ↦ (tt, later)
      | false ↦ pushed s r b (c ∷ x) (slice_split (λ d. d == s) (c ∷ x)) some lt (heads s (c ∷ x)) h later
    ]

loose : (ps : List (List ℕ)) → LastFull ps → Fine ps
loose [] h = absurd h
loose (p ∷ []) h = tt
loose (p ∷ q ∷ ps) h = h

-- bytes that aren't empty have a last part that isn't, and others are one part
fine_parts : (s r : ℕ) (x : List ℕ) → 0 < rank s → rank s < r → Good r x → Fine (slice_split (λ c. c == s) x)
fine_parts s r [] some lt h = tt
fine_parts s r (b ∷ x) some lt h = loose (slice_split (λ c. c == s) (b ∷ x)) (full s r b x some lt h)

not_all_empty : (ps : List (List ℕ)) → LastFull ps → ((k : ℕ) → get_or ps k [] ≡ []) → ⊥
not_all_empty [] h none = h
not_all_empty (p ∷ []) h none = let n : length p ≡ 0 = ap length (none 0) in absurd (omega arith)
not_all_empty (p ∷ q ∷ ps) h none = not_all_empty (q ∷ ps) h (λ k. none (suc k))

same_parts : (ps qs : List (List ℕ)) → Fine ps → Fine qs → ((k : ℕ) → get_or ps k [] ≡ get_or qs k []) → ps ≡ qs
same_parts [] qs f g same = absurd f
same_parts (p ∷ ps) [] f g same = absurd g
same_parts (p ∷ []) (q ∷ []) f g same = ap (λ (x : List ℕ). x ∷ []) (same 0)
same_parts (p ∷ []) (q ∷ r ∷ qs) f g same = absurd (not_all_empty (r ∷ qs) g (λ k. sym (same (suc k))))
same_parts (p ∷ r ∷ ps) (q ∷ []) f g same = absurd (not_all_empty (r ∷ ps) f (λ k. same (suc k)))
same_parts (p ∷ r ∷ ps) (q ∷ t ∷ qs) f g same =
    ap (λ (x : List ℕ). x ∷ r ∷ ps) (same 0) ∙ ap (λ (xs : List (List ℕ)). q ∷ xs) (same_parts (r ∷ ps) (t ∷ qs) (loose (r ∷ ps) f) (loose (t ∷ qs) g) (λ k. same (suc k)))

-- ---- levels

-- the raw value at a key, level by level
abbrev pub raw : List ℕ → List ℕ → List ℕ → List ℕ
raw [] key x = x
raw (s ∷ ss) [] x = x
raw (s ∷ ss) (k ∷ key) x = raw ss key (part s k x)

-- separators of falling rank, below r
abbrev pub Falls : ℕ → List ℕ → Type 0
Falls r [] = Unit {0}
Falls r (s ∷ ss) = (0 < rank s) × (rank s < r) × Falls (rank s) ss

good_at : (r k : ℕ) (ps : List (List ℕ)) → AllByRecursion (Good r) ps → Good r (get_or ps k [])
good_at r k [] h = tt
good_at r zero (p ∷ ps) h = h.0
good_at r (suc k) (p ∷ ps) h = good_at r k ps h.1

pub same_bytes : (ss : List ℕ) (r : ℕ) (x y : List ℕ) → Falls r ss → Good r x → Good r y → ((key : List ℕ) → length key ≡ length ss → AllByRecursion (λ n. 0 < n) key → raw ss key x ≡ raw ss key y) → x ≡ y
same_bytes [] r x y falls gx gy same = same [] refl tt
same_bytes (s ∷ ss) r x y falls gx gy same =
    let ps = slice_split (λ c. c == s) x in
    let qs = slice_split (λ c. c == s) y in
    let px = good_parts s r x falls.0 falls.1 gx in
    let py = good_parts s r y falls.0 falls.1 gy in
    let each : (k : ℕ) → get_or ps k [] ≡ get_or qs k [] =
    (λ k. same_bytes ss (rank s) (get_or ps k []) (get_or qs k []) falls.2 (good_at (rank s) k ps px) (good_at (rank s) k qs py)
    (λ key len positive. (let n : suc k - 1 ≡ k = omega arith in
    subst (λ (i : ℕ). raw ss key (get_or ps i []) ≡ raw ss key (get_or qs i [])) n (same (suc k ∷ key) (omega (arith, len)) (omega arith, positive))))) in
    let parts : ps ≡ qs = same_parts ps qs (fine_parts s r x falls.0 falls.1 gx) (fine_parts s r y falls.0 falls.1 gy) each in
    sym (join_with_byte-slice_split s x) ∙ ap (join_with_byte s) parts ∙ join_with_byte-slice_split s y

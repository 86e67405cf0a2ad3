-- The bytes before the first VT, and those from there on.
use Rattle.std.proofs.Common.{◌≡◌, ◌≢◌, ◌==◌, ℕ, suc, ◌+◌, ◌<◌, ◌≤◌, true, List, [], ◌∷◌, length, get_or, sym, ap, ◌∙◌, arith}
use Rattle.std.proofs.lemmas.Bool.{eqb-true}
use Rattle.gw_mllp.specs.Stream.{Lacks, IsGap}

lacks : (byte : ℕ) (bytes : List ℕ) → ((k : ℕ) → k < length bytes → get_or bytes k 0 ≢ byte) → Lacks byte bytes
lacks byte [] none = tt
lacks byte (b ∷ bytes) none = (none 0 (omega arith), lacks byte bytes (λ k lt. none (suc k) (omega arith)))

-- no byte of the first n is VT
pub gap_front : (front bytes : List ℕ) (n : ℕ) → length front ≡ n → ((k other : ℕ) → k < n → get_or front k other ≡ get_or bytes k other) → ((k : ℕ) → 0 ≤ k → k < n → (get_or bytes k 0 == 11) ≡ true → ⊥) → IsGap front
gap_front front bytes n long same none = lacks 11 front (λ k lt e. none k (omega arith) (omega arith) (ap (λ b. b == 11) (sym (same k 0 (omega arith)) ∙ e)))

-- the bytes from a VT on begin with it
pub starts : (back bytes : List ℕ) (n : ℕ) → ((k other : ℕ) → get_or back k other ≡ get_or bytes (n + k) other) → (get_or bytes n 0 == 11) ≡ true → (b : ℕ) (bs : List ℕ) → back ≡ b ∷ bs → b ≡ 11
starts back bytes n same vt b bs is =
    let here : n + 0 ≡ n = omega arith in
    sym (ap (λ xs. get_or xs 0 0) is) ∙ (same 0 0 ∙ (ap (λ k. get_or bytes k 0) here ∙ eqb-true (get_or bytes n 0) 11 vt))

-- behind all bytes there is none
pub nothing_behind : (back : List ℕ) (n : ℕ) → length back + n ≡ n → (b : ℕ) (bs : List ℕ) → back ≡ b ∷ bs → b ≡ 11
nothing_behind back n long b bs is = let more = ap length is in absurd (omega arith)

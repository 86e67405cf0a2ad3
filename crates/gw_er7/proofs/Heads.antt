-- The bytes of a raw value that stand for themselves, up to the first that doesn't.
use Rattle.std.proofs.Common.{◌≡◌, ℕ, suc, ◌+◌, Bool, false, not, List, [], ◌∷◌, ◌++◌, length, take, drop, refl, sym, ap, ◌∙◌, append_assoc, arith}
use Rattle.std.proofs.lemmas.Bool.Decides.{nat_tests}
use Rattle.std.specs.Prelude.{◌==◌, ◌||◌, unwrap_or, position}
use Rattle.std.proofs.lemmas.Bool.{or_parts}
use Rattle.std.proofs.lemmas.List.Sums.{prefix_len-le-length}
use Rattle.std.specs.List.{position_or_len, before_first}
use Rattle.gw_er7.specs.declared.delimiters.Delimiters.{Delimiters}
use Rattle.gw_er7.specs.Text.{canon, is_special}
use Rattle.gw_er7.proofs.Fixed.{itself}
use Rattle.gw_er7.proofs.Sequences.{canon-plain}

-- special, or the sender's escape character
abbrev pub stops : Delimiters → ℕ → Bool
stops d b = is_special b || b == d.escape

canon-kept : (d : Delimiters) (b : ℕ) (bs : List ℕ) → stops d b ≡ false → canon d (b ∷ bs) ≡ b ∷ canon d bs
canon-kept d b bs e =
    let both = or_parts (is_special b) (b == d.escape) e in
    canon-plain d b bs (rw both.1 refl) ∙ ap (λ (x : List ℕ). x ++ canon d bs) (itself b both.0)

pub canon-head : (d : Delimiters) (bs : List ℕ) → canon d bs ≡ take (position_or_len (stops d) bs) bs ++ canon d (drop (position_or_len (stops d) bs) bs)
canon-head d [] = refl
canon-head d (b ∷ bs) =
    let more = canon-head d bs in
    let kept = canon-kept d b bs in
    let next : 1 + position_or_len (stops d) bs ≡ suc (position_or_len (stops d) bs) = omega arith in
    grind (arith)

-- ---- what `position` found

pub head_is : (p : ℕ → Bool) (bs : List ℕ) → unwrap_or (position p bs) (length bs) ≡ position_or_len p bs
head_is p bs = (let le = prefix_len-le-length (λ b. not (p b)) bs in grind (arith, nat_tests))

-- the bytes at the head were taken in
pub head_taken : (d : Delimiters) (text out bs rest : List ℕ) → out ≡ text ++ before_first (stops d) bs → rest ≡ drop (position_or_len (stops d) bs) bs → out ++ canon d rest ≡ text ++ canon d bs
head_taken d text out bs rest o later =
    let head = before_first (stops d) bs in
    ap (λ (x : List ℕ). x ++ canon d rest) o ∙ append_assoc text head (canon d rest) ∙ ap (λ (x : List ℕ). text ++ (head ++ canon d x)) later ∙ ap (λ (x : List ℕ). text ++ x) (sym (canon-head d bs))

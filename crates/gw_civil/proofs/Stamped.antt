-- Fourteen digits, one by one.
use Rattle.std.proofs.Common.{◌≡◌, ℕ, zero, suc, ◌<◌, List, [], ◌∷◌, length, refl, arith}
use Rattle.std.specs.Prelude.{slice_index}
use Rattle.std.specs.List.{AllByRecursion}
use Rattle.gw_ack.specs.Stamps.{IsDigit, IsStamp}

digit_at : (text : List ℕ) (k : ℕ) → AllByRecursion IsDigit text → k < length text → IsDigit (slice_index text k)
digit_at [] k h lt = absurd (omega arith)
digit_at (b ∷ text) zero h lt = h.0
digit_at (b ∷ text) (suc k) h lt = digit_at text k h.1 (omega arith)

pub digits_make_stamp : (text : List ℕ) → AllByRecursion IsDigit text → length text ≡ 14 → IsStamp text
digits_make_stamp text h n = record { fourteen = n; digits = λ k lt. digit_at text k h lt }

-- seven pairs
pub fourteen : (a b c d e f g h i j k l m n : ℕ) → IsDigit a → IsDigit b → IsDigit c → IsDigit d → IsDigit e → IsDigit f → IsDigit g → IsDigit h → IsDigit i → IsDigit j → IsDigit k → IsDigit l → IsDigit m → IsDigit n
    → IsStamp (a ∷ b ∷ c ∷ d ∷ e ∷ f ∷ g ∷ h ∷ i ∷ j ∷ k ∷ l ∷ m ∷ n ∷ [])
fourteen a b c d e f g h i j k l m n ha hb hc hd he hf hg hh hi hj hk hl hm hn =
    digits_make_stamp (a ∷ b ∷ c ∷ d ∷ e ∷ f ∷ g ∷ h ∷ i ∷ j ∷ k ∷ l ∷ m ∷ n ∷ [])
    (ha, (hb, (hc, (hd, (he, (hf, (hg, (hh, (hi, (hj, (hk, (hl, (hm, (hn, tt)))))))))))))) refl

-- Reading numbers one after the other, as a loop does.
use Rattle.std.proofs.Common.{◌≡◌, ℕ, suc, ◌+◌, ◌-◌, ◌*◌, ◌≤◌, ◌<◌, List, [], ◌∷◌, ◌++◌, length, take, drop, sym, ap, ◌∙◌, append_assoc, arith}
use Rattle.std.proofs.lemmas.List.{append-nil, length-drop}
use Rattle.std.specs.Int.{w32, from_be_bytes}
use Rattle.gw_due.specs.own.Reading.{numbers}

-- these were read, so many are still to be read, and the bytes of all of them are there
pub record AreRead (done : List ℕ) (count : ℕ) (rest total : List ℕ) : Type 0 where
  pub enough : 4 * count ≤ length rest
  pub all : done ++ numbers count rest ≡ total

pub one_more : (done : List ℕ) (count i : ℕ) (rest total : List ℕ) → i < count → AreRead done (count - i) rest total
    → AreRead (done ++ from_be_bytes w32 (take 4 rest) ∷ []) (count - (i + 1)) (drop 4 rest) total
unfolding numbers
one_more done count i rest total less read =
    let e : count - i ≡ suc (count - (i + 1)) = omega arith in
    record {
      enough = omega (arith, length-drop 4 rest, read.enough);
      all = append_assoc done (from_be_bytes w32 (take 4 rest) ∷ []) (numbers (count - (i + 1)) (drop 4 rest)) ∙ ap (λ n. done ++ numbers n rest) (sym e) ∙ read.all;
    }

pub at_last : (done : List ℕ) (count i : ℕ) (rest total : List ℕ) → count ≤ i → AreRead done (count - i) rest total → total ≡ done
unfolding numbers
at_last done count i rest total over read =
    let e : count - i ≡ 0 = omega arith in
    sym read.all ∙ ap (λ n. done ++ numbers n rest) e ∙ append-nil done

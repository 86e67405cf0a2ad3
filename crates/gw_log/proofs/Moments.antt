-- How a run of calls of a disk goes on.
use Rattle.std.proofs.Common.{◌≡◌, ◌≢◌, inl, inr, ⊎_elim, ℕ, List, [], ◌∷◌, drop, refl, sym, ◌∙◌, subst, arith}
use Rattle.std.proofs.lemmas.Bool.{cases_eq}
use Rattle.gw_log.specs.Disk.{Files, IsMixed, Torn, After, Only, Elapses, LeavesOnly}

module _ {D : Type 0} (moment : D → ℕ) (left_since : D → ℕ → Files → Type 0) where
  -- what has P has Q
  pub weaker : (old new : D) (P Q : Files → Type 0) → ((c : Files) → P c → Q c) → LeavesOnly moment left_since old new P
      → LeavesOnly moment left_since old new Q
  weaker old new P Q has run = record {
    later = run.later;
    each = λ c left. has c (run.each c left);
    before = λ t c le left. ⊎_elim (λ was. inl was) (λ now. inr (has c now)) (run.before t c le left);
  }

  -- one run after another
  pub joined : (old mid new : D) (P : Files → Type 0) → LeavesOnly moment left_since old mid P → LeavesOnly moment left_since mid new P
      → LeavesOnly moment left_since old new P
  joined old mid new P first second = record {
    later = omega (arith, first.later, second.later);
    each = λ c left. ⊎_elim (first.each c) (λ now. now) (second.before (moment old) c first.later left);
    before = λ t c le left. ⊎_elim (first.before t c le) (λ now. inr now) (second.before t c (omega (arith, le, first.later)) left);
  }

  -- one call
  pub stepped : (may_leave : D → Files → Type 0) (old new : D) (P : Files → Type 0)
      → ((disk : D) (c : Files) → left_since disk (moment disk) c → may_leave disk c) → Elapses moment left_since may_leave old new
      → ((c : Files) → may_leave old c → P c) → ((c : Files) → may_leave new c → P c) → LeavesOnly moment left_since old new P
  stepped may_leave old new P only time was now = record {
    later = time.later;
    each = λ c left. ⊎_elim (λ left. was c (only old c left)) (now c) (time.nothing_else (moment old) c (omega arith) left);
    before = λ t c le left. ⊎_elim (λ left. inl left) (λ may. inr (now c may)) (time.nothing_else t c le left);
  }

-- ---- what one step on a file leaves

-- where the others stay and this one is on the disk, nothing is in motion
pub only_of : (number : ℕ) (old now : Files) (outcomes : Files → Type 0) → ((c : Files) → outcomes c → (m : ℕ) → m ≢ number → c m ≡ old m)
    → ((m : ℕ) → m ≢ number → now m ≡ old m) → ((c : Files) → outcomes c → c number ≡ now number) → Only now outcomes
only_of number old now outcomes stay same synced c could m = elim (cases_eq m number) [
  | inl is ↦ subst (λ k. c k ≡ now k) (sym is) (synced c could)
  | inr differs ↦ stay c could m differs ∙ sym (same m differs)
]

-- a write that did not happen
mixed_none : (old bytes : List ℕ) → IsMixed old bytes old
mixed_none old [] = refl
mixed_none [] (byte ∷ bytes) = tt
mixed_none (o ∷ old) (byte ∷ bytes) = (inl refl, mixed_none old bytes)

pub torn_none : (number at : ℕ) (bytes : List ℕ) (outcomes : Files → Type 0) (c : Files) → outcomes c → After number (Torn at bytes) outcomes c
torn_none number at bytes outcomes c could = record {
  was = c;
  could = could;
  moves = record { here = record { before = refl; mixed = mixed_none (drop at (c number)) bytes }; others = λ m differs. refl };
}

-- no call at all
pub stood : {D : Type 0} (moment : D → ℕ) (left_since : D → ℕ → Files → Type 0) (may_leave : D → Files → Type 0) (disk : D) (P : Files → Type 0)
    → ((disk : D) (c : Files) → left_since disk (moment disk) c → may_leave disk c) → ((c : Files) → may_leave disk c → P c)
    → LeavesOnly moment left_since disk disk P
stood moment left_since may_leave disk P only has = record {
  later = omega arith;
  each = λ c left. has c (only disk c left);
  before = λ t c le left. inl left;
}

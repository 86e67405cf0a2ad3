-- Values that are in a table, and that aren't too long.
use Rattle.std.proofs.Common.{◌≡◌, ℕ, suc, ◌*◌, ◌≤◌, inl, inr, Bool, true, false, List, [], ◌∷◌, cond, replicate, Some, None, refl, sym, ◌↔◌, subst, arith}
use Rattle.std.specs.Prelude.{not, nat_lt, nat_le}
use Rattle.std.specs.List.{list_any}
use Rattle.std.proofs.lemmas.Bool.{false≢true}
use Rattle.std.proofs.lemmas.List.{length-replicate}
use Rattle.std.proofs.lemmas.List.Sums.{count_by-le-length}
use Rattle.std.proofs.lemmas.List.Folds.{sum_by-replicate}
use Rattle.std.proofs.lemmas.Bool.Decides.{nat_tests}
use Rattle.gw_profile.specs.Among.{Among}
use Rattle.gw_profile.specs.Fault.{is_among}
use Rattle.gw_profile.specs.declared.shape.Count.{Count}
use Rattle.gw_profile.specs.declared.shape.Count.TheVariants.{Octets, Characters}
use Rattle.gw_profile.specs.Lengths.{begins_character, measure}
use Rattle.gw_profile.proofs.Among.{among_is}
use Rattle.gw_profile.proofs.Facts.{neither, both_false}
use Rattle.gw_leaves.specs.Leaves.{Values, any, listed, IsOf, may_be_unlisted, may_exceed, may_be_long}

-- ---- lists of texts

-- no text fails a test exactly where each passes it
module _ (fails : List ℕ → Bool) (P : List ℕ → Type 0) (tells_it : (x : List ℕ) → (fails x ≡ false) ↔ P x) where
  pub none_fails : (texts : List (List ℕ)) → (list_any fails texts ≡ false) ↔ ((x : List ℕ) → Among x texts → P x)
  none_fails [] = (λ e x a. absurd a, λ h. refl)
  none_fails (t ∷ texts) = (
    λ e x a.
        let p = neither (fails t) (list_any fails texts) e in
        elim a [ inl same ↦ subst P (sym same) ((tells_it t).0 p.0) | inr b ↦ (none_fails texts).0 p.1 x b ],
    λ h. both_false (fails t) (list_any fails texts) ((tells_it t).1 (h t (inl refl))) ((none_fails texts).1 (λ x a. h x (inr a))),
  )

pub all_listed : (texts table : List (List ℕ)) → (may_be_unlisted (listed texts) (Some table) ≡ false) ↔ ((x : List ℕ) → Among x texts → Among x table)
all_listed texts table = none_fails (λ x. not (is_among x table)) (λ x. Among x table) (λ x. let is = among_is x table in grind arith) texts

pub all_tabled : (v : Values) (table : List (List ℕ)) → may_be_unlisted v (Some table) ≡ false → (x : List ℕ) → IsOf v x → Among x table
all_tabled (any count len) table e = absurd (cc)
all_tabled (listed texts) table e = (all_listed texts table).0 e

-- ---- lengths

-- zeros have the same length in both counts
zeros_in : (to : Count) (n : ℕ) → measure to (replicate n 0) ≡ n
zeros_in Octets n = length-replicate n 0
zeros_in Characters n = let all : measure Characters (replicate n 0) ≡ n * 1 = sum_by-replicate (λ b. cond (begins_character b) 1 0) n 0 in omega (arith, all)

pub none_exceeds : (count : Count) (len : ℕ) (to : Count) (most : ℕ) → (may_exceed count len to most ≡ false) ↔ ((x : List ℕ) → nat_le (measure count x) len ≡ true → measure to x ≤ most)
none_exceeds Characters len Octets most = (
  λ e. absurd (false≢true (sym e)),
  -- octets that go on with a character have no length in characters
  λ h.
      let long = h (replicate (suc most) 128) in
      let none : measure Characters (replicate (suc most) 128) ≡ suc most * 0 = sum_by-replicate (λ b. cond (begins_character b) 1 0) (suc most) 128 in
      let all = length-replicate {A = ℕ} (suc most) 128 in
      grind (arith, nat_tests),
)
none_exceeds count len to most = (
  λ e x short. let few : measure Characters x ≤ measure Octets x = count_by-le-length begins_character x in grind (arith, nat_tests),
  λ h. let long = h (replicate len 0) in let read = zeros_in count len in let given = zeros_in to len in grind (arith, nat_tests),
)

pub all_short : (to : Count) (v : Values) (most : ℕ) → (may_be_long to v (Some most) ≡ false) ↔ ((x : List ℕ) → IsOf v x → measure to x ≤ most)
all_short to (any count None) most = (
  λ e. absurd (cc),
  λ h. let long = zeros_in to (suc most) in absurd (omega (arith, h (replicate (suc most) 0) refl, long)),
)
all_short to (any count (Some len)) most = none_exceeds count len to most
all_short to (listed texts) most = none_fails (λ x. nat_lt most (measure to x)) (λ x. measure to x ≤ most) (λ x. grind (arith, nat_tests)) texts

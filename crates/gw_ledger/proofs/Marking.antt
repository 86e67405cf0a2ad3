-- From where on records are kept by their time.
use Rattle.std.proofs.Common.{◌≡◌, ℕ, ◌≤◌, Bool, true, false, nat_le, cond, List, [], ◌∷◌, Some, slice_get, zero, suc, subst, sym, arith}
use Rattle.std.specs.Prelude.{min}
use Rattle.std.proofs.lemmas.Bool.{le-leb}
use Rattle.gw_ledger.specs.Marks.{young_from}
use Rattle.gw_ledger.specs.declared.needs.Mark.{Mark}

below_first : (a x y : ℕ) → a ≤ min x y → a ≤ x
below_first a x y le = omega (arith, le)

below_second : (a x y : ℕ) → a ≤ min x y → a ≤ y
below_second a x y le = omega (arith, le)

reflexive : (n : ℕ) → n ≤ n
reflexive n = omega arith

pub least_young : (place since : ℕ) (files : List Mark) → young_from place since files ≤ place
least_young place since [] = reflexive place
least_young place since (m ∷ ms) = by (nat_le since m.latest) (λ p. least_young p since ms) where
  by : (young : Bool) → ((p : ℕ) → young_from p since ms ≤ p) → young_from (cond young (min place m.first) place) since ms ≤ place
  by true least = below_first (young_from (min place m.first) since ms) place m.first (least (min place m.first))
  by false least = least place

pub young_stays : (place since n : ℕ) (files : List Mark) (file : Mark) → slice_get files n ≡ Some file → since ≤ file.latest → young_from place since files ≤ file.first
young_stays place since n [] file at le = absurd cc
young_stays place since zero (m ∷ ms) file at le =
    let same : m ≡ file = cc (at) in
    let young : nat_le since file.latest ≡ true = le-leb since file.latest le in
    subst (λ (f : Mark). young_from place since (f ∷ ms) ≤ file.first) (sym same)
    (subst (λ (b : Bool). young_from (cond b (min place file.first) place) since ms ≤ file.first) (sym young)
    (below_second (young_from (min place file.first) since ms) place file.first (least_young (min place file.first) since ms)))
young_stays place since (suc n) (m ∷ ms) file at le = young_stays (cond (nat_le since m.latest) (min place m.first) place) since n ms file at le

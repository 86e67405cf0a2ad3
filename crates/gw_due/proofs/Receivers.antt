-- What an event changes in the list of receivers.
use Rattle.std.proofs.Common.{◌≡◌, ℕ, zero, suc, ◌+◌, ◌-◌, ◌<◌, ◌≤◌, Bool, true, false, cond, List, [], ◌∷◌, ◌++◌, length, map, take, drop, set, get_or, Some, None, refl, sym, ap, ◌∙◌, arith}
use Rattle.std.specs.Prelude.{nat_eq, nat_lt}
use Rattle.std.specs.List.{position, position_from, list_all}
use Rattle.std.proofs.lemmas.Bool.{and_parts, ltb-true}
use Rattle.std.proofs.lemmas.Iterator.Adapters.{position_from-zero}
use Rattle.gw_due.specs.State.{Receiver, named}
use Rattle.gw_due.specs.own.Steps.{has_room_for_one}

abbrev pub has_number : ℕ → Receiver → Bool
has_number n r = nat_eq r.number n

-- ---- a name

module _ (n : ℕ) (name address : List ℕ) where
  abbrev pub moved : Receiver → Receiver
  moved r = record r { address = address }

  abbrev pub one : Receiver
  one = record { number = n; name = name; address = address; from = 0; left = 0; refused = 0 }

  pub record IsNamed (rs : List Receiver) (base k : ℕ) (new : Receiver) : Type 0 where
    pub within : base ≤ k
    pub same : set rs (k - base) new ≡ named n name address rs

  not_below : (rs : List Receiver) (base k : ℕ) → position_from (has_number n) base rs ≡ Some k → base ≤ k
  not_below [] base k found = absurd cc
  not_below (r ∷ rs) base k found = by_test (nat_eq r.number n) found (not_below rs (base + 1) k)
    where
      by_test : (b : Bool) → cond b (Some base) (position_from (has_number n) (base + 1) rs) ≡ Some k
          → (position_from (has_number n) (base + 1) rs ≡ Some k → base + 1 ≤ k) → base ≤ k
      by_test true found more = let here : base ≡ k = cc in omega arith
      by_test false found more = omega (arith, more found)

  by_number : (b : Bool) (r : Receiver) (rs : List Receiver) (base k : ℕ) (d new : Receiver) → nat_eq r.number n ≡ b
      → cond b (Some base) (position_from (has_number n) (base + 1) rs) ≡ Some k → new ≡ moved (get_or (r ∷ rs) (k - base) d)
      → (position_from (has_number n) (base + 1) rs ≡ Some k → new ≡ moved (get_or rs (k - (base + 1)) d) → IsNamed rs (base + 1) k new)
      → IsNamed (r ∷ rs) base k new
  by_number true r rs base k d new is found changed more =
      let here : base ≡ k = cc in
      let none : k - base ≡ 0 = omega arith in
      record {
        within = omega arith;
        same = ap (λ i. set (r ∷ rs) i new) none ∙ ap (λ x. x ∷ rs) (changed ∙ ap (λ i. moved (get_or (r ∷ rs) i d)) none)
            ∙ ap (λ b. cond b (moved r ∷ rs) (r ∷ named n name address rs)) (sym is);
      }
  by_number false r rs base k d new is found changed more =
      let above : base + 1 ≤ k = not_below rs (base + 1) k found in
      let one_less : k - base ≡ suc (k - (base + 1)) = omega arith in
      let rest = more found (changed ∙ ap (λ i. moved (get_or (r ∷ rs) i d)) one_less) in
      record {
        within = omega arith;
        same = ap (λ i. set (r ∷ rs) i new) one_less ∙ ap (λ xs. r ∷ xs) rest.same
            ∙ ap (λ b. cond b (moved r ∷ rs) (r ∷ named n name address rs)) (sym is);
      }

  at_place : (rs : List Receiver) (base k : ℕ) (d new : Receiver) → position_from (has_number n) base rs ≡ Some k → new ≡ moved (get_or rs (k - base) d) → IsNamed rs base k new
  at_place [] base k d new found changed = absurd cc
  at_place (r ∷ rs) base k d new found changed =
      by_number (nat_eq r.number n) r rs base k d new refl found changed (at_place rs (base + 1) k d new)

  pub at_found : (rs : List Receiver) (k : ℕ) (d new : Receiver) → position (has_number n) rs ≡ Some k → new ≡ moved (get_or rs k d) → set rs k new ≡ named n name address rs
  at_found rs k d new found changed =
      let same : k - 0 ≡ k = omega arith in
      let is = at_place rs 0 k d new (sym (position_from-zero (has_number n) rs) ∙ found) (changed ∙ ap (λ i. moved (get_or rs i d)) (sym same)) in
      ap (λ i. set rs i new) (sym same) ∙ is.same

  at_end : (rs : List Receiver) (base : ℕ) → position_from (has_number n) base rs ≡ None → rs ++ one ∷ [] ≡ named n name address rs
  at_end [] base found = refl
  at_end (r ∷ rs) base found = by_test (nat_eq r.number n) refl found (at_end rs (base + 1))
    where
      by_test : (b : Bool) → nat_eq r.number n ≡ b → cond b (Some base) (position_from (has_number n) (base + 1) rs) ≡ None
          → (position_from (has_number n) (base + 1) rs ≡ None → rs ++ one ∷ [] ≡ named n name address rs)
          → r ∷ (rs ++ one ∷ []) ≡ cond (nat_eq r.number n) (moved r ∷ rs) (r ∷ named n name address rs)
      by_test true is found more = absurd cc
      by_test false is found more = ap (λ xs. r ∷ xs) (more found) ∙ ap (λ b. cond b (moved r ∷ rs) (r ∷ named n name address rs)) (sym is)

  pub at_none : (rs : List Receiver) → position (has_number n) rs ≡ None → rs ++ one ∷ [] ≡ named n name address rs
  at_none rs found = at_end rs 0 (sym (position_from-zero (has_number n) rs) ∙ found)

-- ---- each receiver in turn

module _ (f : Receiver → Receiver) where
  -- behind those that were changed stands each as it was
  as_it_was : (all : List Receiver) (i : ℕ) (d : Receiver) → get_or (map f (take i all) ++ drop i all) i d ≡ get_or all i d
  as_it_was all zero d = refl
  as_it_was [] (suc i) d = refl
  as_it_was (r ∷ all) (suc i) d = as_it_was all i d

  all_at : (all : List Receiver) (i : ℕ) (d : Receiver) → i < length all → list_all has_room_for_one all ≡ true → has_room_for_one (get_or all i d) ≡ true
  all_at [] i d less room = absurd (omega arith)
  all_at (r ∷ all) zero d less room = (and_parts (has_room_for_one r) (list_all has_room_for_one all) room).0
  all_at (r ∷ all) (suc i) d less room = all_at all i d (omega arith) (and_parts (has_room_for_one r) (list_all has_room_for_one all) room).1

  pub record HasRoom (r : Receiver) : Type 0 where
    pub left : r.left < 18446744073709551615
    pub refused : r.refused < 18446744073709551615

  pub room_at : (all now : List Receiver) (i : ℕ) (d : Receiver) → i < length all → list_all has_room_for_one all ≡ true → now ≡ map f (take i all) ++ drop i all → HasRoom (get_or now i d)
  room_at all now i d less room is =
      let here : get_or now i d ≡ get_or all i d = ap (λ l. get_or l i d) is ∙ as_it_was all i d in
      let r : Receiver = get_or now i d in
      let both : has_room_for_one r ≡ true = ap has_room_for_one here ∙ all_at all i d less room in
      let parts = and_parts (nat_lt r.left 18446744073709551615) (nat_lt r.refused 18446744073709551615) both in
      record { left = ltb-true _ _ parts.0; refused = ltb-true _ _ parts.1 }

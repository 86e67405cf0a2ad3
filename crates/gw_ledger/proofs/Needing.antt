-- From where on the records of a log are needed.
use Rattle.std.proofs.Common.{◌≡◌, ℕ, ◌+◌, ◌≤◌, Bool, true, false, nat_eq, cond, List, [], ◌∷◌, ◌++◌, length, drop, Some, slice_get, zero, suc, refl, ap, sym, ◌∙◌, subst, arith, length-append}
use Rattle.std.specs.Prelude.{min}
use Rattle.std.proofs.lemmas.List.{drop-append-le, drop-drop}
use Rattle.gw_due.specs.Events.{Event, Planned, Accepted, Again, Passed, Named, Margin, Retired}
use Rattle.gw_due.specs.Due.{Name, due, due_by, due_from, is_among, left, passed}
use Rattle.gw_due.specs.Lawful.{Lawful}
use Rattle.gw_due.specs.State.{Receiver, State, nothing, state_of}
use Rattle.gw_due.proofs.Growing.{due_append, ordered, passed_append}
use Rattle.gw_ledger.specs.Ledgers.{IsInState, Spares, needed_by, needed_from}
use Rattle.gw_ledger.specs.Backlogs.{AreFrom, left_from}
use Rattle.gw_ledger.proofs.Ledging.{lawful_part, next_from}
use Rattle.gw_ledger.proofs.Remaining.{begins_at}

-- ---- places

at_most : (a b c : ℕ) → a ≤ b → b ≤ c → a ≤ c
at_most a b c first second = omega (arith, first, second)

below_one : (a x y : ℕ) → a ≤ min x y → a ≤ x
below_one a x y le = omega (arith, le)

below_other : (a x y : ℕ) → a ≤ min x y → a ≤ y
below_other a x y le = omega (arith, le)

least_of : (x y z : ℕ) → x ≤ z → min x y ≤ z
least_of x y z le = omega (arith, le)

reflexive : (n : ℕ) → n ≤ n
reflexive n = omega arith

from_less : (k m : ℕ) (places : List ℕ) → k ≤ m → AreFrom m places → AreFrom k places
from_less k m [] le are = tt
from_less k m (place ∷ places) le are = (at_most k m place le are.0, from_less k m places le are.1)

from_append : (k : ℕ) (xs ys : List ℕ) → AreFrom k xs → AreFrom k ys → AreFrom k (xs ++ ys)
from_append k [] ys these those = those
from_append k (x ∷ xs) ys these those = (these.0, from_append k xs ys these.1 those)

from_drop : (k n : ℕ) (places : List ℕ) → AreFrom k places → AreFrom k (drop n places)
from_drop k zero places are = are
from_drop k (suc n) [] are = tt
from_drop k (suc n) (place ∷ places) are = from_drop k n places are.1

pub from_at : (k n place : ℕ) (places : List ℕ) → AreFrom k places → slice_get places n ≡ Some place → k ≤ place
from_at k n place [] are at = absurd (cc)
from_at k zero place (x ∷ places) are at = let same : x ≡ place = cc (at) in subst (λ n. k ≤ n) same are.0
from_at k (suc n) place (x ∷ places) are at = from_at k n place places are.1 at

-- ---- what is due

one_from : (at : ℕ) (b : Bool) → AreFrom at (cond b (at ∷ []) [])
one_from at true = (reflexive at, tt)
one_from at false = tt

by_from : (r at : ℕ) (e : Event) → AreFrom at (due_by r at e)
by_from r at (Planned text) = tt
by_from r at (Accepted number to bytes) = one_from at (is_among r to)
by_from r at (Again receiver place) = one_from at (nat_eq receiver r)
by_from r at (Passed receiver place how) = tt
by_from r at (Named receiver name address) = tt
by_from r at (Margin number) = tt
by_from r at (Retired segment) = tt

due_above : (r at : ℕ) (log : List Event) → AreFrom at (due_from r at log)
due_above r at [] = tt
due_above r at (e ∷ log) =
    from_append at (due_by r at e) (due_from r (at + 1) log) (by_from r at e) (from_less at (at + 1) (due_from r (at + 1) log) (omega arith) (due_above r (at + 1) log))

-- ---- by a state

least_given : (place : ℕ) (rs : List Receiver) → needed_by place rs ≤ place
least_given place [] = reflexive place
least_given place (r ∷ rs) = by (nat_eq r.left 0) (λ p. least_given p rs) where
  by : (none : Bool) → ((p : ℕ) → needed_by p rs ≤ p) → needed_by (cond none place (min place r.from)) rs ≤ place
  by true least = least place
  by false least = below_one (needed_by (min place r.from) rs) place r.from (least (min place r.from))

needed_le : (n next place : ℕ) (rs : List Receiver) → place ≤ next → needed_by place rs ≤ left_from n next rs
needed_le n next place [] le = le
needed_le n next place (r ∷ rs) le = by (nat_eq r.number n) (nat_eq r.left 0) (λ p within. needed_le n next p rs within) where
  by : (same none : Bool) → ((p : ℕ) → p ≤ next → needed_by p rs ≤ left_from n next rs)
      → needed_by (cond none place (min place r.from)) rs ≤ cond same (cond none next r.from) (left_from n next rs)
  by true true rest = at_most (needed_by place rs) place next (least_given place rs) le
  by true false rest = below_other (needed_by (min place r.from) rs) place r.from (least_given (min place r.from) rs)
  by false true rest = rest place le
  by false false rest = rest (min place r.from) (least_of place r.from next le)

module _ (Routes : (names : List Name) (plan to bytes : List ℕ) → Type 0) where
  pub left_above : (log : List Event) → Lawful Routes log → (r : ℕ) → AreFrom (needed_from (state_of log)) (left r log)
  left_above log lawful r =
      let s : State = state_of log in
      let is = begins_at Routes log lawful r in
      let from : ℕ = left_from r s.next s.receivers in
      let le : needed_from s ≤ from = needed_le r s.next s.next s.receivers (reflexive s.next) in
      subst (AreFrom (needed_from s)) (sym is.behind) (from_less (needed_from s) from (due_from r from (drop from log)) le (due_above r from (drop from log)))

  -- and as the log grows
  pub left_later : (log more : List Event) → Lawful Routes (log ++ more) → (r : ℕ) → AreFrom (needed_from (state_of log)) (left r (log ++ more))
  left_later log more lawful r =
      let k : ℕ = needed_from (state_of log) in
      let part : Lawful Routes log = lawful_part Routes log (log ++ more) (more, refl) lawful in
      let p = ordered Routes log part r in
      let fresh : List ℕ = due_from r (0 + length log) more in
      let a : ℕ = length (passed r log) in
      let b : ℕ = length (passed r more) in
      let within : a ≤ length (due r log) = let whole = ap length p.1 in let sum = length-append (passed r log) p.0 in omega (arith, whole, sum) in
      let count : length (passed r (log ++ more)) ≡ a + b = ap length (passed_append r log more) ∙ length-append (passed r log) (passed r more) in
      let split : left r (log ++ more) ≡ drop b (left r log ++ fresh) =
      ap (λ n. drop n (due r (log ++ more))) count ∙ ap (drop (a + b)) (due_append r 0 log more) ∙ sym (drop-drop b a (due r log ++ fresh))
      ∙ ap (drop b) (drop-append-le a (due r log) fresh within) in
      let next : (state_of log).next ≡ length log = let from = next_from nothing log in omega (arith, from) in
      let least : k ≤ (state_of log).next = least_given (state_of log).next (state_of log).receivers in
      let start : k ≤ 0 + length log = omega (arith, least, next) in
      subst (AreFrom k) (sym split) (from_drop k b (left r log ++ fresh)
      (from_append k (left r log) fresh (left_above log part r) (from_less k (0 + length log) fresh start (due_above r (0 + length log) more))))

  -- what a ledger may spare by its state
  pub spared_by : (faithful : Type 0) (records : List (List ℕ)) (s : State) (place : ℕ) → IsInState Routes faithful records s → place ≤ needed_from s → Spares records place
  spared_by faithful records s place is le entries spells = subst (λ (t : State). place ≤ needed_from t) (is.is entries spells) le

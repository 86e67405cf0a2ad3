-- What a state decides, and what is seen of the log.
use Rattle.std.proofs.Common.{◌≡◌, ◌↔◌, ℕ, ◌<◌, Bool, true, false, List, [], ◌∷◌, length, drop, Option, Some, None, slice_get, refl, ap, sym, ◌∙◌, subst, arith}
use Rattle.std.specs.Prelude.{◌&&◌, ◌||◌, nat_eq, nat_lt, nat_le, IfSome, IsTrue}
use Rattle.std.specs.List.{list_any, list_all, AllByRecursion}
use Rattle.std.proofs.lemmas.Bool.{and_parts, eqb-true, lt-ltb, ltb-true, le-leb, leb-true}
use Rattle.std.proofs.lemmas.List.{length-drop}
use Rattle.std.proofs.lemmas.Option.{slice_get_within}
use Rattle.gw_due.specs.Events.{Event, Planned, Accepted, Again, Passed, Named, Margin, Retired}
use Rattle.gw_due.specs.Due.{left, last, Name, names}
use Rattle.gw_due.specs.Lawful.{Lawful, MayFollow, is_named}
use Rattle.gw_due.specs.State.{Receiver, State, state_of, is_known, is_above, awaits, allows}
use Rattle.gw_due.specs.Says.{SaysOf, IsSeen}
use Rattle.gw_due.proofs.Growing.{first_is}
use Rattle.gw_due.proofs.Standing.{first_due}
use Rattle.gw_due.proofs.Stating.{Stands, stands}

both_true : (a b : Bool) → a ≡ true → b ≡ true → (a && b) ≡ true
both_true true b p q = q
both_true false b p q = absurd cc

same_all : (p q : ℕ → Bool) → ((n : ℕ) → p n ≡ q n) → (ns : List ℕ) → list_all p ns ≡ list_all q ns
same_all p q same [] = refl
same_all p q same (n ∷ ns) = ap (λ b. b && list_all p ns) (same n) ∙ ap (λ b. q n && b) (same_all p q same ns)

above_true : (o : Option ℕ) (n : ℕ) → IfSome o (λ m. m < n) → is_above o n ≡ true
above_true None n is = refl
above_true (Some m) n is = lt-ltb m n is

true_above : (o : Option ℕ) (n : ℕ) → is_above o n ≡ true → IfSome o (λ m. m < n)
true_above None n is = tt
true_above (Some m) n is = ltb-true m n is

-- a place that is left for a receiver is one that the state awaits
record IsAwaited (log : List Event) (n place : ℕ) (rs : List Receiver) : Type 0 where
  pub below : place < length log
  pub awaited : list_any (awaits n place) rs ≡ true

awaited : (log : List Event) (n place : ℕ) (rs : List Receiver) → AllByRecursion (SaysOf log) rs → is_known rs n ≡ true → slice_get (left n log) 0 ≡ Some place
    → IsAwaited log n place rs
awaited log n place [] says known next = absurd cc
awaited log n place (r ∷ rs) says known next = by_number (nat_eq r.number n) refl known (λ more. awaited log n place rs says.1 more next)
  where
    by_number : (b : Bool) → nat_eq r.number n ≡ b → (b || is_known rs n) ≡ true → (is_known rs n ≡ true → IsAwaited log n place rs) → IsAwaited log n place (r ∷ rs)
    by_number true is known rest =
        let here : slice_get (left r.number log) 0 ≡ Some place = subst (λ k. slice_get (left k log) 0 ≡ Some place) (sym (eqb-true r.number n is)) next in
        let first = first_is (left r.number log) place here in
        let place_is = first_due r.number r.from place (drop r.from log) first.0 (sym says.0.behind ∙ first.1) in
        let some : nat_lt 0 r.left ≡ true = lt-ltb 0 r.left (omega (arith, says.0.left, ap length first.1)) in
        let from : nat_le r.from place ≡ true = le-leb r.from place place_is.within in
        record {
          below = omega (arith, place_is.below, length-drop r.from log, says.0.within);
          awaited = ap (λ b. b || list_any (awaits n place) rs)
              (both_true (nat_eq r.number n) (nat_lt 0 r.left && nat_le r.from place) is (both_true (nat_lt 0 r.left) (nat_le r.from place) some from));
        }
    by_number false is known rest =
        let more = rest known in
        record {
          below = more.below;
          awaited = ap (λ b. (b && (nat_lt 0 r.left && nat_le r.from place)) || list_any (awaits n place) rs) is ∙ more.awaited;
        }

-- one that is awaited is known
is_there : (n place : ℕ) (rs : List Receiver) → list_any (awaits n place) rs ≡ true → is_known rs n ≡ true
is_there n place [] is = absurd cc
is_there n place (r ∷ rs) is = by_number (nat_eq r.number n) is (is_there n place rs)
  where
    by_number : (b : Bool) → ((b && (nat_lt 0 r.left && nat_le r.from place)) || list_any (awaits n place) rs) ≡ true
        → (list_any (awaits n place) rs ≡ true → is_known rs n ≡ true) → (b || is_known rs n) ≡ true
    by_number true is rest = refl
    by_number false is rest = rest is

module _ (Routes : (names : List Name) (plan to bytes : List ℕ) → Type 0) (log : List Event) (s : State) (is : Stands Routes log s) where
  named_all : (to : List ℕ) → list_all (is_known s.receivers) to ≡ list_all (is_named (names log)) to
  named_all to = same_all (is_known s.receivers) (is_named (names log)) is.has.known to

  pub decided : (e : Event) → MayFollow Routes log e → IsTrue (allows s e) × IsSeen Routes log e
  decided (Planned text) may = (refl, tt)
  decided (Accepted number to bytes) may =
      let above = subst (λ o. is_above o number ≡ true) (sym is.says.last) (above_true (last log) number may.above) in
      let below : nat_lt number s.margin ≡ true = lt-ltb number s.margin (omega (arith, is.says.margin, may.below)) in
      (both_true (list_all (is_known s.receivers) to) (is_above s.last number && nat_lt number s.margin) (named_all to ∙ may.named) (both_true (is_above s.last number) (nat_lt number s.margin) above below), may.routed)
  decided (Again r place) may =
      let within = slice_get_within log place (Accepted may.1.number may.1.to may.1.bytes) may.1.there in
      (both_true (is_known s.receivers r) (nat_lt place s.next) (is.has.known r ∙ may.0) (lt-ltb place s.next (omega (arith, is.says.next, within))), may.1)
  decided (Passed r place how) may =
      let there = awaited log r place s.receivers is.says.receivers (is.has.known r ∙ may.0) may.1 in
      (both_true (nat_lt place s.next) (list_any (awaits r place) s.receivers) (lt-ltb place s.next (omega (arith, is.says.next, there.below))) there.awaited, may.1)
  decided (Named r name address) may = (is.has.agree r name ∙ may, tt)
  decided (Margin number) may = (le-leb s.margin number (omega (arith, is.says.margin, may)), tt)
  decided (Retired segment) may = (le-leb s.oldest segment (omega (arith, is.says.oldest, may)), tt)

  pub seen : (e : Event) → IsTrue (allows s e) × IsSeen Routes log e → MayFollow Routes log e
  seen (Planned text) both = tt
  seen (Accepted number to bytes) both =
      let parts = and_parts (list_all (is_known s.receivers) to) (is_above s.last number && nat_lt number s.margin) both.0 in
      let more = and_parts (is_above s.last number) (nat_lt number s.margin) parts.1 in
      record {
        routed = both.1;
        named = sym (named_all to) ∙ parts.0;
        above = true_above (last log) number (subst (λ o. is_above o number ≡ true) is.says.last more.0);
        below = omega (arith, is.says.margin, ltb-true number s.margin more.1);
      }
  seen (Again r place) both = (sym (is.has.known r) ∙ (and_parts (is_known s.receivers r) (nat_lt place s.next) both.0).0, both.1)
  seen (Passed r place how) both =
      let awaited = (and_parts (nat_lt place s.next) (list_any (awaits r place) s.receivers) both.0).1 in
      (sym (is.has.known r) ∙ is_there r place s.receivers awaited, both.1)
  seen (Named r name address) both = sym (is.has.agree r name) ∙ both.0
  seen (Margin number) both = omega (arith, is.says.margin, leb-true s.margin number both.0)
  seen (Retired segment) both = omega (arith, is.says.oldest, leb-true s.oldest segment both.0)

pub decides : (Routes : (names : List Name) (plan to bytes : List ℕ) → Type 0) (log : List Event) (e : Event) → Lawful Routes log
    → MayFollow Routes log e ↔ (IsTrue (allows (state_of log) e) × IsSeen Routes log e)
decides Routes log e lawful =
    let is = stands Routes log lawful in
    (decided Routes log (state_of log) is e, seen Routes log (state_of log) is e)

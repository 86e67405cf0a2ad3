-- What a state says of a lawful log.
use Rattle.std.proofs.Common.{◌≡◌, ℕ, Bool, true, false, cond, List, [], ◌∷◌, ◌++◌, length, map, Some, slice_get, refl, ap, sym, ◌∙◌, subst, append_assoc, arith, drop}
use Rattle.std.specs.Prelude.{◌||◌, nat_eq}
use Rattle.std.specs.List.{list_all, AllByRecursion}
use Rattle.std.proofs.lemmas.Bool.{and_parts, eqb-true}
use Rattle.std.proofs.lemmas.List.{append-nil}
use Rattle.std.proofs.lemmas.List.Folds.{list_any-append}
use mathlib.Core.List.{IsPrefix}
use Rattle.gw_due.specs.Events.{How, Taken, Refused, Skipped, Event, Planned, Accepted, Again, Passed, Named, Margin, Retired}
use Rattle.gw_due.specs.Due.{is_among, due, passed, passed_by, refused_by, refused, due_by, left, Name, names, names_by}
use Rattle.gw_due.specs.Lawful.{Lawful, no_event, one_more, MayFollow, is_named}
use Rattle.gw_due.specs.State.{Receiver, receiver_by, named, owed, refusals, is_known}
use Rattle.gw_due.specs.State as state
use Rattle.gw_due.specs.Says.{SaysOf}
use Rattle.gw_due.proofs.Growing.{ordered}
use Rattle.gw_due.proofs.Standing.{not_due, not_passed, not_refused, quiet, owing, passing}

-- ---- one receiver

after_choice : (b : Bool) (log' : List Event) (x y : Receiver) → (b ≡ true → SaysOf log' x) → (b ≡ false → SaysOf log' y) → SaysOf log' (cond b x y)
after_choice true log' x y holds fails = holds refl
after_choice false log' x y holds fails = fails refl

choice : {A : Type 0} (b c : Bool) (x y : A) → b ≡ c → cond b x y ≡ cond c x y
choice b c x y is = ap (λ b. cond b x y) is

refuses : (n s place : ℕ) (how : How) → nat_eq s n ≡ true → length (refused_by n (Passed s place how)) ≡ refusals how
refuses n s place Taken is = refl
refuses n s place (Refused code reason) is = ap length (choice (nat_eq s n) true (place ∷ []) [] is)
refuses n s place Skipped is = refl

refuses_not : (n s place : ℕ) (how : How) → nat_eq s n ≡ false → refused_by n (Passed s place how) ≡ []
refuses_not n s place Taken is = refl
refuses_not n s place (Refused code reason) is = choice (nat_eq s n) false (place ∷ []) [] is
refuses_not n s place Skipped is = refl

-- ---- names

pub or_false : (b : Bool) → (b || false) ≡ b
or_false true = refl
or_false false = refl

or_none : (a b : Bool) → (a || b) ≡ false → (a ≡ false) × (b ≡ false)
or_none true b is = absurd cc
or_none false b is = (refl, is)

names_append : (xs ys : List Event) → names (xs ++ ys) ≡ names xs ++ names ys
names_append [] ys = refl
names_append (x ∷ xs) ys = ap (λ l. names_by x ++ l) (names_append xs ys) ∙ sym (append_assoc (names_by x) (names xs) (names ys))

pub names_then : (log : List Event) (e : Event) → names (log ++ e ∷ []) ≡ names log ++ names_by e
names_then log e = names_append log (e ∷ []) ∙ ap (λ l. names log ++ l) (append-nil (names_by e))

abbrev has : ℕ → Name → Bool
has n name = nat_eq name.number n

not_yet : (n : ℕ) (log : List Event) (e : Event) → is_named (names (log ++ e ∷ [])) n ≡ false → is_named (names log) n ≡ false
not_yet n log e is =
    let whole : (is_named (names log) n || is_named (names_by e) n) ≡ false =
    sym (list_any-append (has n) (names log) (names_by e)) ∙ sym (ap (λ l. is_named l n) (names_then log e)) ∙ is in
    (or_none (is_named (names log) n) (is_named (names_by e) n) whole).0

among : (p : ℕ → Bool) (n : ℕ) (to : List ℕ) → list_all p to ≡ true → is_among n to ≡ true → p n ≡ true
among p n [] all is = absurd cc
among p n (m ∷ to) all is = by_test (nat_eq m n) refl is (among p n to (and_parts (p m) (list_all p to) all).1)
  where
    by_test : (b : Bool) → nat_eq m n ≡ b → (b || is_among n to) ≡ true → (is_among n to ≡ true → p n ≡ true) → p n ≡ true
    by_test true same is rest = subst (λ k. p k ≡ true) (eqb-true m n same) (and_parts (p m) (list_all p to) all).0
    by_test false same is rest = rest is

clash : {b : Bool} → b ≡ true → b ≡ false → ⊥
clash h f = cc

-- ---- nothing is due to a receiver without a name

pub record IsStranger (n : ℕ) (log : List Event) : Type 0 where
  pub due : due n log ≡ []
  pub passed : passed n log ≡ []
  pub refused : refused n log ≡ []

silent : (n : ℕ) (log : List Event) (e : Event) → ((k : ℕ) → due_by n k e ≡ []) → passed_by n e ≡ [] → refused_by n e ≡ [] → IsStranger n log → IsStranger n (log ++ e ∷ [])
silent n log e none no_pass no_refusal is = record {
  due = not_due n log e none ∙ is.due;
  passed = not_passed n log e no_pass ∙ is.passed;
  refused = not_refused n log e no_refusal ∙ is.refused;
}

is_false : (b : Bool) → (b ≡ true → ⊥) → b ≡ false
is_false true h = absurd (h refl)
is_false false h = refl

module _ (Routes : (names : List Name) (plan to bytes : List ℕ) → Type 0) where
  one_step : (log : List Event) (e : Event) (r : Receiver) → MayFollow Routes log e → IsPrefix (passed r.number log) (due r.number log)
      → SaysOf log r → SaysOf (log ++ e ∷ []) (receiver_by (length log) e r)
  one_step log (Planned text) r may prefix says = quiet log (Planned text) r (λ k. refl) refl refl says
  one_step log (Accepted number to bytes) r may prefix says =
      let e : Event = Accepted number to bytes in
      after_choice (is_among r.number to) (log ++ e ∷ []) (owed (length log) r) r
      (λ is. owing log e r prefix (λ k. choice (is_among r.number to) true (k ∷ []) [] is) refl refl says)
      (λ is. quiet log e r (λ k. choice (is_among r.number to) false (k ∷ []) [] is) refl refl says)
  one_step log (Again s place) r may prefix says =
      let e : Event = Again s place in
      after_choice (nat_eq s r.number) (log ++ e ∷ []) (owed (length log) r) r
      (λ is. owing log e r prefix (λ k. choice (nat_eq s r.number) true (k ∷ []) [] is) refl refl says)
      (λ is. quiet log e r (λ k. choice (nat_eq s r.number) false (k ∷ []) [] is) refl refl says)
  one_step log (Passed s place how) r may prefix says =
      let e : Event = Passed s place how in
      after_choice (nat_eq s r.number) (log ++ e ∷ []) (state.passed place how r) r
      (λ is. passing log e r place how (λ k. refl) (choice (nat_eq s r.number) true (place ∷ []) [] is) (refuses r.number s place how is)
      (subst (λ n. slice_get (left n log) 0 ≡ Some place) (eqb-true s r.number is) may.1) says)
      (λ is. quiet log e r (λ k. refl) (choice (nat_eq s r.number) false (place ∷ []) [] is) (refuses_not r.number s place how is) says)
  one_step log (Named s name address) r may prefix says = quiet log (Named s name address) r (λ k. refl) refl refl says
  one_step log (Margin number) r may prefix says = quiet log (Margin number) r (λ k. refl) refl refl says
  one_step log (Retired segment) r may prefix says = quiet log (Retired segment) r (λ k. refl) refl refl says

  pub all_step : (log : List Event) (e : Event) (rs : List Receiver) → MayFollow Routes log e → Lawful Routes log
      → AllByRecursion (SaysOf log) rs → AllByRecursion (SaysOf (log ++ e ∷ [])) (map (receiver_by (length log) e) rs)
  all_step log e [] may lawful says = tt
  all_step log e (r ∷ rs) may lawful says = (one_step log e r may (ordered Routes log lawful r.number) says.0, all_step log e rs may lawful says.1)

  pub stranger_step : (n : ℕ) (log : List Event) (e : Event) → MayFollow Routes log e → is_named (names log) n ≡ false → IsStranger n log → IsStranger n (log ++ e ∷ [])
  stranger_step n log (Planned text) may unnamed is = silent n log (Planned text) (λ k. refl) refl refl is
  stranger_step n log (Accepted number to bytes) may unnamed is =
      let not_to : is_among n to ≡ false = is_false (is_among n to) (λ there. clash (among (is_named (names log)) n to may.named there) unnamed) in
      silent n log (Accepted number to bytes) (λ k. choice (is_among n to) false (k ∷ []) [] not_to) refl refl is
  stranger_step n log (Again s place) may unnamed is =
      let other : nat_eq s n ≡ false = is_false (nat_eq s n) (λ same. clash (subst (λ k. is_named (names log) k ≡ true) (eqb-true s n same) may.0) unnamed) in
      silent n log (Again s place) (λ k. choice (nat_eq s n) false (k ∷ []) [] other) refl refl is
  stranger_step n log (Passed s place how) may unnamed is =
      let other : nat_eq s n ≡ false = is_false (nat_eq s n) (λ same. clash (subst (λ k. is_named (names log) k ≡ true) (eqb-true s n same) may.0) unnamed) in
      silent n log (Passed s place how) (λ k. refl) (choice (nat_eq s n) false (place ∷ []) [] other) (refuses_not n s place how other) is
  stranger_step n log (Named s name address) may unnamed is = silent n log (Named s name address) (λ k. refl) refl refl is
  stranger_step n log (Margin number) may unnamed is = silent n log (Margin number) (λ k. refl) refl refl is
  stranger_step n log (Retired segment) may unnamed is = silent n log (Retired segment) (λ k. refl) refl refl is

  pub stranger : (n : ℕ) (log : List Event) → Lawful Routes log → is_named (names log) n ≡ false → IsStranger n log
  stranger n [] no_event unnamed = record { due = refl; passed = refl; refused = refl }
  stranger n _ (one_more log e lawful may) unnamed =
      let before = not_yet n log e unnamed in
      stranger_step n log e may before (stranger n log lawful before)

  abbrev pub new_one : ℕ → List ℕ → List ℕ → Receiver
  new_one n name address = record { number = n; name = name; address = address; from = 0; left = 0; refused = 0 }

  pub new_says : (n : ℕ) (name address : List ℕ) (log : List Event) → IsStranger n log → SaysOf log (new_one n name address)
  new_says n name address log is =
      let all : left n log ≡ due n log = ap (λ l. drop (length l) (due n log)) is.passed in
      record {
        within = omega arith;
        behind = all;
        left = sym (ap length (all ∙ is.due));
        refused = sym (ap length is.refused);
      }

  pub named_says : (log : List Event) (n : ℕ) (name address : List ℕ) (rs : List Receiver) → (is_known rs n ≡ false → SaysOf log (new_one n name address))
      → AllByRecursion (SaysOf log) rs → AllByRecursion (SaysOf log) (named n name address rs)
  named_says log n name address [] new says = (new refl, tt)
  named_says log n name address (r ∷ rs) new says = by_number (nat_eq r.number n) refl (λ more. named_says log n name address rs more says.1)
    where
      by_number : (b : Bool) → nat_eq r.number n ≡ b → ((is_known rs n ≡ false → SaysOf log (new_one n name address)) → AllByRecursion (SaysOf log) (named n name address rs))
          → AllByRecursion (SaysOf log) (cond b (record r { address = address } ∷ rs) (r ∷ named n name address rs))
      by_number true is rest = (record { within = says.0.within; behind = says.0.behind; left = says.0.left; refused = says.0.refused }, says.1)
      by_number false is rest = (says.0, rest (λ unknown. new (ap (λ b. b || is_known rs n) is ∙ unknown)))

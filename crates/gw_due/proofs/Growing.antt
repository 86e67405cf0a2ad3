-- A log that grows.
use Rattle.std.proofs.Common.{◌≡◌, ℕ, zero, suc, ◌+◌, ◌≤◌, ◌<◌, List, [], ◌∷◌, ◌++◌, length, take, drop, Some, slice_get, refl, ap, sym, ◌∙◌, subst, arith, append_assoc}
use Rattle.std.specs.Prelude.{Bool, true, false, nat_eq, if◌then◌else◌}
use Rattle.std.proofs.lemmas.Bool.{eqb-true}
use Rattle.std.proofs.lemmas.List.{append-nil}
use mathlib.Core.List.{IsPrefix}
use Rattle.gw_due.specs.Events.{Event, Planned, Accepted, Again, Passed, Named, Margin, Retired, How}
use Rattle.gw_due.specs.Due.{due_by, due_from, due, passed_by, passed, refused_by, refused, left, plan, plan_at, Name}
use Rattle.gw_due.specs.Lawful.{Lawful, no_event, one_more, MayFollow}

pub due_append : (r at : ℕ) (xs ys : List Event) → due_from r at (xs ++ ys) ≡ due_from r at xs ++ due_from r (at + length xs) ys
due_append r at [] ys = let e : at + 0 ≡ at = omega arith in ap (λ n. due_from r n ys) (sym e)
due_append r at (x ∷ xs) ys =
    let e : (at + 1) + length xs ≡ at + length (x ∷ xs) = omega arith in
    ap (λ l. due_by r at x ++ l) (due_append r (at + 1) xs ys ∙ ap (λ n. due_from r (at + 1) xs ++ due_from r n ys) e)
    ∙ sym (append_assoc (due_by r at x) (due_from r (at + 1) xs) (due_from r (at + length (x ∷ xs)) ys))

pub passed_append : (r : ℕ) (xs ys : List Event) → passed r (xs ++ ys) ≡ passed r xs ++ passed r ys
passed_append r [] ys = refl
passed_append r (x ∷ xs) ys = ap (λ l. passed_by r x ++ l) (passed_append r xs ys) ∙ sym (append_assoc (passed_by r x) (passed r xs) (passed r ys))

pub refused_append : (r : ℕ) (xs ys : List Event) → refused r (xs ++ ys) ≡ refused r xs ++ refused r ys
refused_append r [] ys = refl
refused_append r (x ∷ xs) ys = ap (λ l. refused_by r x ++ l) (refused_append r xs ys) ∙ sym (append_assoc (refused_by r x) (refused r xs) (refused r ys))

pub due_grows : (r : ℕ) (log more : List Event) → IsPrefix (due r log) (due r (log ++ more))
due_grows r log more = (due_from r (0 + length log) more, sym (due_append r 0 log more))

pub passed_grows : (r : ℕ) (log more : List Event) → IsPrefix (passed r log) (passed r (log ++ more))
passed_grows r log more = (passed r more, sym (passed_append r log more))

take_front : {A : Type 0} (n : ℕ) (xs ys : List A) → n ≤ length xs → take n (xs ++ ys) ≡ take n xs
take_front zero [] ys le = refl
take_front zero (x ∷ xs) ys le = refl
take_front (suc n) [] ys le = absurd (omega arith)
take_front (suc n) (x ∷ xs) ys le = ap (λ l. x ∷ l) (take_front n xs ys (omega arith))

pub plan_stays : (place : ℕ) (log more : List Event) → place < length log → plan_at place (log ++ more) ≡ plan_at place log
plan_stays place log more less = ap plan (take_front place log more (omega (arith, less)))

-- ---- in order

pub drop_front : {A : Type 0} (xs ys : List A) → drop (length xs) (xs ++ ys) ≡ ys
drop_front [] ys = refl
drop_front (x ∷ xs) ys = drop_front xs ys

-- the first of a list
pub first_is : {A : Type 0} (xs : List A) (x : A) → slice_get xs 0 ≡ Some x → (rest : List A) × (xs ≡ x ∷ rest)
first_is [] x e = absurd (cc)
first_is (y ∷ xs) x e = (xs, cc (e))

prefix_more : (these those more : List ℕ) → IsPrefix these those → IsPrefix these (those ++ more)
prefix_more these those more p = (p.0 ++ more, sym (append_assoc these p.0 more) ∙ ap (λ l. l ++ more) p.1)

-- one place more, which is the next
prefix_next : (done all more : List ℕ) (place : ℕ) → IsPrefix done all → slice_get (drop (length done) all) 0 ≡ Some place → IsPrefix (done ++ place ∷ []) (all ++ more)
prefix_next done all more place p next =
    let behind : drop (length done) all ≡ p.0 = ap (λ l. drop (length done) l) (sym p.1) ∙ drop_front done p.0 in
    let f = first_is p.0 place (ap (λ l. slice_get l 0) (sym behind) ∙ next) in (
      f.0 ++ more,
      append_assoc done (place ∷ []) (f.0 ++ more)
          ∙ sym (append_assoc done (place ∷ f.0) more)
          ∙ ap (λ l. (done ++ l) ++ more) (sym f.1)
          ∙ ap (λ l. l ++ more) p.1,
    )

module _ (Routes : (names : List Name) (plan to bytes : List ℕ) → Type 0) where
  none_by : (r : ℕ) (log : List Event) (e : Event) → passed_by r e ≡ [] → IsPrefix (passed r log) (due r log) → IsPrefix (passed r (log ++ e ∷ [])) (due r (log ++ e ∷ []))
  none_by r log e is p =
      let same : passed r (log ++ e ∷ []) ≡ passed r log =
      passed_append r log (e ∷ []) ∙ ap (λ l. passed r log ++ (l ++ [])) is ∙ append-nil (passed r log) in
      subst (λ l. IsPrefix l (due r (log ++ e ∷ []))) (sym same)
      (subst (λ l. IsPrefix (passed r log) l) (sym (due_append r 0 log (e ∷ []))) (prefix_more (passed r log) (due r log) (due_from r (0 + length log) (e ∷ [])) p))

  one_by : (r : ℕ) (log : List Event) (s place : ℕ) (how : How) (b : Bool) → nat_eq s r ≡ b → (b ≡ true → s ≡ r) → slice_get (left s log) 0 ≡ Some place
      → IsPrefix (passed r log) (due r log) → IsPrefix (passed r (log ++ Passed s place how ∷ [])) (due r (log ++ Passed s place how ∷ []))
  one_by r log s place how false is same next p = none_by r log (Passed s place how) (ap (λ b. if b then place ∷ [] else []) is) p
  one_by r log s place how true is same next p =
      let here : slice_get (left r log) 0 ≡ Some place = subst (λ k. slice_get (left k log) 0 ≡ Some place) (same refl) next in
      let now : passed r (log ++ Passed s place how ∷ []) ≡ passed r log ++ place ∷ [] =
      passed_append r log (Passed s place how ∷ []) ∙ ap (λ b. passed r log ++ ((if b then place ∷ [] else []) ++ [])) is in
      subst (λ l. IsPrefix l (due r (log ++ Passed s place how ∷ []))) (sym now)
      (subst (λ l. IsPrefix (passed r log ++ place ∷ []) l) (sym (due_append r 0 log (Passed s place how ∷ [])))
      (prefix_next (passed r log) (due r log) (due_from r (0 + length log) (Passed s place how ∷ [])) place p here))

  same_by : (s r : ℕ) → (b : Bool) → nat_eq s r ≡ b → b ≡ true → s ≡ r
  same_by s r true is told = eqb-true s r is
  same_by s r false is told = absurd (cc told)

  step : (r : ℕ) (log : List Event) (e : Event) → MayFollow Routes log e → IsPrefix (passed r log) (due r log) → IsPrefix (passed r (log ++ e ∷ [])) (due r (log ++ e ∷ []))
  step r log (Planned text) may p = none_by r log (Planned text) refl p
  step r log (Accepted number to bytes) may p = none_by r log (Accepted number to bytes) refl p
  step r log (Again s place) may p = none_by r log (Again s place) refl p
  step r log (Named s name address) may p = none_by r log (Named s name address) refl p
  step r log (Margin number) may p = none_by r log (Margin number) refl p
  step r log (Retired segment) may p = none_by r log (Retired segment) refl p
  step r log (Passed s place how) may p = one_by r log s place how (nat_eq s r) refl (same_by s r (nat_eq s r) refl) may.1 p

  pub ordered : (log : List Event) → Lawful Routes log → (r : ℕ) → IsPrefix (passed r log) (due r log)
  ordered [] no_event r = ([], refl)
  ordered _ (one_more log e lawful may) r = step r log e may (ordered log lawful r)

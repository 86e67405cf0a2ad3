-- What is sent over all runs.
use Rattle.std.proofs.Common.{◌≡◌, ◌⊎◌, inl, inr, ℕ, List, [], ◌∷◌, ◌++◌, length, drop, Some, slice_get, ap, sym, ◌∙◌, subst, append_assoc}
use Rattle.std.proofs.lemmas.List.{append-nil}
use mathlib.Core.List.{IsPrefix}
use Rattle.gw_due.specs.Events.{Event}
use Rattle.gw_due.specs.Due.{due, passed, left}
use Rattle.gw_due.specs.Runs.{Runs, no_run, one_run, Covers, nothing, whole, again}
use Rattle.gw_due.proofs.Growing.{due_grows, drop_front, first_is}

-- what was passed goes on, and so does what is due
pub runs_passed : (r : ℕ) (old new : List Event) (sent : List (List ℕ)) → Runs r old sent new → IsPrefix (passed r old) (passed r new)
runs_passed r old _ _ (no_run _) = ([], append-nil (passed r old))
runs_passed r old new _ (one_run _ mid _ sent all run runs) =
    let p = runs_passed r mid new all runs in
    (run.taken ++ p.0, sym (append_assoc (passed r old) run.taken p.0) ∙ ap (λ l. l ++ p.0) (sym run.done) ∙ p.1)

pub runs_due : (r : ℕ) (old new : List Event) (sent : List (List ℕ)) → Runs r old sent new → IsPrefix (due r old) (due r new)
runs_due r old _ _ (no_run _) = ([], append-nil (due r old))
runs_due r old new _ (one_run _ mid _ sent all run runs) =
    let g = due_grows r old run.more.0 in
    let first : due r old ++ g.0 ≡ due r mid = g.1 ∙ ap (due r) run.more.1 in
    let p = runs_due r mid new all runs in
    (g.0 ++ p.0, sym (append_assoc (due r old) g.0 p.0) ∙ ap (λ l. l ++ p.0) first ∙ p.1)

get_front : (xs ys : List ℕ) (x : ℕ) → slice_get xs 0 ≡ Some x → slice_get (xs ++ ys) 0 ≡ Some x
get_front [] ys x e = absurd (cc)
get_front (z ∷ xs) ys x e = e

-- what is left of a longer list
pub drop_more : (n : List ℕ) (xs ys zs : List ℕ) → n ++ zs ≡ xs → drop (length n) (xs ++ ys) ≡ drop (length n) xs ++ ys
drop_more n xs ys zs is =
    ap (λ l. drop (length n) (l ++ ys)) (sym is) ∙ ap (λ l. drop (length n) l) (append_assoc n zs ys) ∙ drop_front n (zs ++ ys)
    ∙ ap (λ l. l ++ ys) (sym (drop_front n zs) ∙ ap (λ l. drop (length n) l) is)

module _ (r : ℕ) where
  -- one run before others: what it took, and then what was left
  cut_at : (was taken rest all : List ℕ) → (was ++ taken) ++ rest ≡ all → drop (length was) all ≡ taken ++ rest
  cut_at was taken rest all is = ap (λ l. drop (length was) l) (sym is ∙ append_assoc was taken rest) ∙ drop_front was (taken ++ rest)

  by_sent : (taken rest sent : List ℕ) (all : List (List ℕ))
      → (sent ≡ taken) ⊎ ((next : ℕ) × (slice_get rest 0 ≡ Some next) × (sent ≡ taken ++ next ∷ [])) → Covers rest all → Covers (taken ++ rest) (sent ∷ all)
  by_sent taken rest sent all (inl is) covers = subst (λ s. Covers (taken ++ rest) (s ∷ all)) (sym is) (whole taken rest all covers)
  by_sent taken rest sent all (inr (next, first, is)) covers =
      let f = first_is rest next first in
      let behind = subst (λ l. Covers l all) f.1 covers in
      subst (λ s. Covers (taken ++ rest) (s ∷ all)) (sym is)
      (subst (λ l. Covers (taken ++ l) ((taken ++ next ∷ []) ∷ all)) (sym f.1) (again taken f.0 next all behind))

  pub covering : (old new : List Event) (sent : List (List ℕ)) → Runs r old sent new → IsPrefix (passed r new) (due r new)
      → Covers (drop (length (passed r old)) (due r new)) sent
  covering old _ _ (no_run _) p = nothing _
  covering old new _ (one_run _ mid _ sent all run runs) p =
      let on = runs_passed r mid new all runs in
      let rest = on.0 ++ p.0 in
      let whole_is : passed r mid ++ rest ≡ due r new = sym (append_assoc (passed r mid) on.0 p.0) ∙ ap (λ l. l ++ p.0) on.1 ∙ p.1 in
      let here : drop (length (passed r mid)) (due r new) ≡ rest = ap (λ l. drop (length (passed r mid)) l) (sym whole_is) ∙ drop_front (passed r mid) rest in
      let covers = subst (λ l. Covers l all) here (covering mid new all runs p) in
      let cut = cut_at (passed r old) run.taken rest (due r new) (ap (λ l. l ++ rest) (sym run.done) ∙ whole_is) in
      let d = runs_due r mid new all runs in
      let first : (next : ℕ) → slice_get (left r mid) 0 ≡ Some next → slice_get rest 0 ≡ Some next = λ next is.
      subst (λ l. slice_get l 0 ≡ Some next) here (now mid new next d on p is) in
      subst (λ l. Covers l (sent ∷ all)) (sym cut) (by_sent run.taken rest sent all (sends run.taken sent rest (left r mid) run.sends first) covers)
    where
      longer : (n xs ys : List ℕ) (x : ℕ) → slice_get (drop (length n) xs) 0 ≡ Some x → slice_get (drop (length n) (xs ++ ys)) 0 ≡ Some x
      longer [] xs ys x e = get_front xs ys x e
      longer (k ∷ n) [] ys x e = absurd (cc)
      longer (k ∷ n) (z ∷ xs) ys x e = longer n xs ys x e

      now : (mid new : List Event) (next : ℕ) → IsPrefix (due r mid) (due r new) → IsPrefix (passed r mid) (passed r new) → IsPrefix (passed r new) (due r new)
          → slice_get (left r mid) 0 ≡ Some next → slice_get (drop (length (passed r mid)) (due r new)) 0 ≡ Some next
      now mid new next d on p is =
          subst (λ l. slice_get (drop (length (passed r mid)) l) 0 ≡ Some next) d.1 (longer (passed r mid) (due r mid) d.0 next is)

      sends : (taken sent rest left_of : List ℕ) → (sent ≡ taken) ⊎ ((next : ℕ) × (slice_get left_of 0 ≡ Some next) × (sent ≡ taken ++ next ∷ []))
          → ((next : ℕ) → slice_get left_of 0 ≡ Some next → slice_get rest 0 ≡ Some next)
          → (sent ≡ taken) ⊎ ((next : ℕ) × (slice_get rest 0 ≡ Some next) × (sent ≡ taken ++ next ∷ []))
      sends taken sent rest left_of (inl is) first = inl is
      sends taken sent rest left_of (inr (next, here, is)) first = inr (next, first next here, is)

-- Texts in order, cut behind those with one number.
use Rattle.std.proofs.Common.{◌≡◌, ℕ, suc, ◌+◌, ◌<◌, ◌≤◌, true, false, cond, not, List, [], ◌∷◌, ◌++◌, map, take, drop, Ordering, refl, sym, ap, subst, ◌∙◌, arith}
use Rattle.std.specs.Prelude.{◌==◌, T}
use Rattle.std.proofs.lemmas.Bool.{eqb-true, eqb-false}
use Rattle.std.specs.List.{prefix_len, AllByRecursion}
use Rattle.std.specs.Ordering.{is_lt, is_gt}
use Rattle.std.specs.FinMap.Entries.{below_all}
use Rattle.gw_er7.specs.View.{Held}
use Rattle.gw_er7.specs.Entries.{Entry, under}
use Rattle.gw_er7.specs.own.Ordered.{IsAtLeast, Above, IsOrdered, IsCut}
use Rattle.gw_er7.proofs.Sorted.{order, both, first, second, cmp-same}
use Rattle.gw_er7.proofs.Finds.{less}
use Rattle.gw_er7.proofs.Under.{not_above}

less-le : (a b : ℕ) (key other : List ℕ) → T (is_lt (order (a ∷ key) (b ∷ other))) → a ≤ b
less-le a b key other h = not_above [] a b key other (ap is_gt (less (order (a ∷ key) (b ∷ other)) h))

below-strip : (n : ℕ) (key : List ℕ) (es rest : List Entry) → T (below_all order (n ∷ key) (map (under n) es ++ rest)) → T (below_all order key es)
below-strip n key [] rest h = tt
below-strip n key (e ∷ es) rest h = both _ _ (subst (λ (r : Ordering). T (is_lt r)) (cmp-same n key e.0) (first _ _ h)) (below-strip n key es rest (second _ _ h))

positive-least : (key : List ℕ) → AllByRecursion (λ n. 0 < n) key → IsAtLeast 1 key
positive-least [] h = tt
positive-least (n ∷ key) h = omega (arith, h.0)

none-ordered : (n : ℕ) → IsOrdered n []
none-ordered n = record { rising = tt; from = tt; positive = tt }

module _ (head : Held → ℕ) (tail : Held → Entry) where
  abbrev full : Held → Entry
  full l = (head l ∷ (tail l).0, (tail l).1)

  above-first : (n : ℕ) (key : List ℕ) (m : ℕ) (xs : List Held) → n < m → T (below_all order (m ∷ key) (map full xs)) → Above n (map full xs)
  above-first n key m [] lt h = tt
  above-first n key m (x ∷ xs) lt h = (let le : m ≤ head x = less-le m (head x) key (tail x).0 (first _ _ h) in omega arith, above-first n key m xs lt (second _ _ h))

  least-above : (n : ℕ) (xs : List Held) → Above n (map full xs) → AllByRecursion (λ e. IsAtLeast (n + 1) e.0) (map full xs)
  least-above n [] h = tt
  least-above n (x ∷ xs) h = (omega (arith, h.0), least-above n xs h.1)

  pub cut_run : (n : ℕ) (xs : List Held) → IsOrdered n (map full xs) → IsCut n (map full xs) (map tail (take (prefix_len (λ l. not (not (head l == n))) xs) xs)) (map full (drop (prefix_len (λ l. not (not (head l == n))) xs) xs))
  cut_run n [] is = record { whole = refl; above = tt; inner = none-ordered 1; outer = none-ordered (n + 1) }
  cut_run n (x ∷ xs) is =
      let k = prefix_len (λ l. not (not (head l == n))) xs in
      let rest : IsOrdered n (map full xs) = record { rising = second _ _ is.rising; from = is.from.1; positive = is.positive.1 } in
      let more = cut_run n xs rest in
      let more_is : 1 + k ≡ suc k = omega arith in
      elim (head x == n) as (λ v. (head x == n) ≡ v → IsCut n (map full (x ∷ xs)) (map tail (take (cond (not (not v)) (1 + k) 0) (x ∷ xs))) (map full (drop (cond (not (not v)) (1 + k) 0) (x ∷ xs)))) [
        | true ↦ λ e. subst (λ (j : ℕ). IsCut n (map full (x ∷ xs)) (map tail (take j (x ∷ xs))) (map full (drop j (x ∷ xs)))) (sym more_is) (
            let same : head x ≡ n = eqb-true _ _ e in
            let below : T (below_all order (n ∷ (tail x).0) (map full xs)) = subst (λ (m : ℕ). T (below_all order (m ∷ (tail x).0) (map full xs))) same (first _ _ is.rising) in
            record {
              whole = ap (λ (m : ℕ). (m ∷ (tail x).0, (tail x).1) ∷ map full xs) same ∙ ap (λ (es : List Entry). under n (tail x) ∷ es) more.whole;
              above = more.above;
              inner = record {
                rising = both _ _ (below-strip n (tail x).0 (map tail (take k xs)) (map full (drop k xs)) (subst (λ (es : List Entry). T (below_all order (n ∷ (tail x).0) es)) more.whole below)) more.inner.rising;
                from = (positive-least (tail x).0 is.positive.0.1, more.inner.from);
                positive = (is.positive.0.1, more.inner.positive);
              };
              outer = more.outer;
            })
        | false ↦ λ e.
            let far : n < head x = (let apart = eqb-false (head x) n e in omega (arith, is.from.0)) in
            let above : Above n (map full (x ∷ xs)) = (far, above-first n (tail x).0 (head x) xs far (first _ _ is.rising)) in
            record {
              whole = refl;
              above = above;
              inner = none-ordered 1;
              outer = record { rising = is.rising; from = least-above n (x ∷ xs) above; positive = is.positive };
            }
      ] refl

-- Spans of two widths, which say the same.
use Rattle.std.proofs.Common.{◌≡◌, ℕ, ◌<◌, ◌≤◌, ◌+◌, ◌-◌, take, drop, List, [], ◌++◌, length, map, sym, ap, subst, ◌∙◌, append-nil, arith, inl, inr}
use Rattle.std.proofs.lemmas.List.{take-append-le, drop-take, length-map, take-map, drop-map}
use Rattle.std.specs.List.{AllZip}
use Rattle.gw_er7.specs.declared.spans.TextSpan.{TextSpan}
use Rattle.gw_er7.specs.View.{between}
use Rattle.gw_er7.specs.own.Spans.{all_said, AreAlike, AreOf, AreSortedFrom}
use Rattle.gw_er7.proofs.Lying.{sorted_from_map}
use Rattle.gw_er7.proofs.Sames.{zip_maps}

module _ {N : Type 0} (said : N → TextSpan) where
  -- none of the other width
  pub all_narrow : (ns : List N) (ws : List TextSpan) → ws ≡ [] → all_said said ns ws ≡ map said ns
  all_narrow ns ws e = ap (λ (vs : List TextSpan). map said ns ++ vs) e ∙ append-nil (map said ns)

  -- spans that say the same, seen through these lists
  pub alike_same : (ns ms xs ys : List N) (ws vs all others : List TextSpan) → xs ≡ ns → ys ≡ ms → AllZip (λ a b. said a ≡ said b) xs ys → ws ≡ vs → all_said said ns ws ≡ all → all_said said ms vs ≡ others → all ≡ others
  alike_same ns ms xs ys ws vs all others u v zip e a b =
      sym a ∙ ap (λ (ls : List TextSpan). ls ++ ws) (ap (map said) (sym u) ∙ (zip_maps said xs ys).0 zip ∙ ap (map said) v) ∙ ap (λ (ls : List TextSpan). map said ms ++ ls) e ∙ b

  -- those of the narrow width were put in order
  pub alike_sorted : (k : ℕ) (ns ms : List N) (ws : List TextSpan) (all : List TextSpan) → AreAlike ns ws → 0 < length ns → all_said said ns ws ≡ all → AreSortedFrom (λ n. (said n).place) k ns ms → AreSortedFrom (λ l. l.place) k all (all_said said ms ws)
  alike_sorted k ns ms ws all (inl e) some view is = absurd (omega (arith, some, ap length e))
  alike_sorted k ns ms ws all (inr e) some view is =
      subst (λ (ls : List TextSpan). AreSortedFrom (λ l. l.place) k ls (all_said said ms ws)) (sym (all_narrow ns ws e) ∙ view)
      (subst (λ (ls : List TextSpan). AreSortedFrom (λ l. l.place) k (map said ns) ls) (sym (all_narrow ms ws e)) (sorted_from_map said (λ l. l.place) k ns ms is))

  -- some of the narrow ones
  pub narrow_part : (from to : ℕ) (ns xs : List N) (ws all : List TextSpan) → xs ≡ ns → to ≤ length ns → from ≤ to → all_said said ns ws ≡ all → AreOf said from to (take (to - from) (drop from xs)) all
  narrow_part from to ns xs ws all e le rising view =
      let long : from + (to - from) ≡ to = omega (arith, rising) in
      let cut : take (to - from) (drop from xs) ≡ between from to ns =
      sym (drop-take from (to - from) xs) ∙ ap (λ (n : ℕ). drop from (take n xs)) long ∙ ap (between from to) e in
      let seen : between from to (map said ns) ≡ between from to all =
      ap (drop from) (sym (take-append-le to (map said ns) ws (omega (arith, le, length-map ns said)))) ∙ ap (between from to) view in
      inr (ap (map said) cut ∙ sym (drop-map said from (take to ns)) ∙ ap (drop from) (sym (take-map said to ns)) ∙ seen)

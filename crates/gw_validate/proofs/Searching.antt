-- The search of a message's segments for a breach, step by step.
use Rattle.std.proofs.Common.{◌≡◌, ℕ, zero, suc, ◌+◌, ◌<◌, ◌≤◌, inl, inr, List, [], ◌∷◌, Option, Some, None, refl, sym, ap, ◌∙◌, subst, arith, length, drop, drop-cons, get_or, slice_get}
use Rattle.std.specs.List.{AllByRecursion}
use denote.Ref.{Bor}
use Rattle.gw_er7.specs.Message.{SegmentValue}
use Rattle.gw_profile.specs.declared.shape.FieldShape.{FieldShape}
use Rattle.gw_profile.specs.Shapes.{ProfileValue}
use Rattle.gw_validate.specs.Breaches.{SegmentBreach}
use Rattle.gw_validate.specs.own.Least.{Least, Searched, BreachAt}
use Rattle.gw_validate.specs.own.Taking.{paired, shape_of}
use Rattle.gw_validate.proofs.Judged.{segment_is}
use Rattle.std.proofs.lemmas.Grind.{common_steps}

pub cons_at : {X : Type 0} (xs : List X) (i : ℕ) (x : X) → i < length xs → x ≡ get_or xs i x → drop i xs ≡ x ∷ drop (i + 1) xs
cons_at xs i x lt at =
    let one : suc i ≡ i + 1 = omega arith in
    drop-cons xs i x lt ∙ ap (λ y. y ∷ drop (suc i) xs) (sym at) ∙ ap (λ j. x ∷ drop j xs) one

pub any_default : {X : Type 0} (xs : List X) (i : ℕ) (d e : X) → i < length xs → get_or xs i d ≡ get_or xs i e
any_default [] i d e lt = absurd (omega arith)
any_default (x ∷ xs) zero d e lt = refl
any_default (x ∷ xs) (suc i) d e lt = any_default xs i d e (omega arith)

-- what holds of all from one on holds of it, and of those behind it
pub all_parts : {X : Type 0} (P : X → Type 0) (xs : List X) (i : ℕ) (x : X) → i < length xs → x ≡ get_or xs i x → AllByRecursion P (drop i xs) → P x × AllByRecursion P (drop (i + 1) xs)
all_parts P xs i x lt at a = let b = subst (AllByRecursion P) (cons_at xs i x lt at) a in (b.0, b.1)

module _ (ns : List ℕ) (shapes : List (Bor (List FieldShape))) (i n : ℕ) (s : Bor (List FieldShape)) (here : i < length ns) (lt : i < length shapes) (number : n ≡ get_or ns i n) (at : s ≡ get_or shapes i s) where
  -- the pairs from one on are it and those behind it
  pub pairs_here : paired (drop i ns) (drop i shapes) ≡ (n, shape_of s) ∷ paired (drop (i + 1) ns) (drop (i + 1) shapes)
  pairs_here =
      ap (λ l. paired l (drop i shapes)) (cons_at ns i n here number)
      ∙ ap (paired (n ∷ drop (i + 1) ns)) (cons_at shapes i s lt at)

  module _ (profile : ProfileValue) (m : List SegmentValue) (segment : SegmentValue) (there : slice_get m n ≡ Some segment) (on : (r : Option (ℕ × List ℕ)) → Searched (BreachAt profile m) (paired (drop i ns) (drop i shapes)) r → Searched (BreachAt profile m) (paired ns shapes) r) where
    at_number : (o : Option (List ℕ)) → Least (SegmentBreach profile (shape_of s) segment.at) o → Least (BreachAt profile m (shape_of s) n) o
    at_number o l = subst (λ (x : SegmentValue). Least (SegmentBreach profile (shape_of s) x.at) o) (sym (segment_is m n segment there)) l

    pub search_some : (spot : List ℕ) → Least (SegmentBreach profile (shape_of s) segment.at) (Some spot) → Searched (BreachAt profile m) (paired ns shapes) (Some (n, spot))
    search_some spot l =
        on (Some (n, spot)) (subst (λ ps. Searched (BreachAt profile m) ps (Some (n, spot))) (sym pairs_here) (inl (refl, at_number (Some spot) l)))

    pub search_none : Least (SegmentBreach profile (shape_of s) segment.at) None → (r : Option (ℕ × List ℕ)) → Searched (BreachAt profile m) (paired (drop (i + 1) ns) (drop (i + 1) shapes)) r → Searched (BreachAt profile m) (paired ns shapes) r
    search_none l r h = on r (subst (λ ps. Searched (BreachAt profile m) ps r) (sym pairs_here) (behind r h))
      where
        behind : (r : Option (ℕ × List ℕ)) → Searched (BreachAt profile m) (paired (drop (i + 1) ns) (drop (i + 1) shapes)) r → Searched (BreachAt profile m) ((n, shape_of s) ∷ paired (drop (i + 1) ns) (drop (i + 1) shapes)) r
        behind None h = (at_number None l, h)
        behind (Some x) h = inr (at_number None l, h)

no_pairs : (ns : List ℕ) → paired ns [] ≡ []
no_pairs [] = refl
no_pairs (n ∷ ns) = refl

pub pairs_over : (ns : List ℕ) (shapes : List (Bor (List FieldShape))) (i : ℕ) → length shapes ≤ i → paired (drop i ns) (drop i shapes) ≡ []
pairs_over ns shapes i le =
    let past : drop i shapes ≡ [] = grind (arith, common_steps) in ap (paired (drop i ns)) past ∙ no_pairs (drop i ns)

pub search_over : (profile : ProfileValue) (m : List SegmentValue) (ns : List ℕ) (shapes : List (Bor (List FieldShape))) (i : ℕ) → length shapes ≤ i → ((r : Option (ℕ × List ℕ)) → Searched (BreachAt profile m) (paired (drop i ns) (drop i shapes)) r → Searched (BreachAt profile m) (paired ns shapes) r) → Searched (BreachAt profile m) (paired ns shapes) None
search_over profile m ns shapes i le on =
    on None (subst (λ ps. Searched (BreachAt profile m) ps None) (sym (pairs_over ns shapes i le)) tt)

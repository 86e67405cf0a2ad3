-- What the steps of a verdict say together.
use Rattle.std.proofs.Common.{◌≡◌, ℕ, zero, suc, ◌+◌, ◌<◌, inl, inr, List, [], ◌∷◌, Some, None, refl, sym, ap, ◌∙◌, subst, arith, length, map, take, get_or, slice_get}
use Rattle.std.specs.List.{AllByRecursion}
use Rattle.std.specs.Prelude.{◌↔◌, Option, IfSome, IsNone}
use Rattle.std.specs.declared.vec.Vec.{Vec}
use Rattle.std.specs.declared.alloc.Global.{Global}
use denote.Ref.{Bor}
use Rattle.gw_profile.specs.declared.shape.FieldShape.{FieldShape}
use Rattle.gw_er7.specs.Message.{SegmentValue}
use Rattle.gw_profile.specs.Shapes.{Forest, FieldValue, ProfileValue}
use Rattle.gw_profile.specs.Deterministic.{Name, Determined, NoName}
use Rattle.gw_validate.specs.declared.breach.Breach.{Breach}
use Rattle.gw_validate.specs.declared.walk.Answer.TheVariants as answer
use Rattle.gw_validate.specs.own.Answers.{Answers}
use Rattle.gw_validate.specs.Cuts.{Fits, Begins, IsShortest}
use Rattle.gw_validate.specs.Conforming.{names, NamesFit, numbers, segment_at, named, Conforms}
use Rattle.gw_validate.specs.declared.occurrences.Found.{Found}
use Rattle.gw_validate.specs.Trees.{Tree, IsTree, flatten, assigned}
use Rattle.gw_validate.specs.own.Judging.{HasKept, IsShaped, IsFirst}
use Rattle.gw_validate.specs.own.Occurring.{tree_of, IsOrdered}
use Rattle.gw_validate.specs.own.Taking.{paired}
use Rattle.gw_validate.specs.own.Least.{EachRises, Searched, BreachAt}
use Rattle.gw_validate.specs.Broken.{IsTreeOf, Breaks, sequence, spot_of, IsLeast}
use Rattle.gw_validate.specs.Breaches.{NotAfter}
use Rattle.gw_validate.specs.own.Finding.{IsAlone}
use Rattle.gw_validate.proofs.Walks.{self}
use Rattle.gw_validate.proofs.Listed.{Place, place, numbers_below}
use Rattle.gw_validate.proofs.Flat.{tree_flat, assigned_flat}
use Rattle.gw_validate.proofs.Judged.{names_are, names_take, NoneBefore, AloneAt, order_breaks, order_alone, missing_breaks, missing_alone, segment_breaks, segment_least, meets_all, tree_message, message_tree, tree_names_fit, breaks_nothing}
use Rattle.gw_validate.proofs.Taking.{shapes_rise}

pub taken_fit : (f : Forest) (m : List SegmentValue) (taken : List ℕ) → taken ≡ numbers f m → NamesFit f m → Fits f (map (named m) taken)
taken_fit f m taken e h = subst (Fits f) (sym (ap (map (named m)) e ∙ names_are f m)) h

pub taken_within : (f : Forest) (m : List SegmentValue) (taken : List ℕ) → taken ≡ numbers f m → AllByRecursion (λ i. i < length m) taken
taken_within f m taken is = subst (AllByRecursion (λ i. i < length m)) (sym is) (numbers_below f 0 (length m) m (omega arith))

pub names_fit : (f : Forest) (m : List SegmentValue) (ns : List Name) → ns ≡ map (named m) (numbers f m) → Fits f ns → NamesFit f m
names_fit f m ns e h = subst (Fits f) (e ∙ names_are f m) h

get_segment : (m : List SegmentValue) (i : ℕ) → i < length m → slice_get m i ≡ Some (segment_at m i)
get_segment [] i lt = absurd (omega arith)
get_segment (s ∷ m) zero lt = refl
get_segment (s ∷ m) (suc i) lt = get_segment m i (omega arith)

module _ (p : ProfileValue) (m : List SegmentValue) (wf : Determined p.nodes NoName) where
  least_of : (n : ℕ) (name : Name) (q : List ℕ) (b : Breach) → b.segment ≡ name → b.sequence ≡ sequence m n name → spot_of b ≡ q → Breaks p m n name q → NoneBefore p m wf n q → IsLeast p m b
  least_of n name q b es eq ek breaks least = record {
    number = n;
    breaks = subst (λ w. Breaks p m n w (spot_of b)) (sym es) (subst (λ k. Breaks p m n name k) (sym ek) breaks);
    counted = eq ∙ ap (sequence m n) (sym es);
    least = subst (λ k. NoneBefore p m wf n k) (sym ek) least;
  }

  alone_of : (n : ℕ) (name : Name) (q : List ℕ) (b : Breach) → b.segment ≡ name → b.sequence ≡ sequence m n name → spot_of b ≡ q → Breaks p m n name q → AloneAt p m wf n q → IsAlone p m (n, b)
  alone_of n name q b es eq ek breaks alone = record {
    named = record {
      breaks = subst (λ w. Breaks p m n w (spot_of b)) (sym es) (subst (λ k. Breaks p m n name k) (sym ek) breaks);
      counted = eq ∙ ap (sequence m n) (sym es);
    };
    alone = λ i w spot h. let r = alone i w spot h in (r.0, ek ∙ r.1);
    never = λ h. breaks_nothing p m wf h n name q breaks;
  }

  -- a least breach, and so no conforming
  pub not_conforming : (b : Breach) → IsLeast p m b → IsLeast p m b × (Conforms p m → ⊥)
  not_conforming b l = (l, λ h. breaks_nothing p m wf h l.number b.segment (spot_of b) l.breaks)

  module _ (ns : List Name) (i : ℕ) (is : ns ≡ map (named m) (numbers p.nodes m)) (walked : Answers p.nodes ns (answer.OutOfOrder i)) where
    here : ns ≡ names p.nodes m
    here = is ∙ names_are p.nodes m

    count : (xs : List ℕ) → length (map (named m) xs) ≡ length xs
    count [] = refl
    count (x ∷ xs) = ap suc (count xs)

    pub order_within : i < length (numbers p.nodes m)
    order_within = omega (arith, walked.0, ap length is, count (numbers p.nodes m))

    spot : Place p.nodes 0 i m
    spot = place p.nodes 0 i m order_within

    pub order_judged : (n : ℕ) (b : Breach) → n ≡ get_or (numbers p.nodes m) i 0 → b.segment ≡ named m n → b.sequence ≡ sequence m n (named m n) → spot_of b ≡ 0 ∷ 0 ∷ 0 ∷ 0 ∷ 1 ∷ [] → IsAlone p m (n, b)
    order_judged n b at es eq ek =
        let same : n ≡ spot.number = omega (arith, at, spot.at) in
        let there : slice_get m n ≡ Some spot.this = ap (slice_get m) same ∙ spot.here in
        let name : named m n ≡ spot.this.name = ap (λ (s : SegmentValue). s.name) (known m n spot.this there) in
        let before : Begins p.nodes (names p.nodes (take n m)) =
        subst (Begins p.nodes) (ap (take i) here ∙ sym (names_take p.nodes spot.number i m spot.before) ∙ ap (λ k. names p.nodes (take k m)) (sym same)) walked.1 in
        let never : Begins p.nodes (names p.nodes (take (suc n) m)) → ⊥ = λ h. walked.2
        (subst (Begins p.nodes) (ap (λ k. names p.nodes (take (suc k) m)) same ∙ names_take p.nodes (suc spot.number) (suc i) m spot.upto ∙ ap (λ k. take k (names p.nodes m)) (one i) ∙ ap (take (i + 1)) (sym here)) h) in
        alone_of n spot.this.name (0 ∷ 0 ∷ 0 ∷ 0 ∷ 1 ∷ []) b (es ∙ name) (eq ∙ ap (sequence m n) name) ek
        (order_breaks p m wf n spot.this there before never) (order_alone p m wf n spot.this there before never)
      where
        one : (i : ℕ) → suc i ≡ i + 1
        one i = omega arith

        known : (m : List SegmentValue) (n : ℕ) (s : SegmentValue) → slice_get m n ≡ Some s → segment_at m n ≡ s
        known [] n s e = absurd (cc)
        known (x ∷ m) zero s e = cc
        known (x ∷ m) (suc n) s e = known m n s e

  pub missing_judged : (ns : List Name) (name : Name) (n : ℕ) (b : Breach) → ns ≡ map (named m) (numbers p.nodes m) → Answers p.nodes ns (answer.Missing name) → n ≡ length m → b.segment ≡ name → b.sequence ≡ sequence m n name → spot_of b ≡ 0 ∷ 0 ∷ 0 ∷ 0 ∷ 2 ∷ [] → IsAlone p m (n, b)
  missing_judged ns name n b is walked end es eq ek =
      let here : ns ≡ names p.nodes m = is ∙ names_are p.nodes m in
      let none : NamesFit p.nodes m → ⊥ = λ h. walked.0 (subst (Fits p.nodes) (sym here) h) in
      let short : IsShortest p.nodes (names p.nodes m) (name ∷ walked.1) = subst (λ w. IsShortest p.nodes w (name ∷ walked.1)) here walked.2 in
      subst (λ (k : ℕ). IsAlone p m (k, b)) (sym end)
      (alone_of (length m) name (0 ∷ 0 ∷ 0 ∷ 0 ∷ 2 ∷ []) b es (eq ∙ ap (λ k. sequence m k name) end) ek
      (missing_breaks p m wf name walked.1 none short) (missing_alone p m wf name walked.1 none short))

  module _ (t : Tree) (taken : List ℕ) (is : taken ≡ numbers p.nodes m) (tree : IsTree (named m) t p.nodes taken) where
    pub tree_is : IsTreeOf p m t
    tree_is = subst (IsTree (named m) t p.nodes) is tree

    all_within : AllByRecursion (λ i. i < length m) (flatten t)
    all_within = subst (AllByRecursion (λ i. i < length m)) (sym (tree_flat (named m) t p.nodes (numbers p.nodes m) tree_is)) (numbers_below p.nodes 0 (length m) m (omega arith))

    pub segment_judged : (n : ℕ) (q : List ℕ) (b : Breach) → Searched (BreachAt p m) (assigned t p.nodes) (Some (n, q)) → b.segment ≡ named m n → b.sequence ≡ sequence m n (named m n) → spot_of b ≡ q → IsLeast p m b
    segment_judged n q b s es eq ek =
        let lt : n < length m = inside n q s in
        least_of n (named m n) q b es eq ek
        (segment_breaks p m wf t tree_is n q (segment_at m n) (get_segment m n lt) s) (segment_least p m wf t tree_is n q (segment_at m n) (get_segment m n lt) s)
      where
        inside : (n : ℕ) (q : List ℕ) → Searched (BreachAt p m) (assigned t p.nodes) (Some (n, q)) → n < length m
        inside n q s = in_search (assigned t p.nodes) n q (subst (AllByRecursion (λ i. i < length m)) (sym (assigned_flat (named m) t p.nodes (numbers p.nodes m) tree_is)) all_within) s
          where
            in_search : (ps : List (ℕ × List FieldValue)) (n : ℕ) (q : List ℕ) → AllByRecursion (λ i. i < length m) (map (λ (p : ℕ × List FieldValue). p.0) ps) → Searched (BreachAt p m) ps (Some (n, q)) → n < length m
            in_search [] n q a s = absurd s
            in_search (x ∷ ps) n q a (inl s) = subst (λ k. k < length m) (sym s.0) a.0
            in_search (x ∷ ps) n q a (inr s) = in_search ps n q a.1 s.1

  -- the shapes that the walk found are those of the message's segments
  pub shaped : (ns : List Name) (shapes : Vec (Bor (List FieldShape)) Global) → ns ≡ map (named m) (numbers p.nodes m) → EachRises p.nodes → Answers p.nodes ns (answer.Fits shapes) → IsShaped p m shapes.items
  shaped ns shapes is each walked =
      let same : length shapes.items ≡ length (numbers p.nodes m) = walked.1.same ∙ ap length is ∙ count_named (numbers p.nodes m) in
      let assigns = walked.1.assigns (named m) (numbers p.nodes m) (sym is) in
      record {
        determined = wf;
        fits = names_fit p.nodes m ns is walked.0;
        same = same;
        assigns = assigns;
        rises = shapes_rise (named m) p.nodes (numbers p.nodes m) shapes.items each same assigns;
      }
    where
      count_named : (xs : List ℕ) → length (map (named m) xs) ≡ length xs
      count_named [] = refl
      count_named (x ∷ xs) = ap suc (count_named xs)

  module _ (taken : List ℕ) (is : taken ≡ numbers p.nodes m) (shapes : List (Bor (List FieldShape))) (shape : IsShaped p m shapes) where
    pub shapes_same : length shapes ≡ length taken
    shapes_same = shape.same ∙ ap length (sym is)

    pairs : paired taken shapes ≡ assigned shape.assigns.tree p.nodes
    pairs = ap (λ l. paired l shapes) is ∙ sym shape.assigns.pairs_are

    pub none_found : Searched (BreachAt p m) (paired taken shapes) None → Conforms p m
    none_found s =
        tree_message p m wf shape.assigns.tree shape.assigns.is
        (meets_all p m wf shape.assigns.tree shape.assigns.is (subst (λ ps. Searched (BreachAt p m) ps None) pairs s))

    pub one_found : (n : ℕ) (q : List ℕ) (b : Breach) → Searched (BreachAt p m) (paired taken shapes) (Some (n, q)) → b.segment ≡ named m n → b.sequence ≡ sequence m n (named m n) → spot_of b ≡ q → IsLeast p m b × (Conforms p m → ⊥)
    one_found n q b s es eq ek =
        not_conforming b
        (segment_judged shape.assigns.tree (numbers p.nodes m) refl shape.assigns.is n q b (subst (λ ps. Searched (BreachAt p m) ps (Some (n, q))) pairs s) es eq ek)

  pub conforming_fits : Conforms p m → NamesFit p.nodes m
  conforming_fits h = let t = message_tree p m wf h in tree_names_fit p m wf t.tree t.is

  -- it conforms, and what is kept is its tree
  pub fits_judged : (found : Found) (taken : List ℕ) (is : taken ≡ numbers p.nodes m) → IsTree (named m) (tree_of taken p.nodes found) p.nodes taken → IsOrdered p.nodes found → Conforms p m → HasKept p m taken found
  fits_judged found taken is tree ordered conforms = record {
    conforms = conforms;
    tree = tree_is (tree_of taken p.nodes found) taken is tree;
    kept = record { ordered = ordered; within = taken_within p.nodes m taken is };
  }

-- none exactly where the message conforms
pub first_exact : (p : ProfileValue) (m : List SegmentValue) (first : Option Breach) → IsFirst p m first → IsNone first ↔ Conforms p m
first_exact p m None h = ((λ n. h), (λ c. refl))
first_exact p m (Some b) h = ((λ n. absurd (cc)), (λ c. absurd (h.1 c)))

pub first_least : (p : ProfileValue) (m : List SegmentValue) (first : Option Breach) → IsFirst p m first → IfSome first (IsLeast p m)
first_least p m None h = tt
first_least p m (Some b) h = h.0

-- what is alone is the least
pub alone_least : (p : ProfileValue) (m : List SegmentValue) (x : ℕ × Breach) → IsAlone p m x → IsLeast p m x.1 × (Conforms p m → ⊥)
alone_least p m x a = (
  record {
    number = x.0;
    breaks = a.named.breaks;
    counted = a.named.counted;
    least = λ i name spot h. let r = a.alone i name spot h in inr (r.0, subst (NotAfter (spot_of x.1)) r.1 (self (spot_of x.1)));
  },
  a.never,
)

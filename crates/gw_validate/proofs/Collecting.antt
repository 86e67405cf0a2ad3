-- All breaches of a message's segments, put together.
use Rattle.std.proofs.Common.{◌≡◌, ℕ, zero, suc, ◌+◌, ◌<◌, ◌≤◌, ◌⊎◌, inl, inr, Bool, true, false, List, [], ◌∷◌, ◌++◌, Some, refl, sym, ap, ◌∙◌, subst, arith, length, append-nil, append_assoc, map, take, drop, get_or, slice_get, unwrap_or}
use Rattle.std.specs.Prelude.{cond}
use Rattle.std.specs.List.{AllByRecursion, count_by}
use Rattle.std.specs.Str.{bytes_eq}
use Rattle.std.specs.BTreeMap.{BTreeMap, get, is_at}
use Rattle.std.specs.Ordering.{nat_cmp}
use Rattle.std.specs.Cmp.Lexicographic.{slice_cmp}
use Rattle.std.proofs.lemmas.List.{map-append}
use Rattle.std.proofs.lemmas.Bool.{cases_lt}
use Rattle.std.proofs.lemmas.Grind.{common_steps}
use Rattle.std.proofs.lemmas.Map.Text.{is_eq-slice_cmp}
use Rattle.gw_er7.specs.Message.{SegmentValue}
use Rattle.gw_profile.specs.declared.shape.FieldShape.{FieldShape}
use denote.Ref.{Bor}
use Rattle.gw_profile.specs.Shapes.{Forest, FieldValue, ProfileValue}
use Rattle.gw_profile.specs.Deterministic.{Name, Determined, NoName}
use Rattle.gw_validate.specs.declared.fields.Spot.{Spot}
use Rattle.gw_validate.specs.Breaches.{SegmentBreach}
use Rattle.gw_validate.specs.Broken.{IsTreeOf, Assigns, Breaks, out_of_order, missing, in_segment, sequence}
use Rattle.gw_validate.specs.Conforming.{numbers, segment_at, named}
use Rattle.gw_validate.specs.Every.{Before, Has, Rising, AreAll, AreBreaches, BreaksAt, IsNamed, place_of}
use Rattle.gw_validate.specs.Trees.{Tree, assigned}
use Rattle.gw_validate.specs.own.Finding.{found_key, Collects, Finds, breach_of, count_of}
use Rattle.gw_validate.specs.own.Gathering.{Under, Gathers}
use Rattle.gw_validate.specs.own.Least.{BreachAt, segment_key}
use Rattle.gw_validate.specs.own.Judging.{IsShaped}
use Rattle.gw_validate.specs.own.Taking.{paired, shape_of}
use Rattle.gw_validate.proofs.Counting.{counted_yes, counted_no}
use Rattle.gw_validate.proofs.Flat.{tree_flat, assigned_flat}
use Rattle.gw_validate.proofs.Gathering.{all_join, all_none, all_same}
use Rattle.gw_validate.proofs.Judged.{begins_whole, fit_begins, segment_is, tree_names_fit}
use Rattle.gw_validate.proofs.Listed.{RisesFrom, numbers_rise, numbers_below}
use Rattle.gw_validate.proofs.Names.{names_equal}
use Rattle.gw_validate.proofs.Searching.{pairs_here, pairs_over}
use Rattle.gw_validate.proofs.Unique as unique

-- ---- lists of pairs

pub finds_none : (B : List FieldValue → ℕ → List ℕ → Type 0) (a : List (ℕ × Spot)) → Finds B [] a a
finds_none B a = record { added = []; is = sym (append-nil a); all = refl }

collects_join : (B : List FieldValue → ℕ → List ℕ → Type 0) (ps qs : List (ℕ × List FieldValue)) (ks ls : List (List ℕ)) → Collects B ps ks → Collects B qs ls → Collects B (ps ++ qs) (ks ++ ls)
collects_join B [] qs ks ls a b = subst (λ (k : List (List ℕ)). Collects B qs (k ++ ls)) (sym a) b
collects_join B (p ∷ ps) qs ks ls a b =
    (a.0, a.1 ++ ls, ap (λ (k : List (List ℕ)). k ++ ls) a.2 ∙ append_assoc (map (λ q. p.0 ∷ q) a.0) a.1 ls, a.3, collects_join B ps qs a.1 ls a.4 b)

pub finds_join : (B : List FieldValue → ℕ → List ℕ → Type 0) (ps qs : List (ℕ × List FieldValue)) (a b c : List (ℕ × Spot)) → Finds B ps a b → Finds B qs b c → Finds B (ps ++ qs) a c
finds_join B ps qs a b c x y = record {
  added = x.added ++ y.added;
  is = y.is ∙ ap (λ l. l ++ y.added) x.is ∙ append_assoc a x.added y.added;
  all = subst (Collects B (ps ++ qs)) (sym (map-append found_key x.added y.added)) (collects_join B ps qs (map found_key x.added) (map found_key y.added) x.all y.all);
}

-- ---- one segment

abbrev pub at_number : ℕ → List Spot → List (ℕ × Spot)
at_number n spots = map (λ (s : Spot). (n, s)) spots

keys_at : (n : ℕ) (spots : List Spot) → map found_key (at_number n spots) ≡ map (λ q. n ∷ q) (map segment_key spots)
keys_at n [] = refl
keys_at n (s ∷ spots) = ap (λ l. (n ∷ segment_key s) ∷ l) (keys_at n spots)

pub finds_one : (profile : ProfileValue) (m : List SegmentValue) (shape : List FieldValue) (n : ℕ) (s : SegmentValue) (spots : List Spot) (a b : List (ℕ × Spot)) → slice_get m n ≡ Some s → Gathers (SegmentBreach profile shape s.at) [] (map segment_key spots) → b ≡ a ++ at_number n spots → Finds (BreachAt profile m) ((n, shape) ∷ []) a b
finds_one profile m shape n s spots a b here g is = record {
  added = at_number n spots;
  is = is;
  all = (
    map segment_key spots,
    [],
    keys_at n spots ∙ sym (append-nil (map (λ q. n ∷ q) (map segment_key spots))),
    subst (λ (x : SegmentValue). AreAll (SegmentBreach profile shape x.at) (map segment_key spots)) (sym (segment_is m n s here))
        (subst (AreAll (SegmentBreach profile shape s.at)) (sym g.is) g.all),
    refl,
  );
}

take_whole : {X : Type 0} (xs : List X) (i : ℕ) → length xs ≤ i → take i xs ≡ xs
take_whole xs i le = grind (arith, common_steps)

-- the spots of a segment, after each was put behind what was found
pub finds_end : (profile : ProfileValue) (m : List SegmentValue) (shape : List FieldValue) (n : ℕ) (s : SegmentValue) (spots items : List Spot) (i : ℕ) (a b : List (ℕ × Spot)) → slice_get m n ≡ Some s → Gathers (SegmentBreach profile shape s.at) [] (map segment_key spots) → items ≡ spots → length items ≤ i → b ≡ a ++ at_number n (take i items) → Finds (BreachAt profile m) ((n, shape) ∷ []) a b
finds_end profile m shape n s spots items i a b here g same le is =
    finds_one profile m shape n s spots a b here g (is ∙ ap (λ l. a ++ at_number n l) (take_whole items i le ∙ same))

-- ---- segments in turn

module _ (B : List FieldValue → ℕ → List ℕ → Type 0) (ns : List ℕ) (shapes : List (Bor (List FieldShape))) (o : List (ℕ × Spot)) (i : ℕ) (a : List (ℕ × Spot)) (on : (c : List (ℕ × Spot)) → Finds B (paired (drop i ns) (drop i shapes)) a c → Finds B (paired ns shapes) o c) where
  pub segments_on : (n : ℕ) (s : Bor (List FieldShape)) (b : List (ℕ × Spot)) → i < length ns → i < length shapes → n ≡ get_or ns i n → s ≡ get_or shapes i s → Finds B ((n, shape_of s) ∷ []) a b → (c : List (ℕ × Spot)) → Finds B (paired (drop (i + 1) ns) (drop (i + 1) shapes)) b c → Finds B (paired ns shapes) o c
  segments_on n s b here lt number at one c h =
      on c (subst (λ ps. Finds B ps a c) (sym (pairs_here ns shapes i n s here lt number at)) (finds_join B ((n, shape_of s) ∷ []) (paired (drop (i + 1) ns) (drop (i + 1) shapes)) a b c one h))

  pub segments_end : length shapes ≤ i → Finds B (paired ns shapes) o a
  segments_end le = on a (subst (λ ps. Finds B ps a a) (sym (pairs_over ns shapes i le)) (finds_none B a))

-- ---- how many segments of a name there are

counts_named : (m : List SegmentValue) (i : ℕ) (old new : BTreeMap (List ℕ) ℕ) (v : ℕ) → i < length m → ((q : Name) → get (slice_cmp nat_cmp) new q ≡ cond (is_at (slice_cmp nat_cmp (named m i)) q) (Some v) (get (slice_cmp nat_cmp) old q)) → v ≡ count_of old (named m i) + 1 → ((q : Name) → count_of old q ≡ count_by (λ s. bytes_eq s.name q) (take i m)) → (q : Name) → count_of new q ≡ count_by (λ s. bytes_eq s.name q) (take (i + 1) m)
counts_named m i old new v lt up is counted q = by (bytes_eq (named m i) q) refl
  where
    test : is_at (slice_cmp nat_cmp (named m i)) q ≡ bytes_eq (named m i) q
    test = is_eq-slice_cmp (named m i) q

    by : (t : Bool) → bytes_eq (named m i) q ≡ t → count_of new q ≡ count_by (λ s. bytes_eq s.name q) (take (i + 1) m)
    by true e =
        let same : named m i ≡ q = names_equal (named m i) q e in
        let got : count_of new q ≡ v = ap (λ o. unwrap_or o 0) (up q) ∙ ap (λ b. unwrap_or (cond b (Some v) (get (slice_cmp nat_cmp) old q)) 0) (test ∙ e) in
        let before : count_of old (named m i) ≡ count_of old q = ap (count_of old) same in
        got ∙ is ∙ ap (λ k. k + 1) before ∙ counted_yes m i q lt (count_of old q) (counted q) e
    by false e =
        let got : count_of new q ≡ count_of old q = ap (λ o. unwrap_or o 0) (up q) ∙ ap (λ b. unwrap_or (cond b (Some v) (get (slice_cmp nat_cmp) old q)) 0) (test ∙ e) in
        got ∙ counted_no m i q lt (count_of old q) (counted q) e

pub counts_more : (m : List SegmentValue) (i : ℕ) (old new : BTreeMap (List ℕ) ℕ) (name : Name) (v : ℕ) → i < length m → name ≡ named m i → ((q : Name) → get (slice_cmp nat_cmp) new q ≡ cond (is_at (slice_cmp nat_cmp name) q) (Some v) (get (slice_cmp nat_cmp) old q)) → v ≡ count_of old name + 1 → ((q : Name) → count_of old q ≡ count_by (λ s. bytes_eq s.name q) (take i m)) → (q : Name) → count_of new q ≡ count_by (λ s. bytes_eq s.name q) (take (i + 1) m)
counts_more m i old new name v lt e up is =
    counts_named m i old new v lt (subst (λ (k : Name). (q : Name) → get (slice_cmp nat_cmp) new q ≡ cond (is_at (slice_cmp nat_cmp k) q) (Some v) (get (slice_cmp nat_cmp) old q)) e up) (is ∙ ap (λ (k : Name). count_of old k + 1) e)

get_front : (xs : List ℕ) (v j : ℕ) → j < length xs → get_or (xs ++ v ∷ []) j 0 ≡ get_or xs j 0
get_front [] v j lt = absurd (omega arith)
get_front (x ∷ xs) v zero lt = refl
get_front (x ∷ xs) v (suc j) lt = get_front xs v j (omega (arith, lt))

get_last : (xs : List ℕ) (v : ℕ) → get_or (xs ++ v ∷ []) (length xs) 0 ≡ v
get_last [] v = refl
get_last (x ∷ xs) v = get_last xs v

pub length_more : {X : Type 0} (xs ys : List X) (v : X) (n : ℕ) → ys ≡ xs ++ v ∷ [] → length xs ≡ n → length ys ≡ n + 1
length_more xs ys v n is e = ap length is ∙ (let more = longer xs v in omega (arith, more, e))
  where
    longer : {X : Type 0} (xs : List X) (v : X) → length (xs ++ v ∷ []) ≡ suc (length xs)
    longer [] v = refl
    longer (x ∷ xs) v = ap suc (longer xs v)

pub sequences_more : (m : List SegmentValue) (n : ℕ) (xs ys : List ℕ) (counts : BTreeMap (List ℕ) ℕ) (name : Name) (v : ℕ) → ys ≡ xs ++ v ∷ [] → length xs ≡ n → name ≡ named m n → v ≡ count_of counts name + 1 → ((q : Name) → count_of counts q ≡ count_by (λ s. bytes_eq s.name q) (take n m)) → ((j : ℕ) → j < n → get_or xs j 0 ≡ sequence m j (named m j)) → (j : ℕ) → j < n + 1 → get_or ys j 0 ≡ sequence m j (named m j)
sequences_more m n xs ys counts name v is e named_so v_is counted each j lt = elim (cases_lt j n) [
  | inl less ↦ ap (λ l. get_or l j 0) is ∙ get_front xs v j (omega (arith, less, e)) ∙ each j less
  | inr ge ↦ (let same : j ≡ n = omega (arith, lt, ge) in
      let this : v ≡ sequence m n (named m n) = (let c = counted name in let up : v ≡ suc (count_by (λ (s : SegmentValue). bytes_eq s.name name) (take n m)) = omega (arith, v_is, c) in up ∙ ap (sequence m n) named_so) in
      ap (λ l. get_or l j 0) is ∙ ap (λ k. get_or (xs ++ v ∷ []) k 0) (same ∙ sym e) ∙ get_last xs v ∙ this ∙ ap (λ k. sequence m k (named m k)) (sym same))
]

-- ---- all of them

-- in one of these segments, a breach of its shape
abbrev pub InPairs : (List FieldValue → ℕ → List ℕ → Type 0) → List (ℕ × List FieldValue) → List ℕ → Type 0
InPairs B ps [] = ⊥
InPairs B ps (i ∷ q) = (shape : List FieldValue) × Assigns ps i shape × B shape i q

has_under : (n : ℕ) (qs : List (List ℕ)) (q : List ℕ) → Has qs q → Has (map (λ l. n ∷ l) qs) (n ∷ q)
has_under n [] q h = h
has_under n (p ∷ qs) q (inl e) = inl (ap (λ l. n ∷ l) e)
has_under n (p ∷ qs) q (inr h) = inr (has_under n qs q h)

has_out : (n : ℕ) (P : List ℕ → Type 0) (qs : List (List ℕ)) → ((q : List ℕ) → Has qs q → P q) → (q : List ℕ) → Has (map (λ l. n ∷ l) qs) q → Under (n ∷ []) P q
has_out n P [] f q h = absurd h
has_out n P (p ∷ qs) f q (inl e) = subst (Under (n ∷ []) P) e (refl, f p (inl refl))
has_out n P (p ∷ qs) f q (inr h) = has_out n P qs (λ l i. f l (inr i)) q h

rising_under : (n : ℕ) (qs : List (List ℕ)) → Rising qs → Rising (map (λ l. n ∷ l) qs)
rising_under n [] r = tt
rising_under n (p ∷ qs) r = (first, rising_under n qs r.1)
  where
    first : (q : List ℕ) → Has (map (λ l. n ∷ l) qs) q → Before (n ∷ p) q
    first q h = by q (has_out n (Before p) qs r.0 q h)
      where
        by : (q : List ℕ) → Under (n ∷ []) (Before p) q → Before (n ∷ p) q
        by [] u = u
        by (k ∷ q) u = inr u

all_under : (n : ℕ) (P : List ℕ → Type 0) (qs : List (List ℕ)) → AreAll P qs → AreAll (Under (n ∷ []) P) (map (λ l. n ∷ l) qs)
all_under n P qs a = record { each = has_out n P qs a.each; every = every; rising = rising_under n qs a.rising }
  where
    every : (q : List ℕ) → Under (n ∷ []) P q → Has (map (λ l. n ∷ l) qs) q
    every [] u = absurd u
    every (k ∷ q) u = subst (λ (j : ℕ). Has (map (λ l. n ∷ l) qs) (j ∷ q)) u.0 (has_under n qs q (a.every q u.1))

module _ (B : List FieldValue → ℕ → List ℕ → Type 0) (f : Forest) where
  later : (low : ℕ) (ps : List (ℕ × List FieldValue)) → RisesFrom f low (map (λ (p : ℕ × List FieldValue). p.0) ps) → (j : ℕ) (shape : List FieldValue) → Assigns ps j shape → low ≤ j
  later low [] r j shape a = absurd a
  later low (p ∷ ps) r j shape (inl e) = omega (arith, r.0, ap (λ (x : ℕ × List FieldValue). x.0) e)
  later low (p ∷ ps) r j shape (inr a) = omega (arith, r.0, later (suc p.0) ps r.1 j shape a)

  nothing_in : (q : List ℕ) → InPairs B [] q → ⊥
  nothing_in [] h = h
  nothing_in (i ∷ q) h = h.1

  pub collects_all : (low : ℕ) (ps : List (ℕ × List FieldValue)) (ks : List (List ℕ)) → RisesFrom f low (map (λ (p : ℕ × List FieldValue). p.0) ps) → Collects B ps ks → AreAll (InPairs B ps) ks
  collects_all low [] ks r c = subst (AreAll (InPairs B [])) (sym c) (all_none (InPairs B []) nothing_in)
  collects_all low (p ∷ ps) ks r c =
      subst (AreAll (InPairs B (p ∷ ps))) (sym c.2)
      (all_join Here (InPairs B ps) (InPairs B (p ∷ ps)) (map (λ q. p.0 ∷ q) c.0) c.1 (all_under p.0 (B p.1 p.0) c.0 c.3) (collects_all (suc p.0) ps c.1 r.1 c.4) before here behind from)
    where
      Here : List ℕ → Type 0
      Here = Under (p.0 ∷ []) (B p.1 p.0)

      before : (a b : List ℕ) → Here a → InPairs B ps b → Before a b
      before [] b u h = absurd u
      before (i ∷ a) [] u h = absurd h
      before (i ∷ a) (j ∷ b) u h = let le = later (suc p.0) ps r.1 j h.0 h.1 in inl (omega (arith, u.0, le))

      here : (q : List ℕ) → Here q → InPairs B (p ∷ ps) q
      here [] u = absurd u
      here (i ∷ q) u = (p.1, inl (ap (λ (k : ℕ). (k, p.1)) u.0), subst (λ (k : ℕ). B p.1 k q) u.0 u.1)

      behind : (q : List ℕ) → InPairs B ps q → InPairs B (p ∷ ps) q
      behind [] h = h
      behind (i ∷ q) h = (h.0, inr h.1, h.2)

      from : (q : List ℕ) → InPairs B (p ∷ ps) q → Here q ⊎ InPairs B ps q
      from [] h = absurd h
      from (i ∷ q) h = elim h.1 [
        | inl e ↦ inl (ap (λ (x : ℕ × List FieldValue). x.0) e, subst (λ (x : ℕ × List FieldValue). B x.1 p.0 q) (sym e) (subst (λ (k : ℕ). B h.0 k q) (sym (ap (λ (x : ℕ × List FieldValue). x.0) e)) h.2))
        | inr a ↦ inr (h.0, a, h.2)
      ]

each_of : (P : ℕ × Spot → Type 0) (xs : List (ℕ × Spot)) → ((x : ℕ × Spot) → Has (map found_key xs) (found_key x) → P x) → AllByRecursion P xs
each_of P [] f = tt
each_of P (x ∷ xs) f = (f x (inl refl), each_of P xs (λ y h. f y (inr h)))

mapped : {X Y : Type 0} (g : X → Y) (P : Y → Type 0) (xs : List X) → AllByRecursion (λ x. P (g x)) xs → AllByRecursion P (map g xs)
mapped g P [] a = tt
mapped g P (x ∷ xs) a = (a.0, mapped g P xs a.1)

places : (m : List SegmentValue) (xs : List (ℕ × Spot)) → map place_of (map (breach_of m) xs) ≡ map found_key xs
places m [] = refl
places m ((n, s) ∷ xs) = ap (λ l. (n ∷ segment_key s) ∷ l) (places m xs)

get_segment : (m : List SegmentValue) (i : ℕ) → i < length m → slice_get m i ≡ Some (segment_at m i)
get_segment [] i lt = absurd (omega arith)
get_segment (s ∷ m) zero lt = refl
get_segment (s ∷ m) (suc i) lt = get_segment m i (omega arith)

module _ (p : ProfileValue) (m : List SegmentValue) (wf : Determined p.nodes NoName) (t : Tree) (is : IsTreeOf p m t) (spots : List (ℕ × Spot)) (found : Finds (BreachAt p m) (assigned t p.nodes) [] spots) where
  flat : map (λ (q : ℕ × List FieldValue). q.0) (assigned t p.nodes) ≡ numbers p.nodes m
  flat = assigned_flat (named m) t p.nodes (numbers p.nodes m) is ∙ tree_flat (named m) t p.nodes (numbers p.nodes m) is

  inside : AreAll (InPairs (BreachAt p m) (assigned t p.nodes)) (map found_key spots)
  inside =
      collects_all (BreachAt p m) p.nodes 0 (assigned t p.nodes) (map found_key spots)
      (subst (RisesFrom p.nodes 0) (sym flat) (numbers_rise p.nodes 0 m))
      (subst (λ (l : List (ℕ × Spot)). Collects (BreachAt p m) (assigned t p.nodes) (map found_key l)) (sym found.is) found.all)

  within_of : (ps : List (ℕ × List FieldValue)) (i : ℕ) (shape : List FieldValue) → AllByRecursion (λ k. k < length m) (map (λ (q : ℕ × List FieldValue). q.0) ps) → Assigns ps i shape → i < length m
  within_of [] i shape a h = absurd h
  within_of (q ∷ ps) i shape a (inl e) = subst (λ (x : ℕ × List FieldValue). x.0 < length m) e a.0
  within_of (q ∷ ps) i shape a (inr h) = within_of ps i shape a.1 h

  assigned_within : (i : ℕ) (shape : List FieldValue) → Assigns (assigned t p.nodes) i shape → i < length m
  assigned_within i shape = within_of (assigned t p.nodes) i shape (subst (AllByRecursion (λ k. k < length m)) (sym flat) (numbers_below p.nodes 0 (length m) m (omega arith)))

  pub spots_within : AllByRecursion (λ (x : ℕ × Spot). x.0 < length m) spots
  spots_within = each_of (λ (x : ℕ × Spot). x.0 < length m) spots (λ x h. let i = inside.each (found_key x) h in assigned_within x.0 i.0 i.1)

  breaks_inside : (i : ℕ) (q : List ℕ) → InPairs (BreachAt p m) (assigned t p.nodes) (i ∷ q) → Breaks p m i (named m i) q
  breaks_inside i q h = in_segment t h.0 (segment_at m i) is h.1 (get_segment m i (assigned_within i h.0 h.1)) h.2

  only_inside : (i : ℕ) (name : Name) (q : List ℕ) → Breaks p m i name q → InPairs (BreachAt p m) (assigned t p.nodes) (i ∷ q)
  only_inside i name q (out_of_order r there first stop) =
      absurd (stop (begins_whole p.nodes (suc i) m (fit_begins p.nodes m (tree_names_fit p m wf t is))))
  only_inside i name q (missing more never few) = absurd (never (tree_names_fit p m wf t is))
  only_inside i name q (in_segment u shape r isu a there b) = (
    shape,
    subst (λ v. Assigns (assigned v p.nodes) i shape) (unique.one_tree (named m) p.nodes NoName wf u t (numbers p.nodes m) isu is) a,
    subst (λ (x : SegmentValue). SegmentBreach p shape x.at q) (sym (segment_is m i r there)) b,
  )

  pub are_breaches : AreBreaches p m (map (breach_of m) spots)
  are_breaches = record {
    all = subst (AreAll (BreaksAt p m)) (sym (places m spots)) (all_same (InPairs (BreachAt p m) (assigned t p.nodes)) (BreaksAt p m) (map found_key spots) to from inside);
    named = mapped (breach_of m) (IsNamed p m) spots (each_of (λ x. IsNamed p m (breach_of m x)) spots label);
  }
    where
      to : (q : List ℕ) → InPairs (BreachAt p m) (assigned t p.nodes) q → BreaksAt p m q
      to [] h = h
      to (i ∷ q) h = (named m i, breaks_inside i q h)

      from : (q : List ℕ) → BreaksAt p m q → InPairs (BreachAt p m) (assigned t p.nodes) q
      from [] h = h
      from (i ∷ q) h = only_inside i h.0 q h.1

      label : (x : ℕ × Spot) → Has (map found_key spots) (found_key x) → IsNamed p m (breach_of m x)
      label (n, s) h = record { breaks = breaks_inside n (segment_key s) (inside.each (n ∷ segment_key s) h); counted = refl }

-- ---- the same by the shapes of the segments

module _ (p : ProfileValue) (m : List SegmentValue) (wf : Determined p.nodes NoName) (taken : List ℕ) (is : taken ≡ numbers p.nodes m) (shapes : List (Bor (List FieldShape))) (shape : IsShaped p m shapes) (spots : List (ℕ × Spot)) (found : Finds (BreachAt p m) (paired taken shapes) [] spots) where
  by_tree : Finds (BreachAt p m) (assigned shape.assigns.tree p.nodes) [] spots
  by_tree = subst (λ ps. Finds (BreachAt p m) ps [] spots) (ap (λ l. paired l shapes) is ∙ sym shape.assigns.pairs_are) found

  pub shaped_within : AllByRecursion (λ (x : ℕ × Spot). x.0 < length m) spots
  shaped_within = spots_within p m wf shape.assigns.tree shape.assigns.is spots by_tree

  pub shaped_breaches : AreBreaches p m (map (breach_of m) spots)
  shaped_breaches = are_breaches p m wf shape.assigns.tree shape.assigns.is spots by_tree

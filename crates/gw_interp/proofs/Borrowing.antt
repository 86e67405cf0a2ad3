-- The occurrences that are borrowed, and those of a place.
use Rattle.std.proofs.Common.{get_or, ◌≡◌, inl, inr, ℕ, zero, suc, ◌+◌, ◌-◌, ◌≤◌, ◌<◌, List, [], ◌∷◌, ◌++◌, Option, Some, None, refl, sym, ap, ◌∙◌, arith, length, map, slice_get, option_map, take, drop, append-nil, append_assoc}
use Rattle.std.specs.Prelude.{flat_map}
use Rattle.std.proofs.lemmas.List.{length-map, length-reverse, get_or-reverse, get_or-map, take_all, take-append-drop}
use Rattle.std.proofs.lemmas.Option.{slice_get_past, slice_get_cases}
use Rattle.gw_validate.specs.Trees.{Tree, leaf, segments, groups, Trees, no_trees, trees, count_of}
use Rattle.gw_validate.specs.Fitting.{OccValue, IsLent, IsAlone}
use Rattle.gw_validate.specs.Viewing as viewing
use Rattle.gw_validate.specs.Viewing.{number, row, tree_at, width, count_at, occurrence_at, occurrence_of}
use Rattle.gw_resolve.specs.Places.{Place}
use Rattle.gw_interp.specs.Occurrences.{Occurrence, a_segment, nodes, list_of, level_at, children, below, in_scope, at_place}
use Rattle.gw_interp.specs.own.Borrowed.{numbered, occurrence, scope, IsFirstOf}

-- ---- the children of a node

abbrev shown : viewing.Occurrence → Occurrence
shown (number n) = a_segment n
shown (row t) = nodes t

shown_is : (o : OccValue) → shown (occurrence_of o) ≡ occurrence o
shown_is o = by o.number
  where
    by : (n : Option ℕ) → shown (viewing.numbered_or n o.tree) ≡ numbered n o.tree
    by None = refl
    by (Some n) = refl

take_next : (ns : List ℕ) (k : ℕ) (o : viewing.Occurrence) → option_map number (slice_get ns k) ≡ Some o → take (suc k) (map a_segment ns) ≡ take k (map a_segment ns) ++ shown o ∷ []
take_next [] k o e = absurd (cc)
take_next (n ∷ ns) zero o e = let same : number n ≡ o = cc in ap (λ p. shown p ∷ []) same
take_next (n ∷ ns) (suc k) o e = ap (λ l. a_segment n ∷ l) (take_next ns k o e)

take_tree : (ts : Trees) (k : ℕ) (o : viewing.Occurrence) → option_map row (tree_at ts k) ≡ Some o → take (suc k) (list_of ts) ≡ take k (list_of ts) ++ shown o ∷ []
take_tree no_trees k o e = absurd (cc)
take_tree (trees t ts) zero o e = let same : row t ≡ o = cc in ap (λ p. shown p ∷ []) same
take_tree (trees t ts) (suc k) o e = ap (λ l. nodes t ∷ l) (take_tree ts k o e)

take_level : (t : Tree) (i k : ℕ) (o : viewing.Occurrence) → occurrence_at t i k ≡ Some o → take (suc k) (level_at t i) ≡ take k (level_at t i) ++ shown o ∷ []
take_level leaf i k o e = absurd (cc)
take_level (segments ns t) zero k o e = take_next ns k o e
take_level (segments ns t) (suc i) k o e = take_level t i k o e
take_level (groups ts t) zero k o e = take_tree ts k o e
take_level (groups ts t) (suc i) k o e = take_level t i k o e

drop_next : (ns : List ℕ) (k : ℕ) (o : viewing.Occurrence) → option_map number (slice_get ns k) ≡ Some o → drop k (map a_segment ns) ≡ shown o ∷ drop (suc k) (map a_segment ns)
drop_next [] k o e = absurd (cc)
drop_next (n ∷ ns) zero o e = let same : number n ≡ o = cc in ap (λ p. shown p ∷ map a_segment ns) same
drop_next (n ∷ ns) (suc k) o e = drop_next ns k o e

drop_tree : (ts : Trees) (k : ℕ) (o : viewing.Occurrence) → option_map row (tree_at ts k) ≡ Some o → drop k (list_of ts) ≡ shown o ∷ drop (suc k) (list_of ts)
drop_tree no_trees k o e = absurd (cc)
drop_tree (trees t ts) zero o e = let same : row t ≡ o = cc in ap (λ p. shown p ∷ list_of ts) same
drop_tree (trees t ts) (suc k) o e = drop_tree ts k o e

drop_shown : (t : Tree) (i k : ℕ) (o : viewing.Occurrence) → occurrence_at t i k ≡ Some o → drop k (level_at t i) ≡ shown o ∷ drop (suc k) (level_at t i)
drop_shown leaf i k o e = absurd (cc)
drop_shown (segments ns t) zero k o e = drop_next ns k o e
drop_shown (segments ns t) (suc i) k o e = drop_shown t i k o e
drop_shown (groups ts t) zero k o e = drop_tree ts k o e
drop_shown (groups ts t) (suc i) k o e = drop_shown t i k o e

-- the child of this number, and those behind it
pub drop_level : (t : Tree) (i k : ℕ) (o : OccValue) → occurrence_at t i k ≡ Some (occurrence_of o) → drop k (level_at t i) ≡ occurrence o ∷ drop (k + 1) (level_at t i)
drop_level t i k o e =
    let next : suc k ≡ k + 1 = omega arith in
    drop_shown t i k (occurrence_of o) e ∙ ap (λ p. p ∷ drop (suc k) (level_at t i)) (shown_is o) ∙ ap (λ n. occurrence o ∷ drop n (level_at t i)) next

length_trees : (ts : Trees) → length (list_of ts) ≡ count_of ts
length_trees no_trees = refl
length_trees (trees t ts) = ap suc (length_trees ts)

pub length_level : (t : Tree) (i : ℕ) → length (level_at t i) ≡ count_at t i
length_level leaf i = refl
length_level (segments ns t) zero = length-map ns a_segment
length_level (segments ns t) (suc i) = length_level t i
length_level (groups ts t) zero = length_trees ts
length_level (groups ts t) (suc i) = length_level t i

no_level : (t : Tree) (i : ℕ) → width t ≤ i → level_at t i ≡ []
no_level leaf i h = refl
no_level (segments ns t) zero h = absurd (omega (arith, h))
no_level (segments ns t) (suc i) h = no_level t i (omega (arith, h))
no_level (groups ts t) zero h = absurd (omega (arith, h))
no_level (groups ts t) (suc i) h = no_level t i (omega (arith, h))

-- the children of an occurrence that has none, and of one that has some
pub no_children : (o : OccValue) (i : ℕ) → width o.tree ≤ i → children (occurrence o) i ≡ []
no_children o i h = by o.number
  where
    by : (n : Option ℕ) → children (numbered n o.tree) i ≡ []
    by None = no_level o.tree i h
    by (Some n) = refl

pub level_children : (o : OccValue) (i : ℕ) → IsLent o → i < width o.tree → children (occurrence o) i ≡ level_at o.tree i
level_children o i lent h = by o.number lent.alone
  where
    by : (n : Option ℕ) → IsAlone n o.tree → children (numbered n o.tree) i ≡ level_at o.tree i
    by None e = refl
    by (Some n) e = absurd (omega (arith, h, ap width e))

pub flat_two : {A B : Type 0} (f : A → List B) (xs ys : List A) → flat_map f (xs ++ ys) ≡ flat_map f xs ++ flat_map f ys
flat_two f [] ys = refl
flat_two f (x ∷ xs) ys = ap (λ l. f x ++ l) (flat_two f xs ys) ∙ sym (append_assoc (f x) (flat_map f xs) (flat_map f ys))

-- ---- from the occurrence so far outwards

abbrev some_one : Option Occurrence → List Occurrence
some_one None = []
some_one (Some o) = o ∷ []

in_scope_is : (os : List Occurrence) (out : ℕ) → in_scope os out ≡ some_one (slice_get os out)
in_scope_is [] out = refl
in_scope_is (o ∷ os) zero = refl
in_scope_is (o ∷ os) (suc out) = in_scope_is os out

pub none_walked : (os : List OccValue) (out : ℕ) → length os ≤ out → in_scope (scope os) out ≡ []
none_walked os out h =
    let past : length (scope os) ≤ out = omega (arith, h, length-reverse (map occurrence os), length-map os occurrence) in
    in_scope_is (scope os) out ∙ ap some_one (slice_get_past (scope os) out past)

pub one_walked : (os : List OccValue) (out : ℕ) (o : OccValue) → out < length os → o ≡ get_or os (length os - 1 - out) o → in_scope (scope os) out ≡ occurrence o ∷ []
one_walked os out o h is =
    in_scope_is (scope os) out ∙ ap some_one (
    elim ((slice_get_cases (scope os) out).1) [
      | inl x ↦ x.2 ∙ ap Some (sym x.3 ∙ get_or-reverse (map occurrence os) out x.0 within ∙ there x.0)
      | inr x ↦ absurd (omega (arith, x.0, within, length-reverse (map occurrence os)))
    ])
  where
    within : out < length (map occurrence os)
    within = omega (arith, h, length-map os occurrence)

    there : (d : Occurrence) → get_or (map occurrence os) (length (map occurrence os) - 1 - out) d ≡ occurrence o
    there d =
        ap (λ n. get_or (map occurrence os) (n - 1 - out) d) (length-map os occurrence)
        ∙ get_or-map occurrence os (length os - 1 - out) o d (omega (arith, h))
        ∙ ap occurrence (sym is)

-- ---- those at a place

pub at_none : (os : List OccValue) (p : Place) → in_scope (scope os) p.out ≡ [] → at_place (scope os) p ≡ []
at_none os p none = ap (flat_map (below p.steps)) none

pub at_one : (os : List OccValue) (p : Place) (from : OccValue) → in_scope (scope os) p.out ≡ occurrence from ∷ [] → at_place (scope os) p ≡ below p.steps (occurrence from)
at_one os p from one = ap (flat_map (below p.steps)) one ∙ append-nil (below p.steps (occurrence from))

-- ---- the first one

no_first : {A : Type 0} (f : Occurrence → List A) (xs : List Occurrence) (x : Occurrence) → flat_map f xs ≡ [] → f x ≡ [] → flat_map f (xs ++ x ∷ []) ≡ []
no_first f xs x none empty = flat_two f xs (x ∷ []) ∙ ap (λ l. l ++ (f x ++ [])) none ∙ ap (λ l. l ++ []) empty

some_first : {A : Type 0} (f : Occurrence → List A) (xs ys : List Occurrence) (x : Occurrence) (y : A) (more : List A) → flat_map f xs ≡ [] → f x ≡ y ∷ more → flat_map f ((xs ++ x ∷ []) ++ ys) ≡ y ∷ (more ++ flat_map f ys)
some_first f xs ys x y more none is =
    flat_two f (xs ++ x ∷ []) ys
    ∙ ap (λ l. l ++ flat_map f ys) (flat_two f xs (x ∷ []) ∙ ap (λ l. l ++ (f x ++ [])) none ∙ append-nil (f x) ∙ is)

module _ (above : OccValue) (i : ℕ) (steps : List ℕ) where
  -- the steps lead nowhere from the first children
  abbrev pub LeadNowhere : ℕ → Type 0
  LeadNowhere k = flat_map (below steps) (take k (level_at above.tree i)) ≡ []

  next_child : (k : ℕ) (o : OccValue) → occurrence_at above.tree i k ≡ Some (occurrence_of o) → take (k + 1) (level_at above.tree i) ≡ take k (level_at above.tree i) ++ occurrence o ∷ []
  next_child k o e =
      let next : k + 1 ≡ suc k = omega arith in
      ap (λ n. take n (level_at above.tree i)) next ∙ take_level above.tree i k (occurrence_of o) e ∙ ap (λ p. take k (level_at above.tree i) ++ p ∷ []) (shown_is o)

  pub passed : (k : ℕ) (o : OccValue) → occurrence_at above.tree i k ≡ Some (occurrence_of o) → LeadNowhere k → below steps (occurrence o) ≡ [] → LeadNowhere (k + 1)
  passed k o e none empty = ap (flat_map (below steps)) (next_child k o e) ∙ no_first (below steps) (take k (level_at above.tree i)) (occurrence o) none empty

  pub found_first : (k : ℕ) (o first : OccValue) → IsLent above → i < width above.tree → occurrence_at above.tree i k ≡ Some (occurrence_of o) → LeadNowhere k → IsFirstOf (below steps (occurrence o)) (Some first) → IsFirstOf (flat_map (below steps) (children (occurrence above) i)) (Some first)
  found_first k o first lent h e none is = (
    is.0 ++ flat_map (below steps) (drop (k + 1) (level_at above.tree i)),
    ap (flat_map (below steps)) (level_children above i lent h ∙ sym (take-append-drop (k + 1) (level_at above.tree i)) ∙ ap (λ l. l ++ drop (k + 1) (level_at above.tree i)) (next_child k o e))
        ∙ some_first (below steps) (take k (level_at above.tree i)) (drop (k + 1) (level_at above.tree i)) (occurrence o) (occurrence first) is.0 none is.1,
  )

  pub none_first : (k : ℕ) → IsLent above → i < width above.tree → count_at above.tree i ≤ k → LeadNowhere k → flat_map (below steps) (children (occurrence above) i) ≡ []
  none_first k lent h le none =
      ap (flat_map (below steps)) (level_children above i lent h ∙ sym (take_all k (level_at above.tree i) (omega (arith, le, length_level above.tree i)))) ∙ none

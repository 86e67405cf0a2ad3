-- Determinism depends on what can follow a node by its names alone, in whatever order and however often they stand.
use Rattle.std.proofs.Common.{◌≡◌, ℕ, suc, ◌-◌, ◌<◌, ◌≤◌, drop, drop-cons, subst, arith, Bool, true, false, cond, List, [], ◌∷◌, ◌++◌, length, take, get_or, Option, Some, None, refl, sym, ap, ◌∙◌, append_assoc}
use Rattle.std.specs.Prelude.{◌+◌, ◌||◌, ◌&&◌, ◌==◌, if◌then◌else◌, bytes_eq}
use Rattle.std.proofs.lemmas.List.{take_more}
use Rattle.std.proofs.lemmas.List.Folds.{list_any-append}
use Rattle.std.proofs.lemmas.Cmp.{nat_list_eq_equiv}
use Rattle.gw_profile.specs.declared.shape.Card.{Card}
use Rattle.gw_profile.specs.declared.node.Node.{Node, Seg, Group'}
use Rattle.gw_profile.specs.Shapes.{Forest, nothing, segment, group}
use Rattle.gw_profile.specs.Line.{allows}
use Rattle.gw_profile.specs.Fault.{is_among}
use Rattle.gw_profile.specs.Seen.{node_forest, row_forest, forest}
use Rattle.gw_profile.specs.LookAhead.{is_optional, first_names, follow_names, behind_child, least, least_shared, clash, or_else, ambiguous, group_ambiguous}
use Rattle.gw_profile.specs.Nodes.{first_of_node, node_ambiguous, card_of, Joins, joined}
use Rattle.indexmap.specs.IndexSet.{IndexSet}
use Rattle.std.proofs.lemmas.List.{drop-append-le}
use Rattle.std.proofs.Math.Seq.{drop-length}

-- the same names
abbrev pub Same : List (List ℕ) → List (List ℕ) → Type 0
Same xs ys = (x : List ℕ) → is_among x xs ≡ is_among x ys

pub among_both : (x : List ℕ) (xs ys : List (List ℕ)) → is_among x (xs ++ ys) ≡ is_among x xs || is_among x ys
among_both x xs ys = list_any-append (bytes_eq x) xs ys

shared_same : (names xs ys : List (List ℕ)) → Same xs ys → least_shared names xs ≡ least_shared names ys
shared_same [] xs ys s = refl
shared_same (n ∷ names) xs ys s =
    (λ i. if s n i then Some (least n (shared_same names xs ys s i)) else shared_same names xs ys s i)

clash_same : (card : Card) (names xs ys : List (List ℕ)) → Same xs ys → clash card names xs ≡ clash card names ys
clash_same card names xs ys s = λ i. if allows card.max (card.min + 1) then shared_same names xs ys s i else None

joined_same : (b : Bool) (fixed xs ys : List (List ℕ)) → Same xs ys → Same (fixed ++ (if b then xs else [])) (fixed ++ (if b then ys else []))
joined_same b fixed xs ys s x = among_both x fixed (if b then xs else []) ∙ ap (λ r. is_among x fixed || r) (by b) ∙ sym (among_both x fixed (if b then ys else []))
  where
    by : (c : Bool) → is_among x (if c then xs else []) ≡ is_among x (if c then ys else [])
    by true = s x
    by false = refl

follow_same : (f : Forest) (xs ys : List (List ℕ)) → Same xs ys → Same (follow_names f xs) (follow_names f ys)
follow_same f xs ys s = joined_same (is_optional f) (first_names f) xs ys s

behind_same : (card : Card) (inner : Forest) (xs ys : List (List ℕ)) → Same xs ys → Same (behind_child card inner xs) (behind_child card inner ys)
behind_same card inner xs ys s x =
    let more = if allows card.max 2 then first_names inner else [] in
    among_both x xs more ∙ ap (λ r. r || is_among x more) (s x) ∙ sym (among_both x ys more)

pub ambiguous_same : (f : Forest) (xs ys : List (List ℕ)) → Same xs ys → ambiguous f xs ≡ ambiguous f ys
ambiguous_same nothing xs ys s = refl
ambiguous_same (segment v rest) xs ys s =
    let a = clash_same v.card (v.name ∷ []) (follow_names rest xs) (follow_names rest ys) (follow_same rest xs ys s) in
    let b = ambiguous_same rest xs ys s in
    λ i. or_else (a i) (b i)
ambiguous_same (group g inner rest) xs ys s =
    let t = follow_same rest xs ys s in
    let a = clash_same g.card (first_names inner) (follow_names rest xs) (follow_names rest ys) t in
    let c = ambiguous_same inner (behind_child g.card inner (follow_names rest xs)) (behind_child g.card inner (follow_names rest ys)) (behind_same g.card inner (follow_names rest xs) (follow_names rest ys) t) in
    let b = ambiguous_same rest xs ys s in
    λ i. or_else (or_else (a i) (c i)) (b i)

node_same : (node : Node) (xs ys : List (List ℕ)) → Same xs ys → node_ambiguous node xs ≡ node_ambiguous node ys
node_same (Seg s) xs ys h = clash_same s.card (s.name ∷ []) xs ys h
node_same (Group' label usage card shape row) xs ys h =
    let a = clash_same card (first_names (row_forest row)) xs ys h in
    let c = ambiguous_same (row_forest row) (behind_child card (row_forest row) xs) (behind_child card (row_forest row) ys) (behind_same card (row_forest row) xs ys h) in
    λ i. or_else (a i) (c i)

step_is : (node : Node) (rest : Forest) (after : List (List ℕ)) → ambiguous (node_forest node rest) after ≡ or_else (node_ambiguous node (follow_names rest after)) (ambiguous rest after)
step_is (Seg s) rest after = refl
step_is (Group' label usage card shape row) rest after = refl

first_is : (node : Node) (rest : Forest) → first_names (node_forest node rest) ≡ first_of_node node ++ (if (card_of node).min == 0 then first_names rest else [])
first_is (Seg s) rest = refl
first_is (Group' label usage card shape row) rest = refl

optional_step : (node : Node) (rest : Forest) → is_optional (node_forest node rest) ≡ ((card_of node).min == 0) && is_optional rest
optional_step (Seg s) rest = refl
optional_step (Group' label usage card shape row) rest = refl

-- one node more, before those that were gone through
pub found_more : (node : Node) (rest : Forest) (after follow : List (List ℕ)) (found new : Option (List ℕ)) → Same follow (follow_names rest after) → found ≡ ambiguous rest after → new ≡ or_else (node_ambiguous node follow) found → new ≡ ambiguous (node_forest node rest) after
found_more node rest after follow found new s f n =
    n ∙ ap (λ o. or_else o found) (node_same node follow (follow_names rest after) s) ∙ ap (or_else (node_ambiguous node (follow_names rest after))) f ∙ sym (step_is node rest after)

pub names_more : (node : Node) (rest : Forest) (after follow new : List (List ℕ)) → Same follow (follow_names rest after) → Joins (first_of_node node) (if (card_of node).min == 0 then follow else []) new → Same new (follow_names (node_forest node rest) after)
names_more node rest after follow new s j x =
    j x ∙ by ((card_of node).min == 0) (is_optional rest)
    ∙ sym (among_both x (first_of_node node ++ (if (card_of node).min == 0 then first_names rest else [])) (if ((card_of node).min == 0) && is_optional rest then after else []) ∙ ap (λ r. r || is_among x (if ((card_of node).min == 0) && is_optional rest then after else [])) (among_both x (first_of_node node) (if (card_of node).min == 0 then first_names rest else [])))
    ∙ ap (λ b. is_among x ((first_of_node node ++ (if (card_of node).min == 0 then first_names rest else [])) ++ (if b then after else []))) (sym (optional_step node rest))
    ∙ ap (λ l. is_among x (l ++ (if is_optional (node_forest node rest) then after else []))) (sym (first_is node rest))
  where
    swap : (a b : Bool) → a || b ≡ b || a
    swap true true = refl
    swap true false = refl
    swap false true = refl
    swap false false = refl

    group_up : (a b c : Bool) → (b || c) || a ≡ (a || b) || c
    group_up true true c = refl
    group_up true false true = refl
    group_up true false false = refl
    group_up false true c = refl
    group_up false false true = refl
    group_up false false false = refl

    none : (a : Bool) → false || a ≡ (a || false) || false
    none true = refl
    none false = refl

    by : (zero optional : Bool) → is_among x (if zero then follow else []) || is_among x (first_of_node node) ≡ (is_among x (first_of_node node) || is_among x (if zero then first_names rest else [])) || is_among x (if zero && is_optional rest then after else [])
    by true o = ap (λ r. r || is_among x (first_of_node node)) (s x ∙ among_both x (first_names rest) (if is_optional rest then after else [])) ∙ group_up (is_among x (first_of_node node)) (is_among x (first_names rest)) _
    by false o = none (is_among x (first_of_node node))

-- ---- names that are put into a set

put_is : (b initial taken : Bool) → cond b true (initial || taken) ≡ initial || (taken || (b || false))
put_is true true t = refl
put_is true false true = refl
put_is true false false = refl
put_is false true t = refl
put_is false false true = refl
put_is false false false = refl

pub put_more : (x : List ℕ) (names : List (List ℕ)) (i : ℕ) (d : List ℕ) (initial old new : List (List ℕ)) → i < length names → is_among x new ≡ cond (bytes_eq (get_or names i d) x) true (is_among x old) → is_among x old ≡ is_among x initial || is_among x (take i names) → is_among x new ≡ is_among x initial || is_among x (take (i + 1) names)
put_more x names i d initial old new more u e =
    u ∙ ap (λ b. cond (bytes_eq (get_or names i d) x) true b) e
    ∙ put_is (bytes_eq (get_or names i d) x) (is_among x initial) (is_among x (take i names))
    ∙ ap (λ b. is_among x initial || (is_among x (take i names) || (b || false))) (nat_list_eq_equiv.symm (get_or names i d) x)
    ∙ ap (λ b. is_among x initial || b) (sym (among_both x (take i names) (get_or names i d ∷ [])))
    ∙ ap (λ l. is_among x initial || is_among x l) (sym (take_more names i d more))

-- ---- sets of the levels around a node

pub joined_append : {S : Type 0} (xs ys : List (IndexSet (List ℕ) S)) → joined (xs ++ ys) ≡ joined xs ++ joined ys
joined_append [] ys = refl
joined_append (x ∷ xs) ys = ap (λ l. x.keys ++ l) (joined_append xs ys) ∙ sym (append_assoc x.keys (joined xs) (joined ys))

snoc_same : {A : Type 0} (xs ys : List A) (a b : A) → xs ++ a ∷ [] ≡ ys ++ b ∷ [] → (xs ≡ ys) × (a ≡ b)
snoc_same [] [] a b e = (refl, cc)
snoc_same [] (y ∷ []) a b e = absurd (cc)
snoc_same [] (y ∷ z ∷ ys) a b e = absurd (cc)
snoc_same (x ∷ []) [] a b e = absurd (cc)
snoc_same (x ∷ z ∷ xs) [] a b e = absurd (cc)
snoc_same (x ∷ xs) (y ∷ ys) a b e =
    let f : xs ++ a ∷ [] ≡ ys ++ b ∷ [] = cc in let g : x ≡ y = cc in let h = snoc_same xs ys a b f in (λ i. g i ∷ h.0 i, h.1)

-- the last is taken
pub taken_back : {A : Type 0} (old kept sets : List A) (x held : A) → old ≡ kept ++ x ∷ [] → old ≡ sets ++ held ∷ [] → (x ≡ held) × (kept ≡ sets)
taken_back old kept sets x held a b = let h = snoc_same kept sets x held (sym a ∙ b) in (h.1, h.0)

-- what can come behind the children of a group, with the sets of the levels around it
pub behind_more : {S : Type 0} (x : List ℕ) (start : ℕ) (sets : List (IndexSet (List ℕ) S)) (near : IndexSet (List ℕ) S) (again : List (List ℕ)) → start ≤ length sets
    → is_among x (again ++ joined (drop start (sets ++ near ∷ []))) ≡ is_among x (near.keys ++ joined (drop start sets)) || is_among x again
behind_more x start sets near again h =
    ap (λ l. is_among x (again ++ l)) (ap joined (drop-append-le start sets (near ∷ []) h) ∙ joined_append (drop start sets) (near ∷ []))
    ∙ among_both x again (joined (drop start sets) ++ (near.keys ++ []))
    ∙ ap (λ b. is_among x again || b) (among_both x (joined (drop start sets)) (near.keys ++ []) ∙ ap (λ b. is_among x (joined (drop start sets)) || b) (among_both x near.keys []))
    ∙ turn (is_among x again) (is_among x (joined (drop start sets))) (is_among x near.keys)
    ∙ ap (λ b. b || is_among x again) (sym (among_both x near.keys (joined (drop start sets))))
  where
    turn : (a b c : Bool) → a || (b || (c || false)) ≡ (c || b) || a
    turn true true true = refl
    turn true true false = refl
    turn true false true = refl
    turn true false false = refl
    turn false true true = refl
    turn false true false = refl
    turn false false true = refl
    turn false false false = refl

-- one node more, whose names are near
pub joins_far : {S : Type 0} (min start from : ℕ) (first near new : List (List ℕ)) (sets : List (IndexSet (List ℕ) S)) → Joins first (if min == 0 then near else []) new → from ≡ (if min == 0 then start else length sets)
    → Joins first (if min == 0 then near ++ joined (drop start sets) else []) (new ++ joined (drop from sets))
joins_far {S} min start from first near new sets j e x =
    among_both x new (joined (drop from sets)) ∙ ap (λ b. b || is_among x (joined (drop from sets))) (j x) ∙ ap (λ n. (is_among x (if min == 0 then near else []) || is_among x first) || is_among x (joined (drop n sets))) e ∙ by (min == 0)
  where
    turn : (a b c : Bool) → (a || b) || c ≡ (a || c) || b
    turn true true c = refl
    turn true false c = refl
    turn false true true = refl
    turn false true false = refl
    turn false false true = refl
    turn false false false = refl

    none : (b : Bool) → b || false ≡ b
    none true = refl
    none false = refl

    by : (b : Bool) → (is_among x (if b then near else []) || is_among x first) || is_among x (joined (drop (if b then start else length sets) sets)) ≡ is_among x (if b then near ++ joined (drop start sets) else []) || is_among x first
    by true = turn (is_among x near) (is_among x first) (is_among x (joined (drop start sets))) ∙ ap (λ b. b || is_among x first) (sym (among_both x near (joined (drop start sets))))
    by false = ap (λ (l : List (IndexSet (List ℕ) S)). is_among x first || is_among x (joined l)) (drop-length sets) ∙ none (is_among x first)

pub passed_within : (min start from len : ℕ) → start ≤ len → from ≡ (if min == 0 then start else len) → from ≤ len
passed_within min start from len h e = subst (λ n. n ≤ len) (sym e) (by (min == 0))
  where
    by : (b : Bool) → (if b then start else len) ≤ len
    by true = h
    by false = omega arith

-- ---- the walk from the last node to the first

pub walk_more : (nodes : List Node) (left : ℕ) (node : Node) (after follow first new : List (List ℕ)) (min : ℕ) (found name result : Option (List ℕ)) → 0 < left → left ≤ length nodes → node ≡ get_or nodes (left - 1) node → Same follow (follow_names (forest (drop left nodes)) after) → found ≡ ambiguous (forest (drop left nodes)) after → name ≡ node_ambiguous node follow → result ≡ or_else name found → first ≡ first_of_node node → min ≡ (card_of node).min → Joins first (if min == 0 then follow else []) new → Same new (follow_names (forest (drop (left - 1) nodes)) after) × (result ≡ ambiguous (forest (drop (left - 1) nodes)) after)
walk_more nodes left node after follow first new min found name result some within at same f n r p k j =
    let m : left - 1 < length nodes = omega arith in
    let s : suc (left - 1) ≡ left = omega arith in
    let e : drop (left - 1) nodes ≡ node ∷ drop left nodes = drop-cons nodes (left - 1) node m ∙ (λ i. sym at i ∷ drop (s i) nodes) in
    let joins : Joins (first_of_node node) (if (card_of node).min == 0 then follow else []) new =
    subst (λ (l : List (List ℕ)). Joins l (if (card_of node).min == 0 then follow else []) new) p
    (subst (λ (z : ℕ). Joins first (if z == 0 then follow else []) new) k j) in
    subst (λ (l : List Node). Same new (follow_names (forest l) after) × (result ≡ ambiguous (forest l) after)) (sym e)
    (names_more node (forest (drop left nodes)) after follow new same joins, found_more node (forest (drop left nodes)) after follow found result same f (r ∙ ap (λ o. or_else o found) n))

pub group_more : (card : Card) (inner : Forest) (after behind first : List (List ℕ)) → first ≡ first_names inner → clash card first after ≡ None → Joins (if allows card.max 2 then first else []) after behind → ambiguous inner behind ≡ group_ambiguous card inner after
group_more card inner after behind first p n j =
    let c : clash card (first_names inner) after ≡ None = ap (λ (f : List (List ℕ)). clash card f after) (sym p) ∙ n in
    let k : Joins (if allows card.max 2 then first_names inner else []) after behind = subst (λ (f : List (List ℕ)). Joins (if allows card.max 2 then f else []) after behind) p j in
    ambiguous_same inner behind (behind_child card inner after) (λ x. k x ∙ sym (among_both x after (if allows card.max 2 then first_names inner else [])))
    ∙ ap (λ (o : Option (List ℕ)). or_else o (ambiguous inner (behind_child card inner after))) (sym c)

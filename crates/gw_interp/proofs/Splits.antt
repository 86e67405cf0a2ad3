-- The items of one node, and those of later nodes.
use Rattle.std.proofs.Common.{◌≡◌, ℕ, suc, ◌≤◌, inl, inr, Bool, true, false, ◌&&◌, ◌==◌, List, [], ◌∷◌, ◌++◌, Option, Some, None, refl, sym, ap, ◌∙◌, subst, arith, true≢false}
use Rattle.std.specs.Prelude.{if◌then◌else◌, nat_le, unwrap_or}
use Rattle.std.proofs.lemmas.Bool.Decides.{eqb_tells, leb_tells}
use Rattle.std.proofs.lemmas.List.{append_assoc}
use Rattle.gw_er7.specs.Message.{SegmentValue}
use Rattle.gw_profile.specs.Shapes.{Forest, ProfileValue}
use Rattle.gw_validate.specs.Cuts.{Cut}
use Rattle.gw_resolve.specs.Places.{Element, child, nodes_of_child}
use Rattle.gw_resolve.specs.Resolved.{Rule, Items, no_items, segment_item, group_item, flat_item, first_child}
use Rattle.gw_check.specs.Levels.{is_of, its, beyond, items_failures}
use Rattle.gw_resolve.specs.Order.{is_segment, is_group, follows, all_for, are_placed}
use Rattle.gw_resolve.specs.Lawful.{LawfulItems}
use Rattle.gw_interp.specs.Occurrences.{Occurrence}
use Rattle.gw_interp.specs.Meaning.{Walked, GiveBy}

-- ---- truth values

pub both_true : (a b : Bool) → (a && b) ≡ true → (a ≡ true) × (b ≡ true)
both_true true b e = (refl, e)
both_true false b e = absurd (cc)

pub three_true : (a b c : Bool) → (a && b && c) ≡ true → (a ≡ true) × (b ≡ true) × (c ≡ true)
three_true true true c e = (refl, refl, e)
three_true true false c e = absurd (cc)
three_true false b c e = absurd (cc)

pub four_true : (a b c d : Bool) → (a && b && c && d) ≡ true → (a ≡ true) × (b ≡ true) × (c ≡ true) × (d ≡ true)
four_true true true true d e = (refl, refl, refl, e)
four_true true true false d e = absurd (cc)
four_true true false c d e = absurd (cc)
four_true false b c d e = absurd (cc)

pub from_nat_le : (a b : ℕ) → nat_le a b ≡ true → a ≤ b
from_nat_le a b e =
    elim (leb_tells a b) [
      | inl h ↦ h.1
      | inr h ↦ absurd (true≢false (sym e ∙ h.0))
    ]

pub to_nat_le : (a b : ℕ) → a ≤ b → nat_le a b ≡ true
to_nat_le a b h =
    elim (leb_tells a b) [
      | inl k ↦ k.0
      | inr k ↦ absurd (omega (arith, h, k.1))
    ]

-- ---- lists that are empty

pub nil_left : {X : Type 0} (xs ys : List X) → xs ++ ys ≡ [] → xs ≡ []
nil_left [] ys e = refl
nil_left (x ∷ xs) ys e = absurd (cc)

pub nil_right : {X : Type 0} (xs ys : List X) → xs ++ ys ≡ [] → ys ≡ []
nil_right [] ys e = e
nil_right (x ∷ xs) ys e = absurd (cc)

pub nil_both : {X : Type 0} (xs ys : List X) → xs ≡ [] → ys ≡ [] → xs ++ ys ≡ []
nil_both xs ys e f = ap (λ l. l ++ ys) e ∙ f

-- ---- items joined

pub join : Items → Items → Items
join no_items more = more
join (segment_item s rest) more = segment_item s (join rest more)
join (group_item g items rest) more = group_item g items (join rest more)
join (flat_item f items rest) more = flat_item f items (join rest more)

pub joined : (j : ℕ) (items : Items) → join (its j items) (beyond j items) ≡ items
unfolding join
joined j no_items = refl
joined j (segment_item s rest) = go (s.child == j) (joined j rest)
  where
    go : (b : Bool) → join (its j rest) (beyond j rest) ≡ rest → join (if b then segment_item s (its j rest) else no_items) (if b then beyond j rest else segment_item s rest) ≡ segment_item s rest
    go true e = ap (segment_item s) e
    go false e = refl
joined j (group_item g items rest) = go (g.child == j) (joined j rest)
  where
    go : (b : Bool) → join (its j rest) (beyond j rest) ≡ rest → join (if b then group_item g items (its j rest) else no_items) (if b then beyond j rest else group_item g items rest) ≡ group_item g items rest
    go true e = ap (group_item g items) e
    go false e = refl
joined j (flat_item f items rest) = go (is_of j (first_child items)) (joined j rest)
  where
    go : (b : Bool) → join (its j rest) (beyond j rest) ≡ rest → join (if b then flat_item f items (its j rest) else no_items) (if b then beyond j rest else flat_item f items rest) ≡ flat_item f items rest
    go true e = ap (flat_item f items) e
    go false e = refl

pub lawful_join : (nodes : Forest) (a b : Items) → LawfulItems nodes (join a b) → LawfulItems nodes a × LawfulItems nodes b
unfolding join
lawful_join nodes no_items b h = (tt, h)
lawful_join nodes (segment_item s rest) b h = let more = lawful_join nodes rest b h.1 in ((h.0, more.0), more.1)
lawful_join nodes (group_item g items rest) b h = let more = lawful_join nodes rest b h.1 in ((h.0, more.0), more.1)
lawful_join nodes (flat_item f items rest) b h = let more = lawful_join nodes rest b h.1 in ((h.0, more.0), more.1)

-- something of the items of each group, at any depth of flats
abbrev pub EachGroup : (Items → Type 0) → Items → Type 0
EachGroup P no_items = Unit {0}
EachGroup P (segment_item s rest) = EachGroup P rest
EachGroup P (group_item g items rest) = P items × EachGroup P rest
EachGroup P (flat_item f items rest) = EachGroup P items × EachGroup P rest

pub groups_join : (P : Items → Type 0) (a b : Items) → EachGroup P (join a b) → EachGroup P a × EachGroup P b
unfolding join
groups_join P no_items b h = (tt, h)
groups_join P (segment_item s rest) b h = groups_join P rest b h
groups_join P (group_item g items rest) b h = let more = groups_join P rest b h.1 in ((h.0, more.0), more.1)
groups_join P (flat_item f items rest) b h = let more = groups_join P rest b h.1 in ((h.0, more.0), more.1)

abbrev None_fail : ProfileValue → ProfileValue → List Element → Forest → Items → Type 0
None_fail from to es nodes items = items_failures from to es nodes items ≡ []

pub failures_join : (from to : ProfileValue) (es : List Element) (nodes : Forest) (a b : Items) → None_fail from to es nodes (join a b) → None_fail from to es nodes a × None_fail from to es nodes b
unfolding join
failures_join from to es nodes no_items b h = (refl, h)
failures_join from to es nodes (segment_item s rest) b h =
    let more = failures_join from to es nodes rest b (nil_right _ _ h) in (nil_both _ _ (nil_left _ _ h) more.0, more.1)
failures_join from to es nodes (group_item g items rest) b h =
    let more = failures_join from to es nodes rest b (nil_right _ _ h) in (nil_both _ _ (nil_left _ _ h) more.0, more.1)
failures_join from to es nodes (flat_item f items rest) b h =
    let more = failures_join from to es nodes rest b (nil_right _ _ h) in (nil_both _ _ (nil_left _ _ h) more.0, more.1)

-- what two lists of items give is a front and a back
module _ (Image : Walked → List ℕ → List Rule → SegmentValue → Type 0) (m : List SegmentValue) (os : List Occurrence) (target : Forest) where
  pub give_join : (a b : Items) (list : List SegmentValue) → GiveBy Image m os target (join a b) list → Cut (GiveBy Image m os target a) (GiveBy Image m os target b) list
  unfolding join
  give_join no_items b list h = record { front = []; back = list; joined = refl; here = refl; there = h }
  give_join (segment_item s rest) b list h =
      let more = give_join rest b h.back h.there in
      record {
        front = h.front ++ more.front;
        back = more.back;
        joined = h.joined ∙ ap (λ l. h.front ++ l) more.joined ∙ sym (append_assoc h.front more.front more.back);
        here = record { front = h.front; back = more.front; joined = refl; here = h.here; there = more.here };
        there = more.there;
      }
  give_join (group_item g items rest) b list h =
      let more = give_join rest b h.back h.there in
      record {
        front = h.front ++ more.front;
        back = more.back;
        joined = h.joined ∙ ap (λ l. h.front ++ l) more.joined ∙ sym (append_assoc h.front more.front more.back);
        here = record { front = h.front; back = more.front; joined = refl; here = h.here; there = more.here };
        there = more.there;
      }
  give_join (flat_item f items rest) b list h =
      let more = give_join rest b h.back h.there in
      record {
        front = h.front ++ more.front;
        back = more.back;
        joined = h.joined ∙ ap (λ l. h.front ++ l) more.joined ∙ sym (append_assoc h.front more.front more.back);
        here = record { front = h.front; back = more.front; joined = refl; here = h.here; there = more.here };
        there = more.there;
      }

-- ---- in the order of the nodes

pub placed_its : (nodes : Forest) (j : ℕ) (items : Items) → are_placed nodes j items ≡ true → all_for nodes j (its j items) ≡ true
placed_its nodes j no_items h = refl
placed_its nodes j (segment_item s rest) h =
    let t = three_true (nat_le j s.child) (is_segment (child nodes s.child)) (are_placed nodes s.child rest) h in
    elim (eqb_tells s.child j) [
      | inl e ↦ rw e.0 (go e.0 (subst (λ k. is_segment (child nodes k) ≡ true) e.1 t.1) (placed_its nodes j rest (subst (λ k. are_placed nodes k rest ≡ true) e.1 t.2)))
      | inr e ↦ rw e.0 refl
    ]
  where
    go : (s.child == j) ≡ true → is_segment (child nodes j) ≡ true → all_for nodes j (its j rest) ≡ true → all_for nodes j (segment_item s (its j rest)) ≡ true
    go e f g = rw (e, f, g) refl
placed_its nodes j (group_item g items rest) h =
    let t = four_true (nat_le j g.child) (is_group (child nodes g.child)) (are_placed (nodes_of_child nodes g.child) 0 items) (are_placed nodes g.child rest) h in
    elim (eqb_tells g.child j) [
      | inl e ↦ rw e.0 (go e.0 (subst (λ k. is_group (child nodes k) ≡ true) e.1 t.1) (subst (λ k. are_placed (nodes_of_child nodes k) 0 items ≡ true) e.1 t.2) (placed_its nodes j rest (subst (λ k. are_placed nodes k rest ≡ true) e.1 t.3)))
      | inr e ↦ rw e.0 refl
    ]
  where
    go : (g.child == j) ≡ true → is_group (child nodes j) ≡ true → are_placed (nodes_of_child nodes j) 0 items ≡ true → all_for nodes j (its j rest) ≡ true → all_for nodes j (group_item g items (its j rest)) ≡ true
    go e f i r = rw (e, f, i, r) refl
placed_its nodes j (flat_item f items rest) h = go (placed_its nodes j rest) (first_child items) h
  where
    go : (are_placed nodes j rest ≡ true → all_for nodes j (its j rest) ≡ true) → (c : Option ℕ) → (follows c j && all_for nodes (unwrap_or c j) items && are_placed nodes (unwrap_or c j) rest) ≡ true → all_for nodes j (if is_of j c then flat_item f items (its j rest) else no_items) ≡ true
    go more None p = absurd (cc)
    go more (Some k) p =
        let t = three_true (nat_le j k) (all_for nodes k items) (are_placed nodes k rest) p in
        elim (eqb_tells k j) [
          | inl same ↦ rw same.0 (
              let c : all_for nodes j items ≡ true = subst (λ i. all_for nodes i items ≡ true) same.1 t.1 in
              let d : all_for nodes j (its j rest) ≡ true = more (subst (λ i. are_placed nodes i rest ≡ true) same.1 t.2) in
              rw (c, d) refl)
          | inr other ↦ rw other.0 refl
        ]

pub placed_beyond : (nodes : Forest) (j : ℕ) (items : Items) → are_placed nodes j items ≡ true → are_placed nodes (suc j) (beyond j items) ≡ true
placed_beyond nodes j no_items h = refl
placed_beyond nodes j (segment_item s rest) h =
    let t = three_true (nat_le j s.child) (is_segment (child nodes s.child)) (are_placed nodes s.child rest) h in
    elim (eqb_tells s.child j) [
      | inl e ↦ rw e.0 (placed_beyond nodes j rest (subst (λ k. are_placed nodes k rest ≡ true) e.1 t.2))
      | inr e ↦ rw e.0 (
          let low : nat_le (suc j) s.child ≡ true = to_nat_le (suc j) s.child (omega (arith, from_nat_le j s.child t.0, e.1)) in
          let seg = t.1 in let more = t.2 in
          rw (low, seg, more) refl)
    ]
placed_beyond nodes j (group_item g items rest) h =
    let t = four_true (nat_le j g.child) (is_group (child nodes g.child)) (are_placed (nodes_of_child nodes g.child) 0 items) (are_placed nodes g.child rest) h in
    elim (eqb_tells g.child j) [
      | inl e ↦ rw e.0 (placed_beyond nodes j rest (subst (λ k. are_placed nodes k rest ≡ true) e.1 t.3))
      | inr e ↦ rw e.0 (
          let low : nat_le (suc j) g.child ≡ true = to_nat_le (suc j) g.child (omega (arith, from_nat_le j g.child t.0, e.1)) in
          let kind = t.1 in let inner = t.2 in let more = t.3 in
          rw (low, kind, inner, more) refl)
    ]
placed_beyond nodes j (flat_item f items rest) h = go (placed_beyond nodes j rest) (first_child items) refl h
  where
    go : (are_placed nodes j rest ≡ true → are_placed nodes (suc j) (beyond j rest) ≡ true) → (c : Option ℕ) → first_child items ≡ c → (follows c j && all_for nodes (unwrap_or c j) items && are_placed nodes (unwrap_or c j) rest) ≡ true → are_placed nodes (suc j) (if is_of j c then beyond j rest else flat_item f items rest) ≡ true
    go more None e p = absurd (cc)
    go more (Some k) e p =
        let t = three_true (nat_le j k) (all_for nodes k items) (are_placed nodes k rest) p in
        elim (eqb_tells k j) [
          | inl same ↦ rw same.0 (more (subst (λ i. are_placed nodes i rest ≡ true) same.1 t.2))
          | inr other ↦ rw other.0 (
              let low : nat_le (suc j) k ≡ true = to_nat_le (suc j) k (omega (arith, from_nat_le j k t.0, other.1)) in
              let inner = t.1 in let more = t.2 in
              rw (e, low, inner, more) refl)
        ]

-- Where no rule fails, what a map gives conforms to the target.
use Rattle.std.proofs.Common.{inl, inr, ◌≡◌, ℕ, suc, ◌+◌, ◌-◌, ◌≤◌, Bool, true, false, ◌&&◌, ◌==◌, not, List, [], ◌++◌, Option, Some, None, refl, sym, ap, ◌∙◌, subst, arith, true≢false}
use Rattle.std.specs.Prelude.{nat_le, nat_lt, unwrap_or}
use Rattle.std.proofs.lemmas.Bool.Decides.{leb_tells}
use Rattle.gw_er7.specs.Message.{SegmentValue}
use Rattle.gw_profile.specs.declared.shape.Usage.{Usage}
use Rattle.gw_profile.specs.declared.shape.Usage.TheVariants.{R, RE, O, X}
use Rattle.gw_profile.specs.declared.shape.Card.{Card}
use Rattle.gw_profile.specs.Shapes.{FieldValue, Forest, ProfileValue, nothing, segment, group}
use Rattle.gw_profile.specs.Deterministic.{AtMost}
use Rattle.gw_profile.specs.WellFormed.{Agrees}
use Rattle.gw_validate.specs.Breaches.{is_forbidden}
use Rattle.gw_validate.specs.Cuts.{Times}
use Rattle.gw_validate.specs.Conforming.{Seq}
use Rattle.gw_resolve.specs.Intervals.{Interval, is_never, is_within}
use Rattle.gw_resolve.specs.Places.{Element, a_segment, a_group, child, nodes_of_child}
use Rattle.gw_resolve.specs.Resolved.{Rule, Items, no_items, segment_item, group_item, flat_item, first_child}
use Rattle.gw_resolve.specs.Failures.{Mark, fails}
use Rattle.gw_check.specs.Fields.{counted, is_expected}
use Rattle.gw_check.specs.Levels.{its, beyond, node_mark, has_no_item, node_failures, level_failures, items_failures, items_count}
use Rattle.gw_resolve.specs.Order.{is_segment, is_group, follows, all_for, are_placed}
use Rattle.gw_resolve.specs.Lawful.{LawfulItems}
use Rattle.gw_interp.specs.Occurrences.{Occurrence}
use Rattle.gw_interp.specs.Meaning.{Walked, GiveBy}
use Rattle.gw_interp.proofs.Parts.{Given}
use Rattle.gw_interp.proofs.Splits as splits
use Rattle.gw_interp.proofs.Splits.{both_true, three_true, four_true, from_nat_le, nil_left, nil_right, joined, lawful_join, groups_join, failures_join, give_join, placed_its, placed_beyond}
use Rattle.gw_interp.proofs.LevelsSound.{none_broken, from_eq, LawfulNodes, Scoped, FieldsSound, Part, LevelSound, items_given}

-- ---- counts

within_means : (a b : Option ℕ) (k : ℕ) → is_within a b ≡ true → AtMost a k → AtMost b k
within_means a None k e h = tt
within_means None (Some b) k e h = absurd (cc)
within_means (Some a) (Some b) k e h = let less : a ≤ b = from_nat_le a b e in omega (arith, less, h)

never_means : (a : Option ℕ) (k : ℕ) → is_never a ≡ true → AtMost a k → AtMost (Some 0) k
never_means None k e h = absurd (cc)
never_means (Some a) k e h = let zero : a ≡ 0 = from_eq a 0 e in omega (arith, zero, h)

not_below : (a b : ℕ) → nat_lt a b ≡ false → b ≤ a
not_below a b e =
    elim (leb_tells (suc a) b) [
      | inl h ↦ absurd (true≢false (sym h.0 ∙ e))
      | inr h ↦ omega (arith, h.1)
    ]

not_not : (b : Bool) → not b ≡ false → b ≡ true
not_not true e = refl
not_not false e = absurd (cc)

four_empty : {X : Type 0} (a b c d : List X) → a ++ b ++ c ++ d ≡ [] → (a ≡ []) × (b ≡ []) × (c ≡ []) × (d ≡ [])
four_empty a b c d e =
    let abc : a ++ b ++ c ≡ [] = nil_left (a ++ b ++ c) d e in
    let ab : a ++ b ≡ [] = nil_left (a ++ b) c abc in
    (nil_left a b ab, nil_right a b ab, nil_right (a ++ b) c abc, nil_right (a ++ b ++ c) d e)

-- what the rules on the count of a node say
record Counts (usage : Usage) (card : Card) (count : Interval) : Type 0 where
  not_more : (not (is_forbidden usage) && not (is_within count.greatest card.max)) ≡ false
  not_fewer : nat_lt count.least card.min ≡ false
  not_forbidden : (is_forbidden usage && not (is_never count.greatest)) ≡ false

counts_hold : (mark : Mark) (usage : Usage) (card : Card) (count : Interval) (items : Items) → node_failures mark usage card count items ≡ [] → Counts usage card count
counts_hold mark usage card count items none =
    let at : Mark = counted (has_no_item items) count mark in
    let most : Bool = not (is_forbidden usage) && not (is_within count.greatest card.max) in
    let fewer : Bool = nat_lt count.least card.min in
    let missing : Bool = is_expected usage && has_no_item items in
    let forbidden : Bool = is_forbidden usage && not (is_never count.greatest) in
    let each = four_empty (fails 4 at most) (fails 5 at fewer) (fails 8 at missing) (fails 11 at forbidden) none in
    record { not_more = none_broken 4 at most each.0; not_fewer = none_broken 5 at fewer each.1; not_forbidden = none_broken 11 at forbidden each.3 }

module _ (P : List SegmentValue → Type 0) (card : Card) (count : Interval) (list : List SegmentValue) where
  most_given : (usage : Usage) → Agrees usage card → Counts usage card count → (g : Given P count list) → AtMost card.max g.count
  most_given R a c g = within_means count.greatest card.max g.count (not_not _ c.not_more) g.few
  most_given RE a c g = within_means count.greatest card.max g.count (not_not _ c.not_more) g.few
  most_given O a c g = within_means count.greatest card.max g.count (not_not _ c.not_more) g.few
  most_given X a c g = subst (λ b. AtMost b g.count) (sym a.1) (never_means count.greatest g.count (not_not _ c.not_forbidden) g.few)

  -- as many as the cardinality allows
  times_given : (mark : Mark) (items : Items) (usage : Usage) → Agrees usage card → node_failures mark usage card count items ≡ [] → Given P count list → Times card.min card.max P list
  times_given mark items usage a none g =
      let c = counts_hold mark usage card count items none in
      let low : card.min ≤ count.least = not_below count.least card.min c.not_fewer in
      (g.count, omega (arith, low, g.enough), most_given usage a c g, g.parts)

-- ---- behind the last node there is no item

for_none : (nodes : Forest) (k : ℕ) (items : Items) (c : ℕ) → child nodes k ≡ None → all_for nodes k items ≡ true → first_child items ≡ Some c → ⊥
for_none nodes k no_items c e h f = absurd (cc)
for_none nodes k (segment_item s rest) c e h f =
    true≢false (sym (three_true (s.child == k) (is_segment (child nodes k)) (all_for nodes k rest) h).1 ∙ ap is_segment e)
for_none nodes k (group_item g items rest) c e h f =
    true≢false (sym (four_true (g.child == k) (is_group (child nodes k)) (are_placed (nodes_of_child nodes k) 0 items) (all_for nodes k rest) h).1 ∙ ap is_group e)
for_none nodes k (flat_item x items rest) c e h f = for_none nodes k items c e (both_true (all_for nodes k items) (all_for nodes k rest) h).0 f

reached : (nodes : Forest) (j k : ℕ) → ((i : ℕ) → child nodes (j + i) ≡ None) → j ≤ k → child nodes k ≡ None
reached nodes j k none h = let there : j + (k - j) ≡ k = omega (arith, h) in subst (λ i. child nodes i ≡ None) there (none (k - j))

none_left : (nodes : Forest) (j : ℕ) (items : Items) → ((i : ℕ) → child nodes (j + i) ≡ None) → are_placed nodes j items ≡ true → items ≡ no_items
none_left nodes j no_items none h = refl
none_left nodes j (segment_item s rest) none h =
    let t = three_true (nat_le j s.child) (is_segment (child nodes s.child)) (are_placed nodes s.child rest) h in
    absurd (true≢false (sym t.1 ∙ ap is_segment (reached nodes j s.child none (from_nat_le j s.child t.0))))
none_left nodes j (group_item g items rest) none h =
    let t = four_true (nat_le j g.child) (is_group (child nodes g.child)) (are_placed (nodes_of_child nodes g.child) 0 items) (are_placed nodes g.child rest) h in
    absurd (true≢false (sym t.1 ∙ ap is_group (reached nodes j g.child none (from_nat_le j g.child t.0))))
none_left nodes j (flat_item f items rest) none h = go (first_child items) refl h
  where
    go : (c : Option ℕ) → first_child items ≡ c → (follows c j && all_for nodes (unwrap_or c j) items && are_placed nodes (unwrap_or c j) rest) ≡ true → flat_item f items rest ≡ no_items
    go None e p = absurd (cc)
    go (Some k) e p =
        let t = three_true (nat_le j k) (all_for nodes k items) (are_placed nodes k rest) p in
        absurd (for_none nodes k items k (reached nodes j k none (from_nat_le j k t.0)) t.1 e)

-- ---- a level

at_first : (nodes : Forest) (j : ℕ) (e : Element) → child nodes (j + 0) ≡ Some e → child nodes j ≡ Some e
at_first nodes j e h = let same : j + 0 ≡ j = omega arith in subst (λ i. child nodes i ≡ Some e) same h

next : (nodes : Forest) (j i : ℕ) {c : Option Element} → child nodes (j + suc i) ≡ c → child nodes (suc j + i) ≡ c
next nodes j i {c} h = let same : j + suc i ≡ suc j + i = omega arith in subst (λ k. child nodes k ≡ c) same h

from_zero : (nodes : Forest) (i : ℕ) → child nodes (0 + i) ≡ child nodes i
from_zero nodes i = let same : 0 + i ≡ i = omega arith in ap (child nodes) same

module _ (from to : ProfileValue) (from_names names : List (List ℕ)) (m : List SegmentValue) (Image : Walked → List ℕ → List Rule → SegmentValue → Type 0) (meets : List FieldValue → SegmentValue → Type 0) (sound : FieldsSound from to from_names names m Image meets) where
  -- from node j on
  level_from : (f : Forest) (j : ℕ) (items : Items) → splits.EachGroup (LevelSound from to from_names names m Image meets) items → (es : List Element) (os : List Occurrence) (holder : ℕ) (nodes : Forest) (list : List SegmentValue) →
      Scoped from from_names m es os → LawfulNodes names nodes → LawfulNodes names f → ((i : ℕ) → child nodes (j + i) ≡ child f i) → LawfulItems nodes items → are_placed nodes j items ≡ true →
      level_failures es holder j f items ≡ [] → items_failures from to es nodes items ≡ [] → GiveBy Image m os nodes items list → Seq (λ x. x.name) meets f list
  level_from nothing j items inner es os holder nodes list h l lf rest_is li p lev f g =
      let none = none_left nodes j items rest_is p in subst (λ i. GiveBy Image m os nodes i list) none g
  level_from (segment s rest) j items inner es os holder nodes list h l lf rest_is li p lev f g =
      let whole = joined j items in
      let cut = give_join Image m os nodes (its j items) (beyond j items) list (subst (λ i. GiveBy Image m os nodes i list) (sym whole) g) in
      let laws = lawful_join nodes (its j items) (beyond j items) (subst (LawfulItems nodes) (sym whole) li) in
      let groups = groups_join _ (its j items) (beyond j items) (subst (splits.EachGroup (LevelSound from to from_names names m Image meets)) (sym whole) inner) in
      let fails = failures_join from to es nodes (its j items) (beyond j items) (subst (λ i. items_failures from to es nodes i ≡ []) (sym whole) f) in
      let given = items_given from to from_names names m Image meets sound (its j items) groups.0 es os j nodes cut.front h l laws.0 (placed_its nodes j items p) fails.0 cut.here in
      let here : child nodes j ≡ Some (a_segment s) = at_first nodes j (a_segment s) (rest_is 0) in
      record {
        front = cut.front;
        back = cut.back;
        joined = cut.joined;
        here = times_given _ s.card (items_count es (its j items)) cut.front (node_mark holder j (its j items)) (its j items) s.usage lf.segments.0.agrees (nil_left _ _ lev) (subst (λ c. Given (Part from to from_names names m Image meets c) (items_count es (its j items)) cut.front) here given);
        there = level_from rest (suc j) (beyond j items) groups.1 es os holder nodes cut.back h l (record { segments = lf.segments.1; groups = lf.groups }) (λ i. next nodes j i (rest_is (suc i))) laws.1 (placed_beyond nodes j items p) (nil_right _ _ lev) fails.1 cut.there;
      }
  level_from (group x below rest) j items inner es os holder nodes list h l lf rest_is li p lev f g =
      let whole = joined j items in
      let cut = give_join Image m os nodes (its j items) (beyond j items) list (subst (λ i. GiveBy Image m os nodes i list) (sym whole) g) in
      let laws = lawful_join nodes (its j items) (beyond j items) (subst (LawfulItems nodes) (sym whole) li) in
      let groups = groups_join _ (its j items) (beyond j items) (subst (splits.EachGroup (LevelSound from to from_names names m Image meets)) (sym whole) inner) in
      let fails = failures_join from to es nodes (its j items) (beyond j items) (subst (λ i. items_failures from to es nodes i ≡ []) (sym whole) f) in
      let given = items_given from to from_names names m Image meets sound (its j items) groups.0 es os j nodes cut.front h l laws.0 (placed_its nodes j items p) fails.0 cut.here in
      let here : child nodes j ≡ Some (a_group x below) = at_first nodes j (a_group x below) (rest_is 0) in
      record {
        front = cut.front;
        back = cut.back;
        joined = cut.joined;
        here = times_given _ x.card (items_count es (its j items)) cut.front (node_mark holder j (its j items)) (its j items) x.usage lf.groups.0.agrees (nil_left _ _ lev) (subst (λ c. Given (Part from to from_names names m Image meets c) (items_count es (its j items)) cut.front) here given);
        there = level_from rest (suc j) (beyond j items) groups.1 es os holder nodes cut.back h l (record { segments = lf.segments.1; groups = lf.groups.2 }) (λ i. next nodes j i (rest_is (suc i))) laws.1 (placed_beyond nodes j items p) (nil_right _ _ lev) fails.1 cut.there;
      }

  level_sound : (items : Items) → splits.EachGroup (LevelSound from to from_names names m Image meets) items → LevelSound from to from_names names m Image meets items
  level_sound items inner es os holder nodes list h l li p lev f g =
      level_from nodes 0 items inner es os holder nodes list h l l (λ i. from_zero nodes i) li p lev f g

  -- whatever the items
  groups_sound : (items : Items) → splits.EachGroup (LevelSound from to from_names names m Image meets) items
  groups_sound no_items = tt
  groups_sound (segment_item s rest) = groups_sound rest
  groups_sound (group_item x items rest) = (level_sound items (groups_sound items), groups_sound rest)
  groups_sound (flat_item x items rest) = (groups_sound items, groups_sound rest)

  pub items_sound : (items : Items) → LevelSound from to from_names names m Image meets items
  items_sound items = level_sound items (groups_sound items)

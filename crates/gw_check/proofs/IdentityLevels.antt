-- Each node comes as often as it may come.
use Rattle.std.proofs.Common.{◌≡◌, ℕ, zero, suc, ◌+◌, ◌*◌, ◌<◌, inl, inr, Bool, true, false, List, [], ◌∷◌, Option, Some, None, refl, ap, ap₂, ◌∙◌, subst, arith}
use Rattle.std.specs.Prelude.{if◌then◌else◌, ◌==◌}
use Rattle.std.proofs.lemmas.Bool.{eq-eqb, ne_eqb}
use Rattle.gw_profile.specs.declared.shape.Card.{Card}
use Rattle.gw_profile.specs.Among.{Distinct}
use Rattle.gw_profile.specs.Line as line
use Rattle.gw_profile.specs.Shapes.{GroupValue, Forest, ProfileValue, nothing, segment, group}
use Rattle.gw_profile.specs.WellFormed as formed
use Rattle.gw_profile.proofs.Facts.{tells}
use Rattle.gw_resolve.specs.Failures.{at_line}
use Rattle.gw_resolve.specs.Intervals.{never, once, of_card, add, multiply, sum, product}
use Rattle.gw_resolve.specs.Places.{Element, a_segment, a_group, nodes_of, card_of, fields_of, count_of, count_at}
use Rattle.gw_resolve.specs.Resolved.{Items, no_items, segment_item}
use Rattle.gw_check.specs.Fields.{often_failures, segment_failures}
use Rattle.gw_check.specs.Levels.{its, beyond, node_mark, level_failures, items_failures, sources, items_count}
use Rattle.gw_check.proofs.IdentityNamed.{at_node, same_rules, same_segment, same, no_more, Standing, Stands, from_the_first, behind_segment, behind_group, segment_stands, group_stands, nodes_there, found_there, within_there}
use Rattle.gw_check.proofs.IdentityFields.{given_holds, absent_holds, x_is, segment_holds}

-- ---- how often

most_is : (most : Option ℕ) → add (multiply most (Some 1)) (Some 0) ≡ most
most_is None = refl
most_is (Some zero) = refl
most_is (Some (suc n)) = let e : suc n * 1 + 0 ≡ suc n = omega arith in ap Some e

as_card : (card : Card) → sum (product (of_card card) once) never ≡ of_card card
as_card card = let e : card.min * 1 + 0 ≡ card.min = omega arith in λ i. record { least = e i; greatest = most_is card.max i }

-- ---- the items of a node, and those of later nodes

none_yet : (j k : ℕ) (nodes : Forest) → j < k → (its j (same k nodes) ≡ no_items) × (beyond j (same k nodes) ≡ same k nodes)
none_yet j k nothing less = (refl, refl)
none_yet j k (segment s rest) less =
    let other : (k == j) ≡ false = ne_eqb k j (λ e. omega (arith, less, e)) in
    let those : Bool → Items = λ b. if b then same (suc k) rest else segment_item (same_segment k s) (same (suc k) rest) in
    elim (line.is_forbidden (Some s.usage)) as (λ b. (its j (those b) ≡ no_items) × (beyond j (those b) ≡ those b)) [ true ↦ none_yet j (suc k) rest (omega (arith, less)) | false ↦ rw other (refl, refl) ]
none_yet j k (group g nodes rest) less =
    let other : (k == j) ≡ false = ne_eqb k j (λ e. omega (arith, less, e)) in
    rw other (refl, refl)

-- ---- a node

group_allowed : (names : GroupValue) (nodes : Forest) → formed.LawfulGroup names nodes → line.is_forbidden (Some names.usage) ≡ false
group_allowed g nodes l = elim (tells (line.is_forbidden (Some g.usage))) [ inl h ↦ absurd (l.allowed (x_is g.usage h)) | inr h ↦ h ]

-- how often what stands at this node is walked
count_there : (e : Element) (scope : List Element) (j : ℕ) (label : List ℕ) (x : Element) → Stands (nodes_of e) j label x → count_at (e ∷ scope) (at_node j) ≡ product (of_card (card_of x)) once
count_there e scope j label x h = ap count_of (found_there e scope j label x h)

-- ---- the nodes from number j on

pub levels_hold : (names : List (List ℕ)) (e : Element) (scope : List Element) (holder j : ℕ) (nodes : Forest) → Standing (nodes_of e) j nodes → Distinct (formed.labels nodes) → formed.EachSegment (formed.LawfulSegment names) nodes → formed.EachGroup formed.LawfulGroup nodes → level_failures (e ∷ scope) holder j nodes (same j nodes) ≡ []
levels_hold names e scope holder j nothing h d l g = refl
levels_hold names e scope holder j (segment s rest) h d l g =
    by (line.is_forbidden (Some s.usage)) refl (levels_hold names e scope holder (suc j) rest (behind_segment (nodes_of e) j s rest h d) d.1 l.1 g)
  where
    later : Items
    later = same (suc j) rest

    none : (its j later ≡ no_items) × (beyond j later ≡ later)
    none = none_yet j (suc j) rest (omega arith)

    count : items_count (e ∷ scope) (segment_item (same_segment j s) no_items) ≡ of_card s.card
    count = ap (λ c. sum c never) (count_there e scope j s.label (a_segment s) (segment_stands (nodes_of e) j s rest h)) ∙ as_card s.card

    by : (b : Bool) → line.is_forbidden (Some s.usage) ≡ b → level_failures (e ∷ scope) holder (suc j) rest later ≡ [] → level_failures (e ∷ scope) holder j (segment s rest) (if b then later else segment_item (same_segment j s) later) ≡ []
    by true is behind =
        let x = x_is s.usage is in
        rw none.0 (rw none.1 (no_more _ _ (absent_holds (node_mark holder j no_items) s.usage s.card x (subst (λ u. formed.Agrees u s.card) x l.0.agrees).0) behind))
    by false is behind =
        rw (eq-eqb j j refl) (rw none.0 (rw none.1 (no_more _ _ (ap (λ c. often_failures (at_line 0) c s.usage s.card false) count ∙ given_holds (at_line 0) s.usage s.card is) behind)))
levels_hold names e scope holder j (group x nodes rest) h d l g =
    let none = none_yet j (suc j) rest (omega arith) in
    let count = ap (λ c. sum c never) (count_there e scope j x.label (a_group x nodes) (group_stands (nodes_of e) j x nodes rest h)) ∙ as_card x.card in
    rw (eq-eqb j j refl) (rw none.0 (rw none.1
    (no_more _ _ (ap (λ c. often_failures (at_line 0) c x.usage x.card false) count ∙ given_holds (at_line 0) x.usage x.card (group_allowed x nodes g.0))
    (levels_hold names e scope holder (suc j) rest (behind_group (nodes_of e) j x nodes rest h d) d.1 l.1 g.2))))

-- ---- what the items give

pub items_hold : (profile : ProfileValue) (names : List (List ℕ)) (e : Element) (scope : List Element) (j : ℕ) (nodes : Forest) → Standing (nodes_of e) j nodes → Distinct (formed.labels nodes) → formed.EachSegment (formed.LawfulSegment names) nodes → formed.EachGroup formed.LawfulGroup nodes → items_failures profile profile (e ∷ scope) (nodes_of e) (same j nodes) ≡ []
items_hold profile names e scope j nothing h d l g = refl
items_hold profile names e scope j (segment s rest) h d l g =
    let here = segment_stands (nodes_of e) j s rest h in
    let fields =
    ap₂ (λ w c. segment_failures (sources profile w) profile 0 (same_rules s.fields) (fields_of c)) (within_there e scope j s.label (a_segment s) here) here.child_is
    ∙ segment_holds profile names s (e ∷ scope) l.0 in
    let behind = items_hold profile names e scope (suc j) rest (behind_segment (nodes_of e) j s rest h d) d.1 l.1 g in
    elim (line.is_forbidden (Some s.usage)) as (λ b. items_failures profile profile (e ∷ scope) (nodes_of e) (if b then same (suc j) rest else segment_item (same_segment j s) (same (suc j) rest)) ≡ [])
    [ true ↦ behind | false ↦ no_more _ _ fields behind ]
items_hold profile names e scope j (group x nodes rest) h d l g =
    let here = group_stands (nodes_of e) j x nodes rest h in
    let walks = within_there e scope j x.label (a_group x nodes) here in
    let below = nodes_there (nodes_of e) j (a_group x nodes) here.child_is in
    no_more _ _
    (no_more _ _
    (ap₂ (λ w f. level_failures w 0 0 f (same 0 nodes)) walks below ∙ levels_hold names (a_group x nodes) (e ∷ scope) 0 0 nodes (from_the_first nodes) g.0.distinct l.0 g.1)
    (ap₂ (λ w f. items_failures profile profile w f (same 0 nodes)) walks below ∙ items_hold profile names (a_group x nodes) (e ∷ scope) 0 nodes (from_the_first nodes) g.0.distinct l.0 g.1))
    (items_hold profile names e scope (suc j) rest (behind_group (nodes_of e) j x nodes rest h d) d.1 l.1 g.2)

-- No field is passed over by the map from a profile to itself.
use Rattle.std.proofs.Common.{◌≡◌, ℕ, suc, Bool, true, false, List, [], ◌∷◌, ◌++◌, Some, refl, sym, ap, ◌∙◌}
use Rattle.std.specs.Prelude.{if◌then◌else◌, ◌==◌, ◌&&◌, ◌||◌, not, bytes_eq, flat_map}
use Rattle.std.proofs.lemmas.Bool.{eq-eqb}
use Rattle.std.proofs.lemmas.List.{append-nil}
use Rattle.std.proofs.lemmas.List.Folds.{list_any-append}
use Rattle.std.proofs.lemmas.Slice.Eq.{bytes_eq-Decides}
use Rattle.gw_profile.specs.Line as line
use Rattle.gw_profile.specs.Shapes.{FieldValue, Forest, nothing, segment, group}
use Rattle.gw_profile.proofs.Facts.{and_of, or_left, or_right}
use Rattle.gw_resolve.specs.Resolved.{segment_item}
use Rattle.gw_check.specs.Sites.{Site, node_origin, node_sites, rules_sites, segment_sites, items_sites}
use Rattle.gw_check.specs.Reads.{SourceField, reads, is_read, drops_field, drops_element, may_hold, is_missed, missed_field, missed_nodes}
use Rattle.gw_resolve.specs.Positions.{Position}
use Rattle.gw_check.proofs.IdentityNamed.{at_node, same_rule, same_rules, same_segment, same, no_more}
use Rattle.gw_check.proofs.IdentityFields.{forbidden_is, not_and, x_is}

-- what is read here is read there
abbrev Read : List Site → List Site → Type 0
Read some made = (at : Position) (field : ℕ) → is_read some at field ≡ true → is_read made at field ≡ true

by_both : (some more made : List Site) → Read (some ++ more) made → Read some made × Read more made
by_both some more made h = (
  λ at field e. h at field (list_any-append (λ (s : Site). reads s.origin at field) some more ∙ or_left (is_read some at field) (is_read more at field) e),
  λ at field e. h at field (list_any-append (λ (s : Site). reads s.origin at field) some more ∙ or_right (is_read some at field) (is_read more at field) e),
)

-- nothing is dropped
abbrev known : List Site → Position → ℕ → Bool
known made at field = is_read made at field || drops_field [] at field

-- where a field isn't passed over, none is told of
none_told : (made : List Site) (at : Position) (f : FieldValue) → is_missed (known made) at f ≡ false → missed_field (known made) at f ≡ []
none_told made at f e = ap (λ b. if b then record { at = at; field = f.number } ∷ [] else []) e

-- of the fields of a segment that is walked, one that is X isn't passed over, nor one that is read
fields_hold : (made : List Site) (at to : Position) (scope : List Position) (fields : List FieldValue) → Read (rules_sites (at ∷ scope) to (same_rules fields)) made → flat_map (missed_field (known made) at) fields ≡ []
fields_hold made at to scope [] h = refl
fields_hold made at to scope (f ∷ fields) h = by (line.is_forbidden (Some f.usage)) refl h (fields_hold made at to scope fields)
  where
    here : is_read (rules_sites (at ∷ scope) to (same_rule f.number ∷ same_rules fields)) at f.number ≡ true
    here =
        or_left _ (is_read (rules_sites (at ∷ scope) to (same_rules fields)) at f.number)
        (and_of (f.number == f.number) (bytes_eq (at ++ []) at) (eq-eqb f.number f.number refl) ((bytes_eq-Decides (at ++ []) at).1 (append-nil at)))

    by : (b : Bool) → line.is_forbidden (Some f.usage) ≡ b → Read (rules_sites (at ∷ scope) to (if b then same_rules fields else same_rule f.number ∷ same_rules fields)) made →
        (Read (rules_sites (at ∷ scope) to (same_rules fields)) made → flat_map (missed_field (known made) at) fields ≡ []) → flat_map (missed_field (known made) at) (f ∷ fields) ≡ []
    by true is covers later = no_more _ _ (none_told made at f (ap (λ u. may_hold u && not (known made at f.number)) (x_is f.usage is))) (later covers)
    by false is covers later =
        no_more _ _ (none_told made at f (ap (λ b. may_hold f.usage && not (b || false)) (covers at f.number here) ∙ not_and (may_hold f.usage) false refl))
        (later (λ p n e. covers p n (or_right (f.number == n && bytes_eq (at ++ []) p) (is_read (rules_sites (at ∷ scope) to (same_rules fields)) p n) e)))

-- the nodes from number j on
pub reads_hold : (made : List Site) (scope : List Position) (above to : Position) (j : ℕ) (nodes : Forest) → Read (items_sites (above ∷ scope) to (same j nodes)) made → missed_nodes (known made) (drops_element []) above j nodes ≡ []
reads_hold made scope above to j nothing h = refl
reads_hold made scope above to j (segment s rest) h = by (line.is_forbidden (Some s.usage)) refl h (reads_hold made scope above to (suc j) rest)
  where
    passed : List SourceField
    passed = flat_map (missed_field (known made) (above ++ j ∷ [])) s.fields

    by : (b : Bool) → line.is_forbidden (Some s.usage) ≡ b → Read (items_sites (above ∷ scope) to (if b then same (suc j) rest else segment_item (same_segment j s) (same (suc j) rest))) made →
        (Read (items_sites (above ∷ scope) to (same (suc j) rest)) made → missed_nodes (known made) (drops_element []) above (suc j) rest ≡ []) → missed_nodes (known made) (drops_element []) above j (segment s rest) ≡ []
    by true is covers later =
        no_more _ _ (ap (λ b. if b then [] else passed) (sym (forbidden_is s.usage) ∙ is)) (later covers)
    by false is covers later =
        let parts = by_both (segment_sites (above ∷ scope) (to ++ j ∷ []) (same_segment j s)) (items_sites (above ∷ scope) to (same (suc j) rest)) made covers in
        let its = by_both (node_sites 0 (to ++ j ∷ []) (node_origin (above ∷ scope) (at_node j))) (rules_sites ((above ++ j ∷ []) ∷ above ∷ scope) (to ++ j ∷ []) (same_rules s.fields)) made parts.0 in
        no_more _ _
        (ap (λ b. if b then [] else passed) (sym (forbidden_is s.usage) ∙ is) ∙ fields_hold made (above ++ j ∷ []) (to ++ j ∷ []) (above ∷ scope) s.fields its.1)
        (later parts.1)
reads_hold made scope above to j (group g nodes rest) h =
    let parts = by_both (node_sites 0 (to ++ j ∷ []) (node_origin (above ∷ scope) (at_node j)) ++ items_sites ((above ++ j ∷ []) ∷ above ∷ scope) (to ++ j ∷ []) (same 0 nodes)) (items_sites (above ∷ scope) to (same (suc j) rest)) made h in
    let its = by_both (node_sites 0 (to ++ j ∷ []) (node_origin (above ∷ scope) (at_node j))) (items_sites ((above ++ j ∷ []) ∷ above ∷ scope) (to ++ j ∷ []) (same 0 nodes)) made parts.0 in
    no_more _ _ (reads_hold made (above ∷ scope) (above ++ j ∷ []) (to ++ j ∷ []) 0 nodes its.1) (reads_hold made scope above to (suc j) rest parts.1)

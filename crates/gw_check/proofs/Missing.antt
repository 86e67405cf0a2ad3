-- The fields that are passed over are those that are missed by what is accounted for.
use Rattle.std.proofs.Common.{◌≡◌, ℕ, suc, ◌+◌, ◌<◌, List, [], ◌∷◌, ◌++◌, length, drop, get_or, refl, sym, ap, ap₂, ◌∙◌, arith}
use Rattle.std.specs.Prelude.{◌||◌}
use Rattle.gw_resolve.proofs.Noting.{front, added_one}
use Rattle.gw_profile.specs.declared.node.Node.{Node, Seg, Group, Group'}
use Rattle.gw_profile.specs.declared.node.GroupNode.{GroupNode}
use Rattle.gw_profile.specs.Shapes.{Forest, nothing, segment, group}
use Rattle.gw_profile.specs.Seen.{forest, node_forest}
use Rattle.gw_profile.proofs.Rows.{group_forest}
use Rattle.gw_check.specs.declared.accounted.Accounted.{Accounted}
use Rattle.gw_check.specs.declared.accounted.FieldAt.{FieldAt}
use Rattle.gw_maplang.specs.Shapes.{TableValue}
use Rattle.gw_resolve.specs.Resolved.{Items, Drop}
use Rattle.gw_check.specs.Reads.{SourceField, reads, is_read, drops_field, missed_segment, missed_within, passed_over}
use Rattle.gw_check.specs.declared.site.Site as declared
use Rattle.gw_check.specs.declared.site.Origin as origins
use Rattle.gw_check.specs.Seen.{origin, all_sites}
use Rattle.gw_check.specs.Sites.{sites}
use Rattle.gw_resolve.specs.Positions.{Position}
use Rattle.gw_check.specs.Collected.{Accounts, Adds, fields_at, has_field, has_element, nodes_missed, within_missed, node_missed}

-- what is read, whatever the map's tables are
any_tables : (tables : List TableValue) (made : List declared.Site) (at : Position) (n : ℕ) → is_read (all_sites [] made) at n ≡ is_read (all_sites tables made) at n
any_tables tables [] at n = refl
any_tables tables (s ∷ more) at n = ap₂ (λ a b. a || b) (by s.origin) (any_tables tables more at n)
  where
    by : (o : origins.Origin) → reads (origin [] o) at n ≡ reads (origin tables o) at n
    by origins.TheVariants.Unsaid = refl
    by o = refl

-- none were found before
pub missed_fields : (tables : List TableValue) (items : Items) (made : List declared.Site) (drops : List Drop) (known : Accounted) (nodes : Forest) (none found : List FieldAt) → Accounts known (all_sites [] made) drops → all_sites tables made ≡ sites items → none ≡ [] →
    Adds none found (within_missed known [] nodes) → fields_at found ≡ passed_over items drops nodes
missed_fields tables items made drops known nodes none found all same e h =
    h ∙ ap (λ l. fields_at l ++ within_missed known [] nodes) e
    ∙ (λ x. missed_within (λ at field. (all.fields at field ∙ ap (λ b. b || drops_field drops at field) (any_tables tables made at field ∙ ap (λ l. is_read l at field) same)) x) (λ at. all.elements at x) [] nodes)

-- ---- one after the other

module _ (known : Accounted) where
  abbrev first_missed : Position → Forest → List SourceField
  first_missed at nothing = []
  first_missed at (segment s rest) = missed_segment (has_field known) (has_element known) at s
  first_missed at (group g nodes rest) = within_missed known at nodes

  by_forest : (at : Position) (n : Node) → node_missed known at n ≡ first_missed at (node_forest n nothing)
  by_forest at (Seg s) = refl
  by_forest at (Group' label usage card shape inner) = refl

  pub group_adds : (at : Position) (n : Node) (g : GroupNode) (inner : List Node) (old new : List FieldAt) → n ≡ Group g → inner ≡ g.nodes.items → Adds old new (within_missed known at (forest inner)) → Adds old new (node_missed known at n)
  group_adds at n g inner old new same items adds =
      adds ∙ ap (λ l. fields_at old ++ within_missed known at (forest l)) items
      ∙ ap (λ l. fields_at old ++ l) (sym (by_forest at n ∙ ap (λ m. first_missed at (node_forest m nothing)) same ∙ ap (first_missed at) (group_forest g nothing)))

  one_missed : (above : Position) (j : ℕ) (n : Node) (rest : Forest) → nodes_missed known above j (node_forest n rest) ≡ node_missed known (above ++ j ∷ []) n ++ nodes_missed known above (suc j) rest
  one_missed above j (Seg s) rest = refl
  one_missed above j (Group' label usage card shape inner) rest = refl

  pub node_adds : (above at : Position) (nodes : List Node) (j : ℕ) (n : Node) (first old new : List FieldAt) → j < length nodes → n ≡ get_or nodes j n → at ≡ above ++ j ∷ [] → Adds old new (node_missed known at n) →
      fields_at first ++ nodes_missed known above 0 (forest nodes) ≡ fields_at old ++ nodes_missed known above j (forest (drop j nodes)) →
      fields_at first ++ nodes_missed known above 0 (forest nodes) ≡ fields_at new ++ nodes_missed known above (j + 1) (forest (drop (j + 1) nodes))
  node_adds above at nodes j n first old new low is where_is adds h =
      let next : suc j ≡ j + 1 = omega arith in
      h
      ∙ added_one (fields_at old) (fields_at new) (node_missed known at n) (nodes_missed known above (j + 1) (forest (drop (j + 1) nodes))) (nodes_missed known above j (forest (drop j nodes)))
      (ap (λ l. nodes_missed known above j (forest l)) (front nodes j n low is) ∙ one_missed above j n (forest (drop (j + 1) nodes))
      ∙ ap (λ p. node_missed known p n ++ nodes_missed known above (suc j) (forest (drop (j + 1) nodes))) (sym where_is)
      ∙ ap (λ k. node_missed known at n ++ nodes_missed known above k (forest (drop (j + 1) nodes))) next) adds

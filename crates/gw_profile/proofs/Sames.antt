-- Parts that are the same, part by part.
use Rattle.std.proofs.Common.{◌≡◌, ◌↔◌, ℕ, suc, ◌+◌, ◌<◌, add-one, Bool, false, IsTrue, List, [], ◌∷◌, map, length, drop, drop-cons, get_or, slice_get, Some, refl, sym, ap, ◌∙◌, subst, arith}
use Rattle.std.specs.List.{AllZip}
use Rattle.std.specs.Global.{Vec}
use Rattle.std.proofs.lemmas.Option.{slice_get-get_or}
use Rattle.gw_er7.proofs.Sames.{zip_maps}
use Rattle.gw_profile.specs.declared.shape.SubShape.{SubShape}
use Rattle.gw_profile.specs.declared.shape.CompShape.{CompShape}
use Rattle.gw_profile.specs.declared.shape.FieldShape.{FieldShape}
use Rattle.gw_profile.specs.declared.node.SegNode.{SegNode}
use Rattle.gw_profile.specs.declared.node.GroupNode.{GroupNode}
use Rattle.gw_profile.specs.declared.node.Node.{Node, Seg, Group, Group'}
use Rattle.gw_profile.specs.Shapes.{Forest, nothing, segment, group, SegmentValue, GroupValue, TableValue}
use Rattle.gw_profile.specs.Seen.{sub, comp, field, segment_value, node_forest, row_forest, forest}
use Rattle.gw_profile.specs.own.Same.{SameNode, group_of}
use Rattle.gw_profile.proofs.Rows.{group_forest}

moved : {A : Type 0} (R : A → A → Type 0) (r : Bool) (xs ys zs ws : List A) → xs ≡ zs → ys ≡ ws → IsTrue r ↔ AllZip R xs ys → IsTrue r ↔ AllZip R zs ws
moved R r xs ys zs ws p q h = subst (λ l. IsTrue r ↔ AllZip R l ws) p (subst (λ l. IsTrue r ↔ AllZip R xs l) q h)

pub comp_same : (x y : CompShape) (r : Bool) (xs ys : List SubShape) → xs ≡ x.subs.items → ys ≡ y.subs.items → x.number ≡ y.number → x.usage ≡ y.usage → IsTrue r ↔ AllZip (λ a b. sub a ≡ sub b) xs ys → IsTrue r ↔ (comp x ≡ comp y)
comp_same x y r xs ys p q n u h =
    let g = moved (λ a b. sub a ≡ sub b) r xs ys x.subs.items y.subs.items p q h in
    let z = zip_maps sub x.subs.items y.subs.items in
    (λ t. let s = z.0 (g.0 t) in λ i. record { number = n i; usage = u i; subs = s i }, λ e. g.1 (z.1 (ap (λ v. v.subs) e)))

pub field_same : (x y : FieldShape) (r : Bool) (xs ys : List CompShape) → xs ≡ x.comps.items → ys ≡ y.comps.items → x.number ≡ y.number → x.usage ≡ y.usage → x.card ≡ y.card → IsTrue r ↔ AllZip (λ a b. comp a ≡ comp b) xs ys → IsTrue r ↔ (field x ≡ field y)
field_same x y r xs ys p q n u k h =
    let g = moved (λ a b. comp a ≡ comp b) r xs ys x.comps.items y.comps.items p q h in
    let z = zip_maps comp x.comps.items y.comps.items in
    (λ t. let s = z.0 (g.0 t) in λ i. record { number = n i; usage = u i; card = k i; comps = s i }, λ e. g.1 (z.1 (ap (λ v. v.comps) e)))

pub segment_same : (x y : SegNode) (r : Bool) (xs ys : List FieldShape) → xs ≡ x.fields.items → ys ≡ y.fields.items → x.name ≡ y.name → x.label.items ≡ y.label.items → x.usage ≡ y.usage → x.card ≡ y.card → IsTrue r ↔ AllZip (λ a b. field a ≡ field b) xs ys → IsTrue r ↔ (segment_value x ≡ segment_value y)
segment_same x y r xs ys p q n l u k h =
    let g = moved (λ a b. field a ≡ field b) r xs ys x.fields.items y.fields.items p q h in
    let z = zip_maps field x.fields.items y.fields.items in
    (λ t. let s = z.0 (g.0 t) in λ i. record { name = n i; label = l i; usage = u i; card = k i; fields = s i }, λ e. g.1 (z.1 (ap (λ v. v.fields) e)))

-- ---- nodes

pub segments_same : (x y : SegNode) (node : Node) (r : Bool) → node ≡ Seg y → IsTrue r ↔ (segment_value x ≡ segment_value y) → IsTrue r ↔ SameNode (Seg x) node
segments_same x y node r is h = subst (λ (n : Node). IsTrue r ↔ SameNode (Seg x) n) (sym is)
    (λ t. λ rest. ap (λ (s : SegmentValue). segment s rest) (h.0 t), λ e. h.1 (let k = e nothing in cc))

pub segment_not_group : (x : SegNode) (g : GroupNode) (node : Node) → node ≡ Group g → IsTrue false ↔ SameNode (Seg x) node
segment_not_group x g node is = subst (λ (n : Node). IsTrue false ↔ SameNode (Seg x) n) (sym is)
    (λ t. absurd (cc), λ e. let k : segment (segment_value x) nothing ≡ group (group_of g) (forest g.nodes.items) nothing = e nothing ∙ group_forest g nothing in absurd (cc))

pub group_not_segment : (g : GroupNode) (x : SegNode) (node : Node) → node ≡ Seg x → IsTrue false ↔ SameNode (Group g) node
group_not_segment g x node is = subst (λ (n : Node). IsTrue false ↔ SameNode (Group g) n) (sym is)
    (λ t. absurd (cc), λ e. let k : group (group_of g) (forest g.nodes.items) nothing ≡ segment (segment_value x) nothing = sym (group_forest g nothing) ∙ e nothing in absurd (cc))

-- what two equal groups share
heads : (g h : GroupNode) → SameNode (Group g) (Group h) → (group_of g ≡ group_of h) × (forest g.nodes.items ≡ forest h.nodes.items)
heads g h e =
    let k : group (group_of g) (forest g.nodes.items) nothing ≡ group (group_of h) (forest h.nodes.items) nothing = sym (group_forest g nothing) ∙ e nothing ∙ group_forest h nothing in
    let a : group_of g ≡ group_of h = cc in
    let b : forest g.nodes.items ≡ forest h.nodes.items = cc in
    (a, b)

pub groups_other : (g h : GroupNode) (node : Node) (r : Bool) → node ≡ Group h → r ≡ false → IsTrue r ↔ (group_of g ≡ group_of h) → IsTrue false ↔ SameNode (Group g) node
groups_other g h node r is off f = subst (λ (n : Node). IsTrue false ↔ SameNode (Group g) n) (sym is)
    (λ t. absurd (cc), λ e. sym off ∙ f.1 (heads g h e).0)

pub groups_same : (g h : GroupNode) (node : Node) (r : Bool) (xs ys : List Node) → node ≡ Group h → xs ≡ g.nodes.items → ys ≡ h.nodes.items → group_of g ≡ group_of h → IsTrue r ↔ (forest xs ≡ forest ys) → IsTrue r ↔ SameNode (Group g) node
groups_same g h node r xs ys is p q head f = subst (λ (n : Node). IsTrue r ↔ SameNode (Group g) n) (sym is) (
  λ t. λ rest. let inner : forest g.nodes.items ≡ forest h.nodes.items = ap forest (sym p) ∙ f.0 t ∙ ap forest q in
      group_forest g rest ∙ (λ i. group (head i) (inner i) rest) ∙ sym (group_forest h rest),
  λ e. f.1 (ap forest p ∙ (heads g h e).1 ∙ ap forest (sym q)),
)

-- ---- lists of nodes

seg_split : (x y : Node) (xs ys : Forest) → node_forest x xs ≡ node_forest y ys → SameNode x y × (xs ≡ ys)
seg_split (Seg s) (Seg t) xs ys e = let k : segment_value s ≡ segment_value t = cc in let r : xs ≡ ys = cc in (λ rest. ap (λ (v : SegmentValue). segment v rest) k, r)
seg_split (Seg s) (Group' label usage card shape row) xs ys e = absurd (cc)
seg_split (Group' label usage card shape row) (Seg t) xs ys e = absurd (cc)
seg_split (Group' label usage card shape row) (Group' label2 usage2 card2 shape2 row2) xs ys e =
    let k : ◌≡◌ {A = GroupValue} (record { label = label.items; usage = usage; card = card }) (record { label = label2.items; usage = usage2; card = card2 }) = cc in
    let n : row_forest row ≡ row_forest row2 = cc in
    let r : xs ≡ ys = cc in
    (λ rest. λ i. group (k i) (n i) rest, r)

pub node_step : (x y : Node) (xs ys : List Node) → (forest (x ∷ xs) ≡ forest (y ∷ ys)) ↔ (SameNode x y × (forest xs ≡ forest ys))
node_step x y xs ys = (λ e. seg_split x y (forest xs) (forest ys) e, λ h. h.0 (forest xs) ∙ ap (node_forest y) h.1)

some_node : (x : Node) (rest : Forest) → node_forest x rest ≡ nothing → ⊥
some_node (Seg s) rest e = cc
some_node (Group' label usage card shape row) rest e = cc

pub long_same : (xs ys : List Node) → forest xs ≡ forest ys → length xs ≡ length ys
long_same [] [] e = refl
long_same [] (y ∷ ys) e = absurd (some_node y (forest ys) (sym e))
long_same (x ∷ xs) [] e = absurd (some_node x (forest xs) e)
long_same (x ∷ xs) (y ∷ ys) e = ap suc (long_same xs ys ((node_step x y xs ys).0 e).1)

front : (xs : List Node) (i : ℕ) (x : Node) → i < length xs → x ≡ get_or xs i x → drop i xs ≡ x ∷ drop (suc i) xs
front xs i x m e = drop-cons xs i x m ∙ ap (λ (z : Node). z ∷ drop (suc i) xs) (sym e)

pub one_differs : (xs ys : List Node) (i : ℕ) (x y : Node) (r : Bool) → i < length xs → length xs ≡ length ys → x ≡ get_or xs i x → y ≡ get_or ys i y → r ≡ false → IsTrue r ↔ SameNode x y → (forest xs ≡ forest ys) ↔ (forest (drop i xs) ≡ forest (drop i ys)) → IsTrue false ↔ (forest xs ≡ forest ys)
one_differs xs ys i x y r m l p q off f rest =
    let n : i < length ys = omega arith in (
      λ t. absurd (cc),
      λ e.
          let h : forest (x ∷ drop (suc i) xs) ≡ forest (y ∷ drop (suc i) ys) = ap forest (sym (front xs i x m p)) ∙ rest.0 e ∙ ap forest (front ys i y n q) in
          sym off ∙ f.1 ((node_step x y _ _).0 h).0,
    )

pub one_more : (xs ys : List Node) (i : ℕ) (x y : Node) → i < length xs → length xs ≡ length ys → x ≡ get_or xs i x → y ≡ get_or ys i y → SameNode x y → (forest xs ≡ forest ys) ↔ (forest (drop i xs) ≡ forest (drop i ys)) → (forest xs ≡ forest ys) ↔ (forest (drop (i + 1) xs) ≡ forest (drop (i + 1) ys))
one_more xs ys i x y m l p q same rest =
    let n : i < length ys = omega arith in
    let a : forest (drop i xs) ≡ forest (x ∷ drop (suc i) xs) = ap forest (front xs i x m p) in
    let b : forest (drop i ys) ≡ forest (y ∷ drop (suc i) ys) = ap forest (front ys i y n q) in
    let s = node_step x y (drop (suc i) xs) (drop (suc i) ys) in
    let u = ap (λ (k : ℕ). forest (drop k xs)) (add-one i) in
    let v = ap (λ (k : ℕ). forest (drop k ys)) (add-one i) in
    (λ e. u ∙ (s.0 (sym a ∙ rest.0 e ∙ b)).1 ∙ sym v, λ e. rest.1 (a ∙ s.1 (same, sym u ∙ e ∙ v) ∙ sym b))

-- ---- tables

pub tables_same : (name other : List ℕ) (r : Bool) (xs ys : List (Vec ℕ)) → name ≡ other → IsTrue r ↔ AllZip (λ a b. a.items ≡ b.items) xs ys → IsTrue r ↔ (◌≡◌ {A = TableValue} (record { name = name; values = map (λ v. v.items) xs }) (record { name = other; values = map (λ v. v.items) ys }))
tables_same name other r xs ys n h =
    let z = zip_maps (λ (v : Vec ℕ). v.items) xs ys in
    (λ t. let s = z.0 (h.0 t) in λ i. record { name = n i; values = s i }, λ e. h.1 (z.1 (ap (λ v. v.values) e)))

no_table : TableValue
no_table = record { name = []; values = [] }

pub table_more : (xs ys : List TableValue) (i : ℕ) → i < length xs → i < length ys → slice_get xs i ≡ slice_get ys i → (xs ≡ ys) ↔ (drop i xs ≡ drop i ys) → (xs ≡ ys) ↔ (drop (i + 1) xs ≡ drop (i + 1) ys)
table_more xs ys i m n same rest =
    let s : Some (get_or xs i no_table) ≡ Some (get_or ys i no_table) = sym (slice_get-get_or xs i no_table m) ∙ same ∙ slice_get-get_or ys i no_table n in
    let t : get_or xs i no_table ≡ get_or ys i no_table = cc in
    let a = drop-cons xs i no_table m in
    let b = drop-cons ys i no_table n in
    let u = ap (λ (k : ℕ). drop k xs) (add-one i) in
    let v = ap (λ (k : ℕ). drop k ys) (add-one i) in
    (λ e. ap (λ (l : List TableValue). drop (i + 1) l) e, λ e. rest.1 (a ∙ (λ j. t j ∷ (sym u ∙ e ∙ v) j) ∙ sym b))

long_map : {A B : Type 0} (f : A → B) (xs : List A) → length (map f xs) ≡ length xs
long_map f [] = refl
long_map f (x ∷ xs) = ap suc (long_map f xs)

pub entry_more : {A : Type 0} (f : A → TableValue) (es fs : List A) (i : ℕ) → i < length es → length es ≡ length fs → slice_get (map f es) i ≡ slice_get (map f fs) i → (map f es ≡ map f fs) ↔ (drop i (map f es) ≡ drop i (map f fs)) → (map f es ≡ map f fs) ↔ (drop (i + 1) (map f es) ≡ drop (i + 1) (map f fs))
entry_more f es fs i m l same rest =
    let a = long_map f es in
    let b = long_map f fs in
    let p : i < length (map f es) = omega arith in
    let q : i < length (map f fs) = omega arith in
    table_more (map f es) (map f fs) i p q same rest

-- The walk's frames stand for what is left of the forest.
use Rattle.std.proofs.Common.{◌≡◌, ℕ, zero, suc, ◌+◌, ◌-◌, ◌<◌, ◌≤◌, inl, inr, Bool, true, false, List, [], ◌∷◌, ◌++◌, Option, Some, None, refl, sym, ap, ◌∙◌, subst, arith, length, map, drop, get_or, drop-cons, append_assoc}
use Rattle.std.proofs.lemmas.Grind.{common_steps}
use Rattle.gw_validate.proofs.Names.{name_tells, equal_names}
use mathlib.Core.Former.{Count}
use Rattle.gw_profile.specs.declared.shape.Card.{Card}
use Rattle.gw_profile.specs.declared.node.SegNode as declared_segment
use Rattle.gw_profile.specs.declared.node.GroupNode as declared_group
use Rattle.gw_profile.specs.declared.node.Node.{Node, Seg, Group, Group', Row_of-Node, end_of-Node, more_of-Node, items-the_row-Node, items_hidden-the_row-Node-0}
use Rattle.gw_validate.specs.declared.walk.Frame.{Frame}
use Rattle.gw_profile.specs.Shapes.{Forest, nothing, segment, group, GroupValue}
use Rattle.gw_validate.specs.own.Residual.{less, append, has_room, when, pass, or_else, after_name, seg, grp}
use Rattle.gw_profile.specs.Seen.{node_forest, row_forest, forest, segment_value}
use Rattle.gw_profile.specs.Nodes.{card_of}
use Rattle.std.specs.Prelude.{◌&&◌, if◌then◌else◌}
use Rattle.gw_validate.specs.own.Tests.{can_begin, node_begins}
use Rattle.gw_profile.specs.LookAhead.{first_names}
use Rattle.gw_validate.specs.own.Firsts.{first_of}
use Rattle.gw_validate.specs.own.Shortest.{shortest, shortest_node}
use Rattle.gw_validate.specs.own.State.{due_forest, frame_forest, stack_on, left_out, NodeTried, TriesNode, Tries}
use Rattle.gw_validate.specs.declared.walk.Step.{Step}
use Rattle.gw_validate.specs.declared.walk.Step.TheVariants.{Taken, Passed, Stuck}
use Rattle.gw_profile.specs.Deterministic.{Name, Optional}
use denote.Ref.{Bor}
use Rattle.gw_profile.specs.Shapes.{FieldValue}
use Rattle.gw_profile.specs.declared.shape.FieldShape.{FieldShape}
use Rattle.gw_profile.specs.Seen.{field}
use Rattle.gw_validate.specs.own.Taking.{Takes, shape_of}
use Rattle.gw_validate.proofs.Taking.{takes_segment, takes_group, takes_past_segment, takes_past_group}

row_items : (n : _) (row : Row_of-Node n) → row_forest row ≡ forest (items-the_row-Node n row)
row_items n end_of-Node = refl
row_items n (more_of-Node node rest) = ap (node_forest node) (row_items _ rest)

abbrev row_of : Node → (n : Count) × Row_of-Node n
row_of (Group' label usage card shape row) = (_, row)
row_of (Seg s) = (_, end_of-Node)

abbrev pub value_of : declared_group.GroupNode → GroupValue
value_of g = record { label = g.label.items; usage = g.usage; card = g.card }

pub due_group : (g : declared_group.GroupNode) (due : Card) (rest : Forest) → due_forest (Group g) due rest ≡ grp (value_of g) due.min due.max (forest g.nodes.items) rest
due_group g due rest =
    let row = row_of (Group g) in
    ap (λ f. grp (value_of g) due.min due.max f rest) (row_items row.0 row.1 ∙ ap forest (items_hidden-the_row-Node-0 g.nodes))

pub shortest_node_group : (g : declared_group.GroupNode) → shortest_node (Group g) ≡ shortest (forest g.nodes.items)
shortest_node_group g =
    let row = row_of (Group g) in ap shortest (row_items row.0 row.1 ∙ ap forest (items_hidden-the_row-Node-0 g.nodes))

pub first_of_group : (g : declared_group.GroupNode) (most : Option ℕ) → has_room most ≡ true → first_names (forest g.nodes.items) ≡ first_of (Group g) most
first_of_group g most room =
    let row = row_of (Group g) in
    sym (ap first_names (row_items row.0 row.1 ∙ ap forest (items_hidden-the_row-Node-0 g.nodes))) ∙ ap (λ b. if b then first_names (row_forest row.1) else []) (sym room)

pub stack_on-push : (old : List Frame) (f : Frame) (behind : Forest) → stack_on (old ++ f ∷ []) behind ≡ append (frame_forest f) (stack_on old behind)
stack_on-push [] f behind = refl
stack_on-push (g ∷ old) f behind = stack_on-push old f (append (frame_forest g) behind)

pub taken_segment : (s : declared_segment.SegNode) (due due' : Card) (rest : Forest) (x : Name) → has_room due.max ≡ true → s.name ≡ x → due'.min ≡ due.min - 1 → due'.max ≡ less due.max → after_name (due_forest (Seg s) due rest) x ≡ Some (due_forest (Seg s) due' rest)
taken_segment s due due' rest x room here min max = rw (room, equal_names x s.name (sym here), min, max) refl

never : (b : Bool) (o : Option Forest) → or_else (when b None) o ≡ o
never true o = refl
never false o = refl

pub passed_segment : (s : declared_segment.SegNode) (due : Card) (rest : Forest) (x : Name) → (s.name ≡ x → ⊥) → after_name (due_forest (Seg s) due rest) x ≡ pass due.min (after_name rest x)
passed_segment s due rest x other =
    elim (name_tells x s.name) [ inl e ↦ absurd (other (sym e.1)) | inr e ↦ rw e.0 (never (has_room due.max) _) ]

pub taken_group : (g : declared_group.GroupNode) (due due' : Card) (rest inner : Forest) (x : Name) → has_room due.max ≡ true → after_name (forest g.nodes.items) x ≡ Some inner → due'.min ≡ due.min - 1 → due'.max ≡ less due.max → after_name (due_forest (Group g) due rest) x ≡ Some (append inner (due_forest (Group g) due' rest))
taken_group g due due' rest inner x room here min max =
    ap (λ f. after_name f x) (due_group g due rest) ∙ middle ∙ ap (λ f. Some (append inner f)) (sym (due_group g due' rest))
  where
    middle : after_name (grp (value_of g) due.min due.max (forest g.nodes.items) rest) x ≡ Some (append inner (grp (value_of g) due'.min due'.max (forest g.nodes.items) rest))
    middle = rw (room, here, min, max) refl

pub passed_group : (g : declared_group.GroupNode) (due : Card) (rest : Forest) (x : Name) → after_name (forest g.nodes.items) x ≡ None → after_name (due_forest (Group g) due rest) x ≡ pass due.min (after_name rest x)
passed_group g due rest x other =
    ap (λ f. after_name f x) (due_group g due rest) ∙ middle
  where
    middle : after_name (grp (value_of g) due.min due.max (forest g.nodes.items) rest) x ≡ pass due.min (after_name rest x)
    middle = rw other (never (has_room due.max) _)

pub tried_left_out : (m : ℕ) (all others : Forest) (x : Name) (old new : List Frame) → after_name all x ≡ pass m (after_name others x) → new ≡ old → NodeTried m all others x old new (left_out m)
tried_left_out zero all others x old new e s = (refl, e, s)
tried_left_out (suc m) all others x old new e s = (λ z. omega arith, e, s)

-- a segment behind a node that may be left out
pub takes_past : (node : Node) (due : Card) (rest g : Forest) (x : Name) (shape : List FieldValue) → due.min ≡ 0 → Takes rest x shape g → Takes (due_forest node due rest) x shape g
takes_past (Seg s) due rest g x shape none takes = takes_past_segment (segment_value s) due.min due.max rest g x shape none takes
takes_past (Group' lb u c shape row) due rest g x sh none takes =
    takes_past_group (record { label = lb.items; usage = u; card = c }) due.min due.max (row_forest row) rest g x sh none takes

pub append_assoc_forest : (f g h : Forest) → append (append f g) h ≡ append f (append g h)
append_assoc_forest nothing g h = refl
append_assoc_forest (segment sv rest) g h = ap (λ r. seg sv sv.card.min sv.card.max r) (append_assoc_forest rest g h)
append_assoc_forest (group gv ch rest) g h = ap (λ r. grp gv gv.card.min gv.card.max ch r) (append_assoc_forest rest g h)

due_optional : (n : Node) (due : Card) (rest : Forest) → due.min ≡ 0 → Optional rest → Optional (due_forest n due rest)
due_optional (Seg s) due rest none o = (none, o)
due_optional (Group' lb u c shape row) due rest none o = (none, o)

rest_optional : (n : Node) (due : Card) (rest : Forest) → Optional (due_forest n due rest) → Optional rest
rest_optional (Seg s) due rest o = o.1
rest_optional (Group' lb u c shape row) due rest o = o.1

min_optional : (n : Node) (due : Card) (rest : Forest) → Optional (due_forest n due rest) → due.min ≡ 0
min_optional (Seg s) due rest o = o.0
min_optional (Group' lb u c shape row) due rest o = o.0

module _ (f : Frame) (due' : Card) (x : Name) (old mid new : List Frame) where
  abbrev Left : Frame
  Left = record { node = f.node; due = due'; rest = f.rest }

  pub tried_segment : (s : declared_segment.SegNode) (fields : Bor (List FieldShape)) → f.node.now ≡ Seg s → fields.now ≡ s.fields.items → has_room f.due.max ≡ true → s.name ≡ x → due'.min ≡ f.due.min - 1 → due'.max ≡ less f.due.max → new ≡ old ++ Left ∷ [] → TriesNode f x old new (Taken fields)
  tried_segment s fields is fields_are room here min max pushed = (
    frame_forest Left,
    ap (λ n. after_name (due_forest n f.due (forest f.rest.now)) x) is
        ∙ taken_segment s f.due due' (forest f.rest.now) x room here min max
        ∙ ap (λ n. Some (due_forest n due' (forest f.rest.now))) (sym is),
    (λ behind. ap (λ l. stack_on l behind) pushed ∙ stack_on-push old Left behind),
    subst (λ n. Takes (due_forest n f.due (forest f.rest.now)) x (shape_of fields) (due_forest n due' (forest f.rest.now))) (sym is)
        (subst (λ (l : List FieldShape). Takes (due_forest (Seg s) f.due (forest f.rest.now)) x (map field l) (due_forest (Seg s) due' (forest f.rest.now))) (sym fields_are)
        (takes_segment (segment_value s) f.due.min due'.min f.due.max due'.max (forest f.rest.now) x room here min max)),
  )

  pub tried_group : (g : declared_group.GroupNode) (children : List Node) (fields : Bor (List FieldShape)) → f.node.now ≡ Group g → children ≡ g.nodes.items → has_room f.due.max ≡ true → due'.min ≡ f.due.min - 1 → due'.max ≡ less f.due.max → mid ≡ old ++ Left ∷ [] → Tries (forest children) x mid new (Taken fields) → TriesNode f x old new (Taken fields)
  tried_group g children fields is items room min max pushed tried = (
    append tried.0 (frame_forest Left),
    ap (λ n. after_name (due_forest n f.due (forest f.rest.now)) x) is
        ∙ taken_group g f.due due' (forest f.rest.now) tried.0 x room (ap (λ l. after_name (forest l) x) (sym items) ∙ tried.1) min max
        ∙ ap (λ n. Some (append tried.0 (due_forest n due' (forest f.rest.now)))) (sym is),
    (λ behind. tried.2 behind
        ∙ ap (λ l. append tried.0 (stack_on l behind)) pushed
        ∙ ap (append tried.0) (stack_on-push old Left behind)
        ∙ sym (append_assoc_forest tried.0 (frame_forest Left) (stack_on old behind))),
    subst (λ n. Takes (due_forest n f.due (forest f.rest.now)) x (shape_of fields) (append tried.0 (due_forest n due' (forest f.rest.now)))) (sym is) whole,
  )
    where
      inner : Takes (forest g.nodes.items) x (shape_of fields) tried.0
      inner = subst (λ l. Takes (forest l) x (shape_of fields) tried.0) items tried.3

      of_groups : Takes (grp (value_of g) f.due.min f.due.max (forest g.nodes.items) (forest f.rest.now)) x (shape_of fields) (append tried.0 (grp (value_of g) due'.min due'.max (forest g.nodes.items) (forest f.rest.now)))
      of_groups = takes_group (value_of g) f.due.min due'.min f.due.max due'.max (forest g.nodes.items) (forest f.rest.now) tried.0 x (shape_of fields) room min max inner

      whole : Takes (due_forest (Group g) f.due (forest f.rest.now)) x (shape_of fields) (append tried.0 (due_forest (Group g) due' (forest f.rest.now)))
      whole =
          subst (λ k. Takes k x (shape_of fields) (append tried.0 (due_forest (Group g) due' (forest f.rest.now)))) (sym (due_group g f.due (forest f.rest.now)))
          (subst (λ k. Takes (grp (value_of g) f.due.min f.due.max (forest g.nodes.items) (forest f.rest.now)) x (shape_of fields) (append tried.0 k)) (sym (due_group g due' (forest f.rest.now))) of_groups)

  -- a group whose children do not take the name
  pub untried_group : (g : declared_group.GroupNode) (children : List Node) → f.node.now ≡ Group g → children ≡ g.nodes.items → (s : Step) → ((fields : Bor (List FieldShape)) → s ≡ Taken fields → ⊥) → Tries (forest children) x mid new s → (after_name (frame_forest f) x ≡ pass f.due.min (after_name (forest f.rest.now) x)) × (new ≡ mid)
  untried_group g children is items (Taken fields) other tried = absurd (other fields refl)
  untried_group g children is items Passed other tried = (untaken tried.0, tried.2)
    where
      untaken : after_name (forest children) x ≡ None → after_name (frame_forest f) x ≡ pass f.due.min (after_name (forest f.rest.now) x)
      untaken e =
          ap (λ n. after_name (due_forest n f.due (forest f.rest.now)) x) is
          ∙ passed_group g f.due (forest f.rest.now) x (ap (λ l. after_name (forest l) x) (sym items) ∙ e)
  untried_group g children is items Stuck other tried = (
    ap (λ n. after_name (due_forest n f.due (forest f.rest.now)) x) is
        ∙ passed_group g f.due (forest f.rest.now) x (ap (λ l. after_name (forest l) x) (sym items) ∙ tried.0),
    tried.2,
  )

  -- a node that may be left out, and the name tried on the nodes behind it
  pub tried_behind : (s : Step) → TriesNode f x old mid Passed → Tries (forest f.rest.now) x mid new s → Tries (frame_forest f) x old new s
  tried_behind (Taken fields) node tried = (
    tried.0,
    node.1 ∙ tried.1,
    (λ behind. tried.2 behind ∙ ap (λ l. append tried.0 (stack_on l behind)) node.2),
    takes_past f.node.now f.due (forest f.rest.now) tried.0 x (shape_of fields) node.0 tried.3,
  )
  tried_behind Passed node tried = (node.1 ∙ tried.0, due_optional f.node.now f.due (forest f.rest.now) node.0 tried.1, tried.2 ∙ node.2)
  tried_behind Stuck node tried = (node.1 ∙ tried.0, (λ o. tried.1 (rest_optional f.node.now f.due (forest f.rest.now) o)), tried.2 ∙ node.2)

pub node_due : (node : Node) (rest : Forest) → node_forest node rest ≡ due_forest node (card_of node) rest
node_due (Seg s) rest = refl
node_due (Group' lb u c shape row) rest = refl

-- what comes of the nodes from one on comes of all
pub record Reaches (all here : List Node) (x : Name) : Type 0 where
  pub same : after_name (forest all) x ≡ after_name (forest here) x
  pub open_still : Optional (forest here) → Optional (forest all)
  pub closed_still : Optional (forest all) → Optional (forest here)
  pub led : (shape : List FieldValue) (g : Forest) → Takes (forest here) x shape g → Takes (forest all) x shape g

pub reaches_all : (all : List Node) (x : Name) → Reaches all all x
reaches_all all x = record { same = refl; open_still = λ o. o; closed_still = λ o. o; led = λ shape g t. t }

module _ (node : Node) (due : Card) (rest all : List Node) (x : Name) (start old new : List Frame) (i : ℕ) (lt : i < length all) (node_is : node ≡ get_or all i node) (due_is : due ≡ card_of node) (rest_is : rest ≡ drop (i + 1) all) (reach : Reaches all (drop i all) x) where
  cons : drop i all ≡ node ∷ rest
  cons =
      let one : suc i ≡ i + 1 = omega arith in
      drop-cons all i node lt ∙ ap (λ n. n ∷ drop (suc i) all) (sym node_is) ∙ ap (λ l. node ∷ l) (ap (λ j. drop j all) one ∙ sym rest_is)

  here : forest (drop i all) ≡ due_forest node due (forest rest)
  here = ap forest cons ∙ node_due node (forest rest) ∙ ap (λ d. due_forest node d (forest rest)) (sym due_is)

  pub tried_at : (s : Step) → old ≡ start → (s ≡ Passed → ⊥) → NodeTried due.min (due_forest node due (forest rest)) (forest rest) x old new s → Tries (forest all) x start new s
  tried_at (Taken fields) kept other tried = (
    tried.0,
    reach.same ∙ ap (λ f. after_name f x) here ∙ tried.1,
    (λ behind. tried.2 behind ∙ ap (λ l. append tried.0 (stack_on l behind)) kept),
    reach.led (shape_of fields) tried.0 (subst (λ f. Takes f x (shape_of fields) tried.0) (sym here) tried.3),
  )
  tried_at Passed kept other tried = absurd (other refl)
  tried_at Stuck kept other tried = (
    reach.same ∙ ap (λ f. after_name f x) here ∙ tried.1,
    (λ o. tried.0 (min_optional node due (forest rest) (subst Optional here (reach.closed_still o)))),
    tried.2 ∙ kept,
  )

  pub reaches_on : NodeTried due.min (due_forest node due (forest rest)) (forest rest) x old new Passed → Reaches all (drop (i + 1) all) x
  reaches_on tried =
      subst (λ l. Reaches all l x) rest_is
      (record {
        same = reach.same ∙ ap (λ f. after_name f x) here ∙ tried.1;
        open_still = λ o. reach.open_still (subst Optional (sym here) (due_optional node due (forest rest) tried.0 o));
        closed_still = λ o. rest_optional node due (forest rest) (subst Optional here (reach.closed_still o));
        led = λ shape g t. reach.led shape g (subst (λ f. Takes f x shape g) (sym here) (takes_past node due (forest rest) g x shape tried.0 t));
      })

pub tried_end : (all : List Node) (x : Name) (start old : List Frame) (i : ℕ) → length all ≤ i → Reaches all (drop i all) x → old ≡ start → Tries (forest all) x start old Passed
tried_end all x start old i le reach kept =
    let past : drop i all ≡ [] = grind (arith, common_steps) in (
      reach.same ∙ ap (λ l. after_name (forest l) x) past,
      reach.open_still (subst (λ l. Optional (forest l)) (sym past) tt),
      kept,
    )

pub begins_group : (g : declared_group.GroupNode) (x : Name) → has_room g.card.max ≡ true → can_begin (forest g.nodes.items) x ≡ node_begins (Group g) x
begins_group g x roomy =
    let row = row_of (Group g) in
    ap (λ f. can_begin f x) (sym (row_items row.0 row.1 ∙ ap forest (items_hidden-the_row-Node-0 g.nodes))) ∙ ap (λ b. b && can_begin (row_forest row.1) x) (sym roomy)

pub forest_group : (g : declared_group.GroupNode) (rest : Forest) → node_forest (Group g) rest ≡ group (value_of g) (forest g.nodes.items) rest
forest_group g rest = node_due (Group g) rest ∙ due_group g g.card rest

-- a segment that may be left out, of another name
pub passes_segment : (s : declared_segment.SegNode) (node : Node) (rest : List Node) (x : Name) (stack : List Frame) → node ≡ Seg s → s.card.min ≡ 0 → (s.name ≡ x → ⊥) → NodeTried s.card.min (due_forest node s.card (forest rest)) (forest rest) x stack stack Passed
passes_segment s node rest x stack is none other = (
  none,
  ap (λ n. after_name (due_forest n s.card (forest rest)) x) is ∙ passed_segment s s.card (forest rest) x other ∙ ap (λ m. pass m (after_name (forest rest) x)) none,
  refl,
)

-- a group that comes once more, and begins with a segment of this name
module _ (f : Frame) (due' : Card) (x : Name) (old : List Frame) (node : Bor Node) (due'' : Card) (rest : Bor (List Node)) (s : declared_segment.SegNode) (fields : Bor (List FieldShape)) where
  abbrev Outer : Frame
  Outer = record { node = f.node; due = due'; rest = f.rest }

  abbrev Inner : Frame
  Inner = record { node = node; due = due''; rest = rest }

  begins_nodes : node.now ≡ Seg s → fields.now ≡ s.fields.items → has_room s.card.max ≡ true → s.name ≡ x → due''.min ≡ s.card.min - 1 → due''.max ≡ less s.card.max → Tries (forest (node.now ∷ rest.now)) x (old ++ Outer ∷ []) ((old ++ Outer ∷ []) ++ Inner ∷ []) (Taken fields)
  begins_nodes is fields_are room here min max =
      let one = tried_segment (record { node = node; due = s.card; rest = rest }) due'' x (old ++ Outer ∷ []) [] ((old ++ Outer ∷ []) ++ Inner ∷ []) s fields is fields_are room here min max refl in
      tried_at node.now s.card rest.now (node.now ∷ rest.now) x (old ++ Outer ∷ []) (old ++ Outer ∷ []) ((old ++ Outer ∷ []) ++ Inner ∷ []) 0 (omega arith) refl (sym (ap card_of is)) refl (reaches_all (node.now ∷ rest.now) x) (Taken fields) refl (λ e. absurd (cc)) one

  pub tries_begun : (g : declared_group.GroupNode) → f.node.now ≡ Group g → g.nodes.items ≡ node.now ∷ rest.now → has_room f.due.max ≡ true → due'.min ≡ f.due.min - 1 → due'.max ≡ less f.due.max
      → node.now ≡ Seg s → fields.now ≡ s.fields.items → has_room s.card.max ≡ true → s.name ≡ x → due''.min ≡ s.card.min - 1 → due''.max ≡ less s.card.max
      → TriesNode f x old (old ++ Outer ∷ Inner ∷ []) (Taken fields)
  tries_begun g group_is items room_f min_f max_f is fields_are room here min max =
      subst (λ new. TriesNode f x old new (Taken fields)) (append_assoc old (Outer ∷ []) (Inner ∷ []))
      (tried_group f due' x old (old ++ Outer ∷ []) ((old ++ Outer ∷ []) ++ Inner ∷ []) g (node.now ∷ rest.now) fields group_is (sym items) room_f min_f max_f refl (begins_nodes is fields_are room here min max))

-- A name, and the shortest list, over joined forests.
use Rattle.gw_profile.specs.Shapes.{SegmentValue, GroupValue}
use Rattle.std.proofs.Common.{◌≡◌, ℕ, zero, suc, ◌-◌, Bool, true, false, List, [], ◌∷◌, ◌++◌, Option, Some, None, refl, sym, ap, ◌∙◌, subst, arith, append_assoc, length, take, get_or, ◌+◌, ◌<◌}
use Rattle.std.proofs.Math.ListN.{set}
use Rattle.std.proofs.lemmas.List.{take_all, take_more, length-set}
use Rattle.std.proofs.lemmas.Grind.{take-set_at}
use Rattle.gw_profile.specs.declared.node.SegNode.{SegNode}
use Rattle.gw_profile.specs.declared.shape.Card.{Card}
use Rattle.gw_profile.specs.declared.node.Node.{Node, Seg, Group'}
use Rattle.gw_validate.specs.declared.walk.Frame.{Frame}
use Rattle.gw_validate.specs.declared.walk.Step.TheVariants.{Taken, Passed, Stuck}
use Rattle.std.specs.Str.{bytes_eq}
use Rattle.gw_profile.specs.Shapes.{Forest, nothing, segment, group}
use Rattle.gw_validate.specs.own.Residual.{less, append, has_room, when, pass, or_else, before, after_name, seg, grp}
use Rattle.gw_profile.specs.Seen.{forest}
use Rattle.gw_profile.specs.Nodes.{card_of}
use Rattle.gw_validate.specs.own.Shortest.{head, several, shortest, shortest_node}
use Rattle.gw_validate.specs.own.State.{due_forest, frame_forest, stack_on, Tries, TriesNode}
use Rattle.gw_validate.proofs.Walking.{append_assoc_forest, stack_on-push, node_due, tried_segment}
use Rattle.gw_profile.specs.Deterministic.{Name, Optional}
use denote.Ref.{Bor}
use Rattle.gw_profile.specs.declared.shape.FieldShape.{FieldShape}
use Rattle.gw_profile.specs.Shapes.{FieldValue}
use Rattle.gw_validate.specs.own.State.{Advances}
use Rattle.gw_validate.specs.own.Taking.{Takes, shape_of}
use Rattle.gw_validate.proofs.Taking.{takes_join, takes_behind}

-- what becomes of a name where h stands behind f
abbrev pub Joins : Forest → Forest → Name → Option Forest → Option Forest → Type 0
Joins f h x None o = (Optional f → o ≡ after_name h x) × ((Optional f → ⊥) → o ≡ None)
Joins f h x (Some g) o = o ≡ Some (append g h)

module _ (h : Forest) (x : Name) (sv : SegmentValue) (hi : Option ℕ) (rest : Forest) where
  pass_segment : (lo : ℕ) (o o' : Option Forest) → Joins rest h x o o' → Joins (seg sv lo hi rest) h x (pass lo o) (pass lo o')
  pass_segment zero None o' j = (λ p. j.0 p.1, λ q. j.1 (λ p. q (refl, p)))
  pass_segment zero (Some g) o' j = j
  pass_segment (suc l) o o' j = (λ p. absurd (omega (arith, p.0)), λ q. refl)

  join_segment : (a b : Bool) (lo : ℕ) (o o' : Option Forest) → Joins rest h x o o' → Joins (seg sv lo hi rest) h x (or_else (when a (when b (Some (seg sv (lo - 1) (less hi) rest)))) (pass lo o)) (or_else (when a (when b (Some (seg sv (lo - 1) (less hi) (append rest h))))) (pass lo o'))
  join_segment true true lo o o' j = refl
  join_segment true false lo o o' j = pass_segment lo o o' j
  join_segment false b lo o o' j = pass_segment lo o o' j

module _ (h : Forest) (x : Name) (gv : GroupValue) (hi : Option ℕ) (ch rest : Forest) where
  pass_group : (lo : ℕ) (o o' : Option Forest) → Joins rest h x o o' → Joins (grp gv lo hi ch rest) h x (pass lo o) (pass lo o')
  pass_group zero None o' j = (λ p. j.0 p.1, λ q. j.1 (λ p. q (refl, p)))
  pass_group zero (Some g) o' j = j
  pass_group (suc l) o o' j = (λ p. absurd (omega (arith, p.0)), λ q. refl)

  join_group : (a : Bool) (i : Option Forest) (lo : ℕ) (o o' : Option Forest) → Joins rest h x o o' → Joins (grp gv lo hi ch rest) h x (or_else (when a (before (grp gv (lo - 1) (less hi) ch rest) i)) (pass lo o)) (or_else (when a (before (grp gv (lo - 1) (less hi) ch (append rest h)) i)) (pass lo o'))
  join_group true (Some i) lo o o' j = ap Some (sym (append_assoc_forest i (grp gv (lo - 1) (less hi) ch rest) h))
  join_group true None lo o o' j = pass_group lo o o' j
  join_group false i lo o o' j = pass_group lo o o' j

pub joins : (f h : Forest) (x : Name) → Joins f h x (after_name f x) (after_name (append f h) x)
joins nothing h x = (λ p. refl, λ q. absurd (q tt))
joins (segment sv rest) h x = join_segment h x sv sv.card.max rest (has_room sv.card.max) (bytes_eq x sv.name) sv.card.min _ _ (joins rest h x)
joins (group gv ch rest) h x = join_group h x gv gv.card.max ch rest (has_room gv.card.max) (after_name ch x) gv.card.min _ _ (joins rest h x)

joins_at : (f h : Forest) (x : Name) (o : Option Forest) → after_name f x ≡ o → Joins f h x o (after_name (append f h) x)
joins_at f h x o e = subst (λ p. Joins f h x p (after_name (append f h) x)) e (joins f h x)

pub append_nothing : (f : Forest) → append f nothing ≡ f
append_nothing nothing = refl
append_nothing (segment sv rest) = ap (λ r. seg sv sv.card.min sv.card.max r) (append_nothing rest)
append_nothing (group gv ch rest) = ap (λ r. grp gv gv.card.min gv.card.max ch r) (append_nothing rest)

-- what comes of the frames that are left comes of all
pub record Comes (start here : List Frame) (x : Name) : Type 0 where
  pub same : after_name (stack_on start nothing) x ≡ after_name (stack_on here nothing) x
  pub led : (shape : List FieldValue) (g : Forest) → Takes (stack_on here nothing) x shape g → Takes (stack_on start nothing) x shape g

pub comes_all : (start : List Frame) (x : Name) → Comes start start x
comes_all start x = record { same = refl; led = λ shape g t. t }

module _ (f : Frame) (x : Name) (start rest new popped : List Frame) (come : Comes start popped x) (pop : popped ≡ rest ++ f ∷ []) where
  split : stack_on popped nothing ≡ append (frame_forest f) (stack_on rest nothing)
  split = ap (λ l. stack_on l nothing) pop ∙ stack_on-push rest f nothing

  led_split : (shape : List FieldValue) (g : Forest) → Takes (append (frame_forest f) (stack_on rest nothing)) x shape g → Takes (stack_on start nothing) x shape g
  led_split shape g t = come.led shape g (subst (λ k. Takes k x shape g) (sym split) t)

  pub advance_taken : (fields : Bor (List FieldShape)) → Tries (frame_forest f) x rest new (Taken fields) → Advances (stack_on start nothing) x (stack_on new nothing) (Some fields)
  advance_taken fields t = (
    come.same ∙ ap (λ g. after_name g x) split
        ∙ joins_at (frame_forest f) (stack_on rest nothing) x (Some t.0) t.1
        ∙ ap Some (sym (t.2 nothing)),
    subst (Takes (stack_on start nothing) x (shape_of fields)) (sym (t.2 nothing))
        (led_split (shape_of fields) (append t.0 (stack_on rest nothing)) (takes_join (frame_forest f) t.0 (stack_on rest nothing) x (shape_of fields) t.3)),
  )

  pub advance_stuck : Tries (frame_forest f) x rest new Stuck → after_name (stack_on start nothing) x ≡ None
  advance_stuck t =
      come.same ∙ ap (λ g. after_name g x) split ∙ (joins_at (frame_forest f) (stack_on rest nothing) x None t.0).1 t.1

  pub advance_passed : Tries (frame_forest f) x rest new Passed → Comes start new x
  advance_passed t = record {
    same = come.same ∙ ap (λ g. after_name g x) split ∙ (joins_at (frame_forest f) (stack_on rest nothing) x None t.0).0 t.1
        ∙ ap (λ l. after_name (stack_on l nothing) x) (sym t.2);
    led = λ shape g k. led_split shape g (takes_behind (frame_forest f) g (stack_on rest nothing) x shape t.1 (subst (λ l. Takes (stack_on l nothing) x shape g) t.2 k));
  }

-- a segment's frame on top takes the name again
module _ (f : Frame) (due' : Card) (x : Name) (old new : List Frame) (n : ℕ) (long : n ≡ length old) (some : n ≡ 0 → ⊥) where
  ends : f ≡ get_or old (n - 1) f → old ≡ take (n - 1) old ++ f ∷ []
  ends is =
      let within : n - 1 < length old = omega (arith, long, some) in
      let one : n - 1 + 1 ≡ length old = omega (arith, long, some) in
      sym (take_all (n - 1 + 1) old (omega (arith, one))) ∙ take_more old (n - 1) f within ∙ ap (λ g. take (n - 1) old ++ g ∷ []) (sym is)

  ends_new : new ≡ set old (n - 1) ((record { node = f.node; due = due'; rest = f.rest })) → new ≡ take (n - 1) old ++ (record { node = f.node; due = due'; rest = f.rest }) ∷ []
  ends_new is =
      let within : n - 1 < length old = omega (arith, long, some) in
      is ∙ sym (take_all (length old) (set old (n - 1) ((record { node = f.node; due = due'; rest = f.rest }))) (omega (arith, length-set old (n - 1) ((record { node = f.node; due = due'; rest = f.rest })))))
      ∙ take-set_at old (n - 1) (length old) ((record { node = f.node; due = due'; rest = f.rest })) (omega (arith, long, some)) within

  pub advance_again : (s : SegNode) (fields : Bor (List FieldShape)) → f ≡ get_or old (n - 1) f → f.node.now ≡ Seg s → fields.now ≡ s.fields.items → has_room f.due.max ≡ true → s.name ≡ x → due'.min ≡ f.due.min - 1 → due'.max ≡ less f.due.max → new ≡ set old (n - 1) (record { node = f.node; due = due'; rest = f.rest }) → Advances (stack_on old nothing) x (stack_on new nothing) (Some fields)
  advance_again s fields is node_is fields_are room here min max put =
      advance_taken f x old (take (n - 1) old) new old (comes_all old x) (ends is) fields
      (tried_segment f due' x (take (n - 1) old) [] new s fields node_is fields_are room here min max (ends_new put))

-- a frame on top that is spent, and below it a group that begins once more with the name
module _ (f outer : Frame) (x : Name) (old new : List Frame) (n : ℕ) (long : n ≡ length old) (two : 1 < n) where
  parted : f ≡ get_or old (n - 1) f → outer ≡ get_or old (n - 2) outer → old ≡ (take (n - 2) old ++ outer ∷ []) ++ f ∷ []
  parted top below =
      let within : n - 2 < length old = omega (arith, long, two) in
      let one : n - 2 + 1 ≡ n - 1 = omega (arith, two) in
      ends f f.due x old old n long (λ e. omega arith) top
      ∙ ap (λ l. l ++ f ∷ []) (ap (λ k. take k old) (sym one) ∙ take_more old (n - 2) outer within ∙ ap (λ g. take (n - 2) old ++ g ∷ []) (sym below))

  parted_new : (a b : Frame) → new ≡ set (set old (n - 2) a) (n - 1) b → new ≡ take (n - 2) old ++ a ∷ b ∷ []
  parted_new a b put =
      let within : n - 2 < length old = omega (arith, long, two) in
      let one : n - 2 + 1 ≡ n - 1 = omega (arith, two) in
      let same : n ≡ length (set old (n - 2) a) = omega (arith, long, length-set old (n - 2) a) in
      let all : n ≡ length (set (set old (n - 2) a) (n - 1) b) = omega (arith, same, length-set (set old (n - 2) a) (n - 1) b) in
      put ∙ sym (take_all n (set (set old (n - 2) a) (n - 1) b) (omega (arith, all)))
      ∙ take-set_at (set old (n - 2) a) (n - 1) n b (omega (arith, two)) (omega (arith, same, two))
      ∙ ap (λ l. l ++ b ∷ []) (take-set_at old (n - 2) (n - 1) a (sym one) within)
      ∙ append_assoc (take (n - 2) old) (a ∷ []) (b ∷ [])

  pub advance_anew : (a b : Frame) (fields : Bor (List FieldShape)) → f ≡ get_or old (n - 1) f → outer ≡ get_or old (n - 2) outer
      → ((stack : List Frame) → Tries (frame_forest f) x stack stack Passed) → ((stack : List Frame) → TriesNode outer x stack (stack ++ a ∷ b ∷ []) (Taken fields))
      → new ≡ set (set old (n - 2) a) (n - 1) b → Advances (stack_on old nothing) x (stack_on new nothing) (Some fields)
  advance_anew a b fields top below passed taken put =
      let front = take (n - 2) old in
      let come = advance_passed f x old (front ++ outer ∷ []) (front ++ outer ∷ []) old (comes_all old x) (parted top below) (passed (front ++ outer ∷ [])) in
      subst (λ l. Advances (stack_on old nothing) x (stack_on l nothing) (Some fields)) (sym (parted_new a b put))
      (advance_taken outer x old front (front ++ a ∷ b ∷ []) (front ++ outer ∷ []) come refl fields (taken front))

abbrev pub first_of_two : Option Name → Option Name → Option Name
first_of_two None o = o
first_of_two (Some x) o = Some x

pub head-append : (a b : List Name) → head (a ++ b) ≡ first_of_two (head a) (head b)
head-append [] b = refl
head-append (x ∷ a) b = refl

first_of_none : (o : Option Name) → first_of_two o None ≡ o
first_of_none None = refl
first_of_none (Some x) = refl

first_of_same : (o : Option Name) → first_of_two o o ≡ o
first_of_same None = refl
first_of_same (Some x) = refl

pub head_several : (k : ℕ) (l : List Name) → (k ≡ 0 → ⊥) → head (several k l) ≡ head l
head_several zero l p = absurd (p refl)
head_several (suc zero) l p = head-append l [] ∙ first_of_none (head l)
head_several (suc (suc k)) l p =
    head-append l (several (suc k) l) ∙ ap (first_of_two (head l)) (head_several (suc k) l (λ e. omega arith)) ∙ first_of_same (head l)

pub shortest-join : (f g : Forest) → shortest (append f g) ≡ shortest f ++ shortest g
shortest-join nothing g = refl
shortest-join (segment sv rest) g = ap (λ l. several sv.card.min (sv.name ∷ []) ++ l) (shortest-join rest g) ∙ sym (append_assoc (several sv.card.min (sv.name ∷ [])) (shortest rest) (shortest g))
shortest-join (group gv ch rest) g = ap (λ l. several gv.card.min (shortest ch) ++ l) (shortest-join rest g) ∙ sym (append_assoc (several gv.card.min (shortest ch)) (shortest rest) (shortest g))

pub shortest_due : (n : Node) (due : Card) (rest : Forest) → shortest (due_forest n due rest) ≡ several due.min (shortest_node n) ++ shortest rest
shortest_due (Seg s) due rest = refl
shortest_due (Group' lb u c shape row) due rest = refl

-- the first name of a frame's shortest list
pub head_frame : (f : Frame) (behind : Forest) → head (shortest (append (frame_forest f) behind)) ≡ first_of_two (head (several f.due.min (shortest_node f.node.now))) (first_of_two (head (shortest (forest f.rest.now))) (head (shortest behind)))
head_frame f behind =
    ap head (shortest-join (frame_forest f) behind)
    ∙ head-append (shortest (frame_forest f)) (shortest behind)
    ∙ ap (λ l. first_of_two (head l) (head (shortest behind))) (shortest_due f.node.now f.due (forest f.rest.now))
    ∙ ap (λ o. first_of_two o (head (shortest behind))) (head-append (several f.due.min (shortest_node f.node.now)) (shortest (forest f.rest.now)))
    ∙ regroup (head (several f.due.min (shortest_node f.node.now))) (head (shortest (forest f.rest.now))) (head (shortest behind))
  where
    regroup : (a b c : Option Name) → first_of_two (first_of_two a b) c ≡ first_of_two a (first_of_two b c)
    regroup None b c = refl
    regroup (Some x) b c = refl

-- what the frame that was taken off says of the shortest list
pub head_popped : (f : Frame) (start rest popped : List Frame) (a b : Option Name) → head (shortest (stack_on start nothing)) ≡ head (shortest (stack_on popped nothing)) → popped ≡ rest ++ f ∷ [] → a ≡ head (several f.due.min (shortest_node f.node.now)) → b ≡ head (shortest (forest f.rest.now)) → head (shortest (stack_on start nothing)) ≡ first_of_two a (first_of_two b (head (shortest (stack_on rest nothing))))
head_popped f start rest popped a b same pop here next =
    same
    ∙ ap (λ l. head (shortest (stack_on l nothing))) pop
    ∙ ap (λ g. head (shortest g)) (stack_on-push rest f nothing)
    ∙ head_frame f (stack_on rest nothing)
    ∙ ap (λ o. first_of_two o (first_of_two (head (shortest (forest f.rest.now))) (head (shortest (stack_on rest nothing))))) (sym here)
    ∙ ap (λ o. first_of_two a (first_of_two o (head (shortest (stack_on rest nothing))))) (sym next)

pub start_forest : (n : Node) (due : Card) (rest : List Node) → due ≡ card_of n → append (due_forest n due (forest rest)) nothing ≡ forest (n ∷ rest)
start_forest n due rest e = append_nothing _ ∙ ap (λ d. due_forest n d (forest rest)) e ∙ sym (node_due n (forest rest))

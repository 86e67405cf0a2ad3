-- A part for each of the occurrences where steps lead, and for each at a place.
use Rattle.std.proofs.Common.{◌≡◌, ℕ, ◌+◌, ◌≤◌, ◌<◌, Bool, true, false, List, [], ◌∷◌, ◌++◌, Option, Some, refl, sym, ap, ◌∙◌, arith, length, drop, subst, append-nil}
use Rattle.std.specs.Prelude.{flat_map, option_map}
use Rattle.std.specs.List.{AllByRecursion}
use Rattle.std.proofs.lemmas.List.{drop_all}
use Rattle.gw_er7.specs.Message.{SegmentValue}
use Rattle.gw_er7.specs.Building.{IsBegun}
use Rattle.gw_validate.specs.Fitting.{OccValue, IsLent}
use Rattle.gw_validate.specs.Viewing.{width, count_at, occurrence_at, occurrence_of}
use Rattle.gw_profile.specs.declared.node.Node.{Node}
use Rattle.gw_maplang.specs.Shapes.{TableValue}
use Rattle.gw_resolve.specs.declared.resolved.FieldCondition as conditions
use Rattle.gw_resolve.specs.declared.resolved.ScopePath.{ScopePath}
use Rattle.gw_resolve.specs.declared.resolved.SegmentItem.{SegmentItem}
use Rattle.gw_resolve.specs.Seen.{place, some_condition}
use Rattle.gw_interp.specs.declared.items.Part.{Part}
use Rattle.gw_interp.specs.declared.items.Part.TheVariants.{OneSegment, Level}
use Rattle.gw_interp.specs.Occurrences.{Occurrence, level_at, children, below}
use Rattle.gw_interp.specs.Meaning.{walked, chosen, IsOne, IsImage, ForEach, Segments}
use Rattle.gw_interp.specs.own.Borrowed.{occurrence, scope, AreOf}
use Rattle.gw_interp.specs.own.Filling.{message_of}
use Rattle.gw_interp.specs.own.Ready.{MayImage, MaySegments, names_if, MayBegin, Adds}
use Rattle.gw_interp.specs.own.Sourced.{is_met}
use Rattle.gw_interp.specs.own.Parts.{found_at, node_name, segments_names, rules_of, MaySegmentsOf, SegmentsOf, condition_of, names_so, MaySo, GivesSo, part_names, MayPart, PartGives, chosen_names, MayChosen, ChosenGives, names_within, MayWithin, GivesWithin, each_names, MayEach, EachGives}
use Rattle.gw_interp.proofs.Borrowing.{drop_level, level_children, length_level}
use Rattle.gw_interp.proofs.Naming.{given_names}
use Rattle.gw_interp.proofs.Trees.{all_left}
use Rattle.gw_interp.proofs.Within.{one_name, names_chosen, may_chosen, each_chosen}
use Rattle.gw_interp.proofs.Giving.{names_of, each_one, IsWalkDone, none_walked, next_begins, next_walked, all_walked}
use Rattle.gw_interp.proofs.Levels.{adds_as}

pub part_named : (tables : List TableValue) (part : Part) (m : List SegmentValue) (os : List Occurrence) (list : List SegmentValue) → PartGives tables part m os list → names_of list ≡ part_names tables part m os
part_named tables (OneSegment nodes item) m os list one = ap names_of one.list_is ∙ ap (λ n. n ∷ []) one.holds.named
part_named tables (Level nodes items condition) m os list h = given_names m os _ _ list h

pub chosen_named : (tables : List TableValue) (part : Part) (m : List SegmentValue) (os : List Occurrence) (list : List SegmentValue) → ChosenGives tables part m os list → names_of list ≡ chosen_names tables part m os
chosen_named tables part m os list = by (is_met m os (condition_of part))
  where
    by : (b : Bool) → GivesSo b (PartGives tables part m os) list → names_of list ≡ names_so b (part_names tables part m os)
    by true h = part_named tables part m os list h
    by false h = ap names_of h

module _ (tables : List TableValue) (part : Part) (os : List OccValue) where
  abbrev Gives : Occurrence → List SegmentValue → Type 0
  Gives = GivesWithin tables part os

  abbrev May : Occurrence → Type 0
  May = MayWithin tables part os

  abbrev names : Occurrence → List (List ℕ)
  names = names_within tables part os

  -- where steps lead from the children from this number on
  abbrev left : OccValue → ℕ → List ℕ → ℕ → List Occurrence
  left from child later k = flat_map (below later) (drop k (level_at from.tree child))

  -- the first children have what is given where steps lead from them, and what is walked is as it was
  pub record IsBelowDone (from : OccValue) (child : ℕ) (later : List ℕ) (k : ℕ) (old now : List SegmentValue) (walked : List OccValue) : Type 0 where
    pub kept : walked ≡ os
    pub walk : IsWalkDone Gives May names (flat_map (below later) (children (occurrence from) child)) (left from child later k) old now

  pub none_below : (from : OccValue) (child : ℕ) (later : List ℕ) (old : List SegmentValue) → IsLent from → child < width from.tree → IsBegun old → MayEach tables part os (below (child ∷ later) (occurrence from)) → IsBelowDone from child later 0 old old os
  none_below from child later old lent h lawful may =
      record {
        kept = refl;
        walk = subst (λ l. IsWalkDone Gives May names (flat_map (below later) (children (occurrence from) child)) (flat_map (below later) l) old old) (level_children from child lent h)
            (none_walked Gives May names (flat_map (below later) (children (occurrence from) child)) old lawful may);
      }

  module _ (from : OccValue) (child : ℕ) (later : List ℕ) (k : ℕ) (o : OccValue) (shows : occurrence_at from.tree child k ≡ Some (occurrence_of o)) (old now : List SegmentValue) (walked : List OccValue) (d : IsBelowDone from child later k old now walked) where
    next : left from child later k ≡ below later (occurrence o) ++ left from child later (k + 1)
    next = ap (flat_map (below later)) (drop_level from.tree child k o shows)

    walk : IsWalkDone Gives May names (flat_map (below later) (children (occurrence from) child)) (below later (occurrence o) ++ left from child later (k + 1)) old now
    walk = subst (λ l. IsWalkDone Gives May names (flat_map (below later) (children (occurrence from) child)) l old now) next d.walk

    pub child_begins : MayBegin old (each_names tables part os (below (child ∷ later) (occurrence from))) → MayBegin now (each_names tables part walked (below later (occurrence o)))
    child_begins may =
        subst (λ w. MayBegin now (each_names tables part w (below later (occurrence o)))) (sym d.kept)
        (next_begins Gives May names (flat_map (below later) (children (occurrence from) child)) (below later (occurrence o)) (left from child later (k + 1)) old now walk may)

    pub child_may : MayEach tables part walked (below later (occurrence o))
    child_may = subst (λ w. MayEach tables part w (below later (occurrence o))) (sym d.kept) (all_left May (below later (occurrence o)) (left from child later (k + 1)) walk.may)

    pub child_done : (new : List SegmentValue) (walked_new : List OccValue) → walked_new ≡ walked → Adds (EachGives tables part walked (below later (occurrence o))) now new → IsBegun new → IsBelowDone from child later (k + 1) old new walked_new
    child_done new walked_new same a lawful =
        record {
          kept = same ∙ d.kept;
          walk = next_walked Gives May names (λ p list. chosen_named tables part (message_of os) (p ∷ scope os) list) (flat_map (below later) (children (occurrence from) child)) (below later (occurrence o)) (left from child later (k + 1)) old now new walk
              (subst (λ w. Adds (EachGives tables part w (below later (occurrence o))) now new) d.kept a) lawful;
        }

  pub all_below : (from : OccValue) (child : ℕ) (later : List ℕ) (k : ℕ) (old now : List SegmentValue) (walked : List OccValue) → count_at from.tree child ≤ k → IsBelowDone from child later k old now walked → Adds (EachGives tables part os (below (child ∷ later) (occurrence from))) old now
  all_below from child later k old now walked le d =
      let none : left from child later k ≡ [] = ap (flat_map (below later)) (drop_all k (level_at from.tree child) (omega (arith, le, length_level from.tree child))) in
      all_walked Gives May names (flat_map (below later) (children (occurrence from) child)) old now
      (subst (λ l. IsWalkDone Gives May names (flat_map (below later) (children (occurrence from) child)) l old now) none d.walk)

  -- nothing is given where there is no occurrence
  pub none_given : (found : List Occurrence) (old : List SegmentValue) → found ≡ [] → Adds (EachGives tables part os found) old old
  none_given found old none = record { list = []; joined = sym (append-nil old); holds = subst (λ l. EachGives tables part os l []) (sym none) refl }

-- the only occurrence where no step leads on
pub no_step : (steps : List ℕ) → length steps < 1 → steps ≡ []
no_step [] h = refl
no_step (i ∷ steps) h = absurd (omega (arith, h))

pub here_given : (tables : List TableValue) (part : Part) (os : List OccValue) (from : OccValue) (steps : List ℕ) (old new : List SegmentValue) → length steps < 1 → Adds (GivesWithin tables part os (occurrence from)) old new → Adds (EachGives tables part os (below steps (occurrence from))) old new
here_given tables part os from steps old new h a =
    subst (λ l. Adds (EachGives tables part os (below l (occurrence from))) old new) (sym (no_step steps h))
    (adds_as _ _ old new (each_one (GivesWithin tables part os) (occurrence from)) a)

-- ---- a part, where its condition holds

-- whether it does
pub held : (so : Bool) (part : Part) (condition : Option conditions.FieldCondition) (os lent : List OccValue) → lent ≡ os → some_condition condition ≡ condition_of part → AreOf (message_of os) os →
    ((m : List SegmentValue) → AreOf m lent → so ≡ is_met m (scope lent) (some_condition condition)) → is_met (message_of os) (scope os) (condition_of part) ≡ so
held so part condition os lent same is of h =
    sym (h (message_of os) (subst (AreOf (message_of os)) (sym same) of) ∙ (λ i. is_met (message_of os) (scope (same i)) (is i)))

module _ (tables : List TableValue) (part : Part) (m : List SegmentValue) (os : List Occurrence) where
  pub none_so : (old : List SegmentValue) → is_met m os (condition_of part) ≡ false → Adds (ChosenGives tables part m os) old old
  none_so old e = record { list = []; joined = sym (append-nil old); holds = subst (λ b. GivesSo b (PartGives tables part m os) []) (sym e) refl }

  pub so_begins : (old : List SegmentValue) → is_met m os (condition_of part) ≡ true → MayBegin old (chosen_names tables part m os) → MayBegin old (part_names tables part m os)
  so_begins old e = subst (λ b. MayBegin old (names_so b (part_names tables part m os)) → MayBegin old (part_names tables part m os)) (sym e) (λ h. h)

  pub so_may : is_met m os (condition_of part) ≡ true → MayChosen tables part m os → MayPart tables part m os
  so_may e = subst (λ b. MaySo b (MayPart tables part m os) → MayPart tables part m os) (sym e) (λ h. h)

  pub so_adds : (old new : List SegmentValue) → is_met m os (condition_of part) ≡ true → Adds (PartGives tables part m os) old new → Adds (ChosenGives tables part m os) old new
  so_adds old new e = adds_as _ _ old new (λ list h. subst (λ b. GivesSo b (PartGives tables part m os) list) (sym e) h)

-- ---- the segments of an item that walks a place

module _ (tables : List TableValue) (nodes : List Node) (item : SegmentItem) (os : List OccValue) (p : ScopePath) (is : item.place ≡ Some p) where
  abbrev Image : Occurrence → Type 0
  Image o = MayImage (walked (message_of os) (o ∷ scope os)) (node_name nodes item) (rules_of tables item)

  abbrev One : Occurrence → List SegmentValue → Type 0
  One o = IsOne (IsImage (walked (message_of os) (o ∷ scope os)) (node_name nodes item) (rules_of tables item))

  pub segments_begin : (old : List SegmentValue) → MayBegin old (segments_names nodes item os) →
      MayBegin old (flat_map (λ o. names_so (is_met (message_of os) (o ∷ scope os) (some_condition item.condition)) (node_name nodes item ∷ [])) (found_at os p))
  segments_begin old =
      subst (MayBegin old)
      (ap (λ q. names_if (message_of os) (scope os) (node_name nodes item) (some_condition item.condition) (option_map place q)) is
      ∙ one_name (node_name nodes item) (chosen (message_of os) (scope os) (some_condition item.condition) (found_at os p))
      ∙ names_chosen (message_of os) (scope os) (some_condition item.condition) (λ o. node_name nodes item ∷ []) (found_at os p))

  pub segments_may : MaySegmentsOf tables nodes item os → AllByRecursion (λ o. MaySo (is_met (message_of os) (o ∷ scope os) (some_condition item.condition)) (Image o)) (found_at os p)
  segments_may h =
      may_chosen (message_of os) (scope os) (some_condition item.condition) Image (found_at os p)
      (subst (λ q. MaySegments (message_of os) (scope os) (node_name nodes item) (rules_of tables item) (some_condition item.condition) (option_map place q)) is h)

  pub segments_given : (old new : List SegmentValue) → Adds (ForEach (λ o. GivesSo (is_met (message_of os) (o ∷ scope os) (some_condition item.condition)) (One o)) (found_at os p)) old new → Adds (SegmentsOf tables nodes item os) old new
  segments_given old new =
      adds_as _ _ old new (λ list h.
      subst (λ q. Segments (message_of os) (scope os) (node_name nodes item) (rules_of tables item) (some_condition item.condition) (option_map place q) list) (sym is)
      (each_chosen (message_of os) (scope os) (some_condition item.condition) One (found_at os p) list h))

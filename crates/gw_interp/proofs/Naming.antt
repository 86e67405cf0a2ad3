-- The names of the segments that a map gives.
use Rattle.std.proofs.Common.{◌≡◌, ℕ, zero, suc, ◌<◌, ◌≤◌, List, [], ◌∷◌, ◌++◌, map, Option, Some, None, refl, sym, ap, ◌∙◌, subst, arith, length}
use Rattle.std.specs.Prelude.{◌==◌, flat_map}
use Rattle.std.specs.List.{AllByRecursion}
use Rattle.std.proofs.lemmas.List.{map-append}
use Rattle.gw_er7.specs.Names.{is_named, header_name}
use Rattle.gw_er7.specs.Message.{SegmentValue}
use Rattle.gw_er7.proofs.Builds.{begun}
use Rattle.gw_profile.specs.Shapes as shapes
use Rattle.gw_profile.specs.Shapes.{FieldValue, Forest, nothing, segment, group, ProfileValue}
use Rattle.gw_profile.specs.WellFormed.{LawfulSegment, IsOther, Headed, EachSegment, table_names}
use Rattle.gw_profile.specs.Deterministic.{AtMost}
use Rattle.gw_profile.proofs.Facts.{both}
use Rattle.gw_validate.specs.Cuts.{Cut, Many}
use Rattle.gw_validate.specs.Conforming.{One, Seq, Conforms}
use Rattle.gw_validate.specs.Trees.{Tree}
use Rattle.gw_validate.specs.Broken.{IsTreeOf}
use Rattle.gw_resolve.specs.Places.{Place, child, nodes_of_child, name_of}
use Rattle.gw_resolve.specs.Resolved.{FieldCondition, Rule, Items, no_items, segment_item, group_item, flat_item, Resolved}
use Rattle.gw_interp.specs.Occurrences as occurrences
use Rattle.gw_interp.specs.Occurrences.{Occurrence, at_place}
use Rattle.gw_interp.specs.Meaning.{Walked, IsImage, IsOne, ForEach, walked, chosen, SegmentsBy, GiveBy, Give}
use Rattle.gw_interp.specs.own.Ready.{names_if, names_given, IsOtherName, AreNames}
use Rattle.gw_interp.proofs.LevelsSound.{from_eq}
use Rattle.gw_interp.proofs.Named.{seq_each, each_both}
use Rattle.gw_interp.proofs.Typed.{Allows, seq_of}

abbrev names_of : List SegmentValue → List (List ℕ)
names_of = map (λ (s : SegmentValue). s.name)

-- ---- whatever is given has the names that are given

module _ (Part : Occurrence → List SegmentValue → Type 0) (names : Occurrence → List (List ℕ)) (each : (o : Occurrence) (list : List SegmentValue) → Part o list → names_of list ≡ names o) where
  pub names_each : (os : List Occurrence) (list : List SegmentValue) → ForEach Part os list → names_of list ≡ flat_map names os
  names_each [] list h = ap names_of h
  names_each (o ∷ os) list h =
      ap names_of h.joined ∙ map-append (λ (s : SegmentValue). s.name) h.front h.back
      ∙ ap (λ ns. ns ++ names_of h.back) (each o h.front h.here) ∙ ap (λ ns. names o ++ ns) (names_each os h.back h.there)

module _ (P : SegmentValue → Type 0) (name : List ℕ) (named : (s : SegmentValue) → P s → s.name ≡ name) where
  name_one : (list : List SegmentValue) → IsOne P list → names_of list ≡ name ∷ []
  name_one list h = ap names_of h.list_is ∙ ap (λ n. n ∷ []) (named h.only h.holds)

module _ (Image : Walked → List ℕ → List Rule → SegmentValue → Type 0) (named : (w : Walked) (name : List ℕ) (rules : List Rule) (s : SegmentValue) → Image w name rules s → s.name ≡ name) (m : List SegmentValue) where
  names_segments : (scope : List Occurrence) (name : List ℕ) (rules : List Rule) (condition : Option FieldCondition) (place : Option Place) (list : List SegmentValue) → SegmentsBy Image m scope name rules condition place list → names_of list ≡ names_if m scope name condition place
  names_segments scope name rules condition None list h = name_one (Image (walked m scope) name rules) name (named (walked m scope) name rules) list h
  names_segments scope name rules condition (Some place) list h = by (chosen m scope condition (at_place scope place)) list h
    where
      by : (os : List Occurrence) (list : List SegmentValue) → ForEach (λ o. IsOne (Image (walked m (o ∷ scope)) name rules)) os list → names_of list ≡ map (λ o. name) os
      by [] list h = ap names_of h
      by (o ∷ os) list h =
          ap names_of h.joined ∙ map-append (λ (s : SegmentValue). s.name) h.front h.back
          ∙ ap (λ ns. ns ++ names_of h.back) (name_one (Image (walked m (o ∷ scope)) name rules) name (named (walked m (o ∷ scope)) name rules) h.front h.here)
          ∙ ap (λ ns. name ∷ ns) (by os h.back h.there)

  joined_names : (P Q : List SegmentValue → Type 0) (xs ys : List (List ℕ)) (list : List SegmentValue) (c : Cut P Q list) → names_of c.front ≡ xs → names_of c.back ≡ ys → names_of list ≡ xs ++ ys
  joined_names P Q xs ys list c front back =
      ap names_of c.joined ∙ map-append (λ (s : SegmentValue). s.name) c.front c.back ∙ ap (λ ns. ns ++ names_of c.back) front ∙ ap (λ ns. xs ++ ns) back

  pub names_by : (items : Items) (scope : List Occurrence) (target : Forest) (list : List SegmentValue) → GiveBy Image m scope target items list → names_of list ≡ names_given m scope target items
  names_by no_items scope target list h = ap names_of h
  names_by (segment_item s rest) scope target list h =
      joined_names _ _ (names_if m scope (name_of (child target s.child)) s.condition s.place) (names_given m scope target rest) list h
      (names_segments scope (name_of (child target s.child)) s.rules s.condition s.place h.front h.here) (names_by rest scope target h.back h.there)
  names_by (group_item g items rest) scope target list h =
      joined_names _ _ (flat_map (λ o. names_given m (o ∷ scope) (nodes_of_child target g.child) items) (chosen m scope g.condition (at_place scope g.place))) (names_given m scope target rest) list h
      (names_each (λ o. GiveBy Image m (o ∷ scope) (nodes_of_child target g.child) items) (λ o. names_given m (o ∷ scope) (nodes_of_child target g.child) items)
      (λ o part k. names_by items (o ∷ scope) (nodes_of_child target g.child) part k) (chosen m scope g.condition (at_place scope g.place)) h.front h.here) (names_by rest scope target h.back h.there)
  names_by (flat_item f items rest) scope target list h =
      joined_names _ _ (flat_map (λ o. names_given m (o ∷ scope) target items) (chosen m scope f.condition (at_place scope f.place))) (names_given m scope target rest) list h
      (names_each (λ o. GiveBy Image m (o ∷ scope) target items) (λ o. names_given m (o ∷ scope) target items)
      (λ o part k. names_by items (o ∷ scope) target part k) (chosen m scope f.condition (at_place scope f.place)) h.front h.here) (names_by rest scope target h.back h.there)

pub given_names : (m : List SegmentValue) (scope : List Occurrence) (target : Forest) (items : Items) (list : List SegmentValue) → Give m scope target items list → map (λ (s : SegmentValue). s.name) list ≡ names_given m scope target items
given_names m scope target items list h = names_by IsImage (λ w name rules s image. image.named) m items scope target list h

-- ---- segments of these names, without texts

abbrev HasName : Walked → List ℕ → List Rule → SegmentValue → Type 0
HasName w name rules s = s.name ≡ name

abbrev Bare : List (List ℕ) → List SegmentValue
Bare = map begun

bare_one : (name : List ℕ) → IsOne (λ s. s.name ≡ name) (Bare (name ∷ []))
bare_one name = record { only = begun name; list_is = refl; holds = refl }

bare_each : (Part : Occurrence → List SegmentValue → Type 0) (names : Occurrence → List (List ℕ)) → ((o : Occurrence) → Part o (Bare (names o))) → (os : List Occurrence) → ForEach Part os (Bare (flat_map names os))
bare_each Part names each [] = refl
bare_each Part names each (o ∷ os) =
    record { front = Bare (names o); back = Bare (flat_map names os); joined = map-append begun (names o) (flat_map names os); here = each o; there = bare_each Part names each os }

module _ (m : List SegmentValue) where
  bare_segments : (scope : List Occurrence) (name : List ℕ) (rules : List Rule) (condition : Option FieldCondition) (place : Option Place) → SegmentsBy HasName m scope name rules condition place (Bare (names_if m scope name condition place))
  bare_segments scope name rules condition None = bare_one name
  bare_segments scope name rules condition (Some place) = by (chosen m scope condition (at_place scope place))
    where
      by : (os : List Occurrence) → ForEach (λ o. IsOne (λ s. s.name ≡ name)) os (Bare (map (λ o. name) os))
      by [] = refl
      by (o ∷ os) = record { front = Bare (name ∷ []); back = Bare (map (λ o. name) os); joined = refl; here = bare_one name; there = by os }

  bare_given : (items : Items) (scope : List Occurrence) (target : Forest) → GiveBy HasName m scope target items (Bare (names_given m scope target items))
  bare_given no_items scope target = refl
  bare_given (segment_item s rest) scope target =
      record {
        front = Bare (names_if m scope (name_of (child target s.child)) s.condition s.place);
        back = Bare (names_given m scope target rest);
        joined = map-append begun (names_if m scope (name_of (child target s.child)) s.condition s.place) (names_given m scope target rest);
        here = bare_segments scope (name_of (child target s.child)) s.rules s.condition s.place;
        there = bare_given rest scope target;
      }
  bare_given (group_item g items rest) scope target =
      record {
        front = Bare (flat_map (λ o. names_given m (o ∷ scope) (nodes_of_child target g.child) items) (chosen m scope g.condition (at_place scope g.place)));
        back = Bare (names_given m scope target rest);
        joined = map-append begun (flat_map (λ o. names_given m (o ∷ scope) (nodes_of_child target g.child) items) (chosen m scope g.condition (at_place scope g.place))) (names_given m scope target rest);
        here = bare_each (λ o. GiveBy HasName m (o ∷ scope) (nodes_of_child target g.child) items) (λ o. names_given m (o ∷ scope) (nodes_of_child target g.child) items)
            (λ o. bare_given items (o ∷ scope) (nodes_of_child target g.child)) (chosen m scope g.condition (at_place scope g.place));
        there = bare_given rest scope target;
      }
  bare_given (flat_item f items rest) scope target =
      record {
        front = Bare (flat_map (λ o. names_given m (o ∷ scope) target items) (chosen m scope f.condition (at_place scope f.place)));
        back = Bare (names_given m scope target rest);
        joined = map-append begun (flat_map (λ o. names_given m (o ∷ scope) target items) (chosen m scope f.condition (at_place scope f.place))) (names_given m scope target rest);
        here = bare_each (λ o. GiveBy HasName m (o ∷ scope) target items) (λ o. names_given m (o ∷ scope) target items) (λ o. bare_given items (o ∷ scope) target) (chosen m scope f.condition (at_place scope f.place));
        there = bare_given rest scope target;
      }

-- ---- the names of a list that can be cut for a profile

-- MSH first, and only first
pub record AreHeaded (names : List (List ℕ)) : Type 0 where
  pub others : List (List ℕ)
  pub names_are : names ≡ header_name ∷ others
  pub each : AllByRecursion IsOtherName others

other_name : (tables : List (List ℕ)) (s : shapes.SegmentValue) → LawfulSegment tables s → IsOther s → IsOtherName s.name
other_name tables s lawful other =
    let p = both (length s.name == 3) (is_named s.name) lawful.named in
    record { lawful = record { three = from_eq (length s.name) 3 p.0; lawful = p.1 }; other = other.0 }

abbrev meets_all : List FieldValue → SegmentValue → Type 0
meets_all shape s = Unit {0}

-- one segment of that name
record IsFirstSegment (name : List ℕ) (list : List SegmentValue) : Type 0 where
  only : SegmentValue
  list_is : list ≡ only ∷ []
  named : only.name ≡ name

one_segment : (name : List ℕ) (fields : List FieldValue) (list : List SegmentValue) → One (λ x. x.name) meets_all name fields list → IsFirstSegment name list
one_segment name fields [] h = absurd h
one_segment name fields (s ∷ []) h = record { only = s; list_is = refl; named = h.0 }
one_segment name fields (s ∷ t ∷ list) h = absurd h

one_time : (name : List ℕ) (fields : List FieldValue) (k : ℕ) → 1 ≤ k → k ≤ 1 → (list : List SegmentValue) → Many (One (λ x. x.name) meets_all name fields) k list → IsFirstSegment name list
one_time name fields zero low high list h = absurd (omega (arith, low))
one_time name fields (suc zero) low high list h =
    let one = one_segment name fields h.front h.here in
    record { only = one.only; list_is = h.joined ∙ ap (λ l. l ++ h.back) one.list_is ∙ ap (λ l. one.only ∷ l) h.there; named = one.named }
one_time name fields (suc (suc k)) low high list h = absurd (omega (arith, high))

headed_names : (tables : List (List ℕ)) (f : Forest) → Headed f → EachSegment (LawfulSegment tables) f → (list : List SegmentValue) → Seq (λ x. x.name) meets_all f list → AreHeaded (names_of list)
headed_names tables nothing headed lawful list h = absurd headed
headed_names tables (group g inner rest) headed lawful list h = absurd headed
headed_names tables (segment s rest) headed lawful list h =
    let times = h.here in
    let card = headed.0.card in
    let low : 1 ≤ times.0 = subst (λ c. c.min ≤ times.0) card times.1 in
    let high : times.0 ≤ 1 = subst (λ c. AtMost c.max times.0) card times.2 in
    let head = one_time s.name s.fields times.0 low high h.front times.3 in
    let rest_names = seq_each meets_all IsOtherName rest (each_both (LawfulSegment tables) IsOther (λ t. IsOtherName t.name) (other_name tables) rest lawful.1 headed.1) h.back h.there in
    record {
      others = names_of h.back;
      names_are = ap names_of (h.joined ∙ ap (λ l. l ++ h.back) head.list_is) ∙ ap (λ n. n ∷ names_of h.back) (head.named ∙ headed.0.name);
      each = each_name h.back rest_names;
    }
  where
    each_name : (list : List SegmentValue) → AllByRecursion (λ s. IsOtherName s.name) list → AllByRecursion IsOtherName (names_of list)
    each_name [] a = tt
    each_name (s ∷ list) a = (a.0, each_name list a.1)

bare_names : (names : List (List ℕ)) → names_of (Bare names) ≡ names
bare_names [] = refl
bare_names (n ∷ names) = ap (λ ns. n ∷ ns) (bare_names names)

module _ (source target : ProfileValue) (resolved : Resolved) (allows : Allows source target resolved) (m : List SegmentValue) (tree : Tree) (conforms : Conforms source m) (is : IsTreeOf source m tree) where
  -- the names of what the map gives are MSH and then others
  pub names_headed : AreHeaded (names_given m (occurrences.nodes tree ∷ []) target.nodes resolved.items)
  names_headed =
      let names = names_given m (occurrences.nodes tree ∷ []) target.nodes resolved.items in
      let seq = seq_of source target resolved allows m tree conforms is HasName meets_all (λ es os holder low name rules fields s h rising lawful rules_lawful none image. (image, tt)) (Bare names) (bare_given m resolved.items (occurrences.nodes tree ∷ []) target.nodes) in
      subst AreHeaded (bare_names names) (headed_names (table_names target.tables) target.nodes allows.target_formed.headed allows.target_formed.segments (Bare names) seq)

  pub are_names : AreNames (names_given m (occurrences.nodes tree ∷ []) target.nodes resolved.items)
  are_names = subst AreNames (sym names_headed.names_are) (refl, names_headed.each)

  pub some_names : 0 < length (names_given m (occurrences.nodes tree ∷ []) target.nodes resolved.items)
  some_names = subst (λ ns. 0 < length ns) (sym names_headed.names_are) (omega arith)

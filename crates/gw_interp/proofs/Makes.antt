-- Where the rules allow a map, it makes a message of each message that conforms to the source.
use Rattle.std.proofs.Common.{◌≡◌, ℕ, ◌<◌, List, [], ◌∷◌, ◌++◌, map, Option, Some, None, refl, sym, subst, arith, length}
use Rattle.std.specs.List.{AllByRecursion}
use Rattle.gw_er7.specs.Names.{IsName, header_name}
use Rattle.gw_er7.specs.Message.{SegmentValue, IsSegment, IsOther, IsMessage}
use Rattle.gw_profile.specs.Shapes.{Forest, ProfileValue}
use Rattle.gw_validate.specs.Cuts.{Cut}
use Rattle.gw_validate.specs.Conforming.{Conforms}
use Rattle.gw_validate.specs.Trees.{Tree}
use Rattle.gw_validate.specs.Broken.{IsTreeOf}
use Rattle.gw_resolve.specs.Places.{Place, child, nodes_of_child, name_of}
use Rattle.gw_resolve.specs.Resolved.{FieldCondition, Rule, Items, no_items, segment_item, group_item, flat_item, Resolved}
use Rattle.gw_interp.specs.Occurrences as occurrences
use Rattle.gw_interp.specs.Occurrences.{Occurrence, at_place}
use Rattle.gw_interp.specs.Meaning.{Walked, IsImage, IsOne, ForEach, walked, chosen, Segments, Give}
use Rattle.gw_interp.specs.own.Ready.{MayImage, MaySegments, MayGive, IsOtherName, AreNames}
use Rattle.gw_interp.specs.Sound.{IsMade}
use Rattle.gw_interp.proofs.Paths.{all_append}
use Rattle.gw_interp.proofs.Lists.{all_as}
use Rattle.gw_interp.proofs.Typed.{Allows}
use Rattle.gw_interp.proofs.Sound.{sound}
use Rattle.gw_interp.proofs.Readiness.{ready}
use Rattle.gw_interp.proofs.Naming.{given_names, are_names, some_names}
use Rattle.gw_interp.proofs.Existing.{image, image_made}

-- each is a segment, where its name is lawful
abbrev AreLawful : List SegmentValue → Type 0
AreLawful = AllByRecursion (λ s. IsName s.name → IsSegment s)

record Made (P : List SegmentValue → Type 0) : Type 0 where
  list : List SegmentValue
  holds : P list
  lawful : AreLawful list

none_made : Made (λ list. list ≡ [])
none_made = record { list = []; holds = refl; lawful = tt }

cut_made : (P Q : List SegmentValue → Type 0) → Made P → Made Q → Made (Cut P Q)
cut_made P Q a b =
    record {
      list = a.list ++ b.list;
      holds = record { front = a.list; back = b.list; joined = refl; here = a.holds; there = b.holds };
      lawful = all_append (λ (s : SegmentValue). IsName s.name → IsSegment s) a.list b.list a.lawful b.lawful;
    }

each_made : (Part : Occurrence → List SegmentValue → Type 0) (os : List Occurrence) → AllByRecursion (λ o. Made (Part o)) os → Made (ForEach Part os)
each_made Part [] h = none_made
each_made Part (o ∷ os) h = cut_made (Part o) (ForEach Part os) h.0 (each_made Part os h.1)

one_made : (w : Walked) (name : List ℕ) (rules : List Rule) → MayImage w name rules → Made (IsOne (IsImage w name rules))
one_made w name rules may =
    let made = image_made w name rules may in
    record {
      list = image w name rules may ∷ [];
      holds = record { only = image w name rules may; list_is = refl; holds = made.image };
      lawful = (made.lawful, tt);
    }

module _ (m : List SegmentValue) where
  segments_made : (scope : List Occurrence) (name : List ℕ) (rules : List Rule) (condition : Option FieldCondition) (place : Option Place) → MaySegments m scope name rules condition place → Made (Segments m scope name rules condition place)
  segments_made scope name rules condition None may = one_made (walked m scope) name rules may
  segments_made scope name rules condition (Some place) may =
      each_made (λ o. IsOne (IsImage (walked m (o ∷ scope)) name rules)) (chosen m scope condition (at_place scope place))
      (all_as (λ o. MayImage (walked m (o ∷ scope)) name rules) (λ o. Made (IsOne (IsImage (walked m (o ∷ scope)) name rules))) (λ o may. one_made (walked m (o ∷ scope)) name rules may) (chosen m scope condition (at_place scope place)) may)

  give_made : (items : Items) (scope : List Occurrence) (target : Forest) → MayGive m scope target items → Made (Give m scope target items)
  give_made no_items scope target may = none_made
  give_made (segment_item s rest) scope target may =
      cut_made (Segments m scope (name_of (child target s.child)) s.rules s.condition s.place) (Give m scope target rest)
      (segments_made scope (name_of (child target s.child)) s.rules s.condition s.place may.0) (give_made rest scope target may.1)
  give_made (group_item g items rest) scope target may =
      cut_made (ForEach (λ o. Give m (o ∷ scope) (nodes_of_child target g.child) items) (chosen m scope g.condition (at_place scope g.place))) (Give m scope target rest)
      (each_made (λ o. Give m (o ∷ scope) (nodes_of_child target g.child) items) (chosen m scope g.condition (at_place scope g.place))
      (all_as (λ o. MayGive m (o ∷ scope) (nodes_of_child target g.child) items) (λ o. Made (Give m (o ∷ scope) (nodes_of_child target g.child) items))
      (λ o may. give_made items (o ∷ scope) (nodes_of_child target g.child) may) (chosen m scope g.condition (at_place scope g.place)) may.0))
      (give_made rest scope target may.1)
  give_made (flat_item f items rest) scope target may =
      cut_made (ForEach (λ o. Give m (o ∷ scope) target items) (chosen m scope f.condition (at_place scope f.place))) (Give m scope target rest)
      (each_made (λ o. Give m (o ∷ scope) target items) (chosen m scope f.condition (at_place scope f.place))
      (all_as (λ o. MayGive m (o ∷ scope) target items) (λ o. Made (Give m (o ∷ scope) target items)) (λ o may. give_made items (o ∷ scope) target may) (chosen m scope f.condition (at_place scope f.place)) may.0))
      (give_made rest scope target may.1)

-- ---- a message

abbrev names_of : List SegmentValue → List (List ℕ)
names_of = map (λ (s : SegmentValue). s.name)

others_made : (list : List SegmentValue) → AllByRecursion IsOtherName (names_of list) → AreLawful list → AllByRecursion IsOther list
others_made [] names lawful = tt
others_made (s ∷ list) names lawful = (record { segment = lawful.0 names.0.lawful; name = names.0.other }, others_made list names.1 lawful.1)

header_lawful : (name : List ℕ) → name ≡ header_name → IsName name
header_lawful name same = subst IsName (sym same) (record { three = refl; lawful = refl })

message_made : (list : List SegmentValue) → AreNames (names_of list) → 0 < length (names_of list) → AreLawful list → IsMessage list
message_made [] names some lawful = absurd (omega (arith, some))
message_made (s ∷ list) names some lawful = (record { segment = lawful.0 (header_lawful s.name names.0); name = names.0 }, others_made list names.1 lawful.1)

pub makes_some : (source target : ProfileValue) (resolved : Resolved) → Allows source target resolved → (m : List SegmentValue) (tree : Tree) → IsMessage m → Conforms source m → IsTreeOf source m tree →
    (made : List SegmentValue) × IsMade target resolved m tree made
makes_some source target resolved allows m tree is_message conforms is =
    let made = give_made m resolved.items (occurrences.nodes tree ∷ []) target.nodes (ready source target resolved allows m tree is_message conforms is) in
    let names = given_names m (occurrences.nodes tree ∷ []) target.nodes resolved.items made.list made.holds in (
      made.list,
      record {
        is_message = message_made made.list (subst AreNames (sym names) (are_names source target resolved allows m tree conforms is)) (subst (λ ns. 0 < length ns) (sym names) (some_names source target resolved allows m tree conforms is)) made.lawful;
        means = made.holds;
        conforms = sound source target resolved allows m tree conforms is made.list made.holds;
      },
    )

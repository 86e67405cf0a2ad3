-- What is made within each of some occurrences: a segment, or what items give.
use Rattle.std.specs.Prelude.{◌≡◌, ℕ, Bool, true, false, if◌then◌else◌, List, [], ◌∷◌, map, flat_map, Option, option_map}
use Rattle.std.specs.List.{AllByRecursion}
use Rattle.gw_er7.specs.Message.{SegmentValue}
use Rattle.gw_profile.specs.Seen.{forest}
use Rattle.gw_profile.specs.declared.node.Node.{Node}
use Rattle.gw_validate.specs.Fitting.{OccValue}
use Rattle.gw_maplang.specs.Shapes.{TableValue}
use Rattle.gw_resolve.specs.declared.resolved.ScopePath.{ScopePath}
use Rattle.gw_resolve.specs.declared.resolved.SegmentItem.{SegmentItem}
use Rattle.gw_resolve.specs.Places.{child, name_of}
use Rattle.gw_resolve.specs.Resolved.{FieldCondition, Rule, Items}
use Rattle.gw_resolve.specs.Seen.{place, some_condition, rule, all_items}
use Rattle.gw_interp.specs.declared.items.Part.{Part}
use Rattle.gw_interp.specs.declared.items.Part.TheVariants.{OneSegment, Level}
use Rattle.gw_interp.specs.Occurrences.{Occurrence, at_place}
use Rattle.gw_interp.specs.own.Borrowed.{scope}
use Rattle.gw_interp.specs.Meaning.{walked, IsOne, IsImage, ForEach, Segments, Give}
use Rattle.gw_interp.specs.own.Filling.{message_of}
use Rattle.gw_interp.specs.own.Sourced.{is_met}
use Rattle.gw_interp.specs.own.Ready.{MayImage, MaySegments, MayGive, names_if, names_given}

-- ---- items, where these are walked in the program, for these nodes of the target

abbrev pub items_names : List Node → Items → List OccValue → List (List ℕ)
items_names nodes items os = names_given (message_of os) (scope os) (forest nodes) items

abbrev pub MayItems : List Node → Items → List OccValue → Type 0
MayItems nodes items os = MayGive (message_of os) (scope os) (forest nodes) items

abbrev pub ItemsGive : List Node → Items → List OccValue → List SegmentValue → Type 0
ItemsGive nodes items os list = Give (message_of os) (scope os) (forest nodes) items list

-- the occurrences at a place
abbrev pub found_at : List OccValue → ScopePath → List Occurrence
found_at os p = at_place (scope os) (place p)

-- the name of the target's node of an item
abbrev pub node_name : List Node → SegmentItem → List ℕ
node_name nodes item = name_of (child (forest nodes) item.child)

abbrev pub segments_names : List Node → SegmentItem → List OccValue → List (List ℕ)
segments_names nodes item os = names_if (message_of os) (scope os) (node_name nodes item) (some_condition item.condition) (option_map place item.place)

-- ---- conditions

abbrev pub condition_of : Part → Option FieldCondition
condition_of (OneSegment nodes item) = some_condition item.now.condition
condition_of (Level nodes items condition) = some_condition condition.now

-- names where this is so, none elsewhere
abbrev pub names_so : Bool → List (List ℕ) → List (List ℕ)
names_so so names = if so then names else []

abbrev pub MaySo : Bool → Type 0 → Type 0
MaySo true May = May
MaySo false May = Unit {0}

abbrev pub GivesSo : Bool → (List SegmentValue → Type 0) → List SegmentValue → Type 0
GivesSo true Gives list = Gives list
GivesSo false Gives list = list ≡ []

module _ (tables : List TableValue) where
  abbrev pub rules_of : SegmentItem → List Rule
  rules_of item = map (rule tables) item.rules.items

  abbrev pub MaySegment : List Node → SegmentItem → List OccValue → Type 0
  MaySegment nodes item os = MayImage (walked (message_of os) (scope os)) (node_name nodes item) (rules_of item)

  abbrev pub GivesSegment : List Node → SegmentItem → List OccValue → List SegmentValue → Type 0
  GivesSegment nodes item os list = IsOne (IsImage (walked (message_of os) (scope os)) (node_name nodes item) (rules_of item)) list

  abbrev pub MaySegmentsOf : List Node → SegmentItem → List OccValue → Type 0
  MaySegmentsOf nodes item os = MaySegments (message_of os) (scope os) (node_name nodes item) (rules_of item) (some_condition item.condition) (option_map place item.place)

  abbrev pub SegmentsOf : List Node → SegmentItem → List OccValue → List SegmentValue → Type 0
  SegmentsOf nodes item os list = Segments (message_of os) (scope os) (node_name nodes item) (rules_of item) (some_condition item.condition) (option_map place item.place) list

  -- ---- a part, where these occurrences are walked, the innermost first

  -- the names of its segments
  abbrev pub part_names : Part → List SegmentValue → List Occurrence → List (List ℕ)
  part_names (OneSegment nodes item) m os = node_name nodes.now item.now ∷ []
  part_names (Level nodes items condition) m os = names_given m os (forest nodes.now) (all_items tables items.now)

  -- its texts may stand at their places
  abbrev pub MayPart : Part → List SegmentValue → List Occurrence → Type 0
  MayPart (OneSegment nodes item) m os = MayImage (walked m os) (node_name nodes.now item.now) (rules_of item.now)
  MayPart (Level nodes items condition) m os = MayGive m os (forest nodes.now) (all_items tables items.now)

  abbrev pub PartGives : Part → List SegmentValue → List Occurrence → List SegmentValue → Type 0
  PartGives (OneSegment nodes item) m os list = IsOne (IsImage (walked m os) (node_name nodes.now item.now) (rules_of item.now)) list
  PartGives (Level nodes items condition) m os list = Give m os (forest nodes.now) (all_items tables items.now) list

  -- ---- a part where its condition holds, and nothing elsewhere

  abbrev pub chosen_names : Part → List SegmentValue → List Occurrence → List (List ℕ)
  chosen_names part m os = names_so (is_met m os (condition_of part)) (part_names part m os)

  abbrev pub MayChosen : Part → List SegmentValue → List Occurrence → Type 0
  MayChosen part m os = MaySo (is_met m os (condition_of part)) (MayPart part m os)

  abbrev pub ChosenGives : Part → List SegmentValue → List Occurrence → List SegmentValue → Type 0
  ChosenGives part m os list = GivesSo (is_met m os (condition_of part)) (PartGives part m os) list

  -- ---- the same within an occurrence, and within each of some, in their order, where these are walked in the program

  abbrev pub names_within : Part → List OccValue → Occurrence → List (List ℕ)
  names_within part os o = chosen_names part (message_of os) (o ∷ scope os)

  abbrev pub MayWithin : Part → List OccValue → Occurrence → Type 0
  MayWithin part os o = MayChosen part (message_of os) (o ∷ scope os)

  abbrev pub GivesWithin : Part → List OccValue → Occurrence → List SegmentValue → Type 0
  GivesWithin part os o list = ChosenGives part (message_of os) (o ∷ scope os) list

  abbrev pub each_names : Part → List OccValue → List Occurrence → List (List ℕ)
  each_names part os found = flat_map (names_within part os) found

  abbrev pub MayEach : Part → List OccValue → List Occurrence → Type 0
  MayEach part os found = AllByRecursion (MayWithin part os) found

  abbrev pub EachGives : Part → List OccValue → List Occurrence → List SegmentValue → Type 0
  EachGives part os found list = ForEach (GivesWithin part os) found list

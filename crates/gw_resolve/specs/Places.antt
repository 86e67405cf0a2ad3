-- Elements of a profile (HL7 v2.5.1 chapter 2, 2.12), and the places at which a map reads them.
use Rattle.std.specs.Prelude.{ℕ, zero, suc, List, [], ◌∷◌, Option, Some, None}
use Rattle.gw_profile.specs.declared.shape.Card.{Card}
use Rattle.gw_profile.specs.Shapes.{FieldValue, SegmentValue, GroupValue, Forest, nothing, segment, group}
use Rattle.gw_resolve.specs.Intervals.{Interval, never, once, of_card, product}

-- a segment, a group with its nodes, or the nodes of the whole profile
pub data Element : Type 0 where
  a_segment : (s : SegmentValue) → Element
  a_group : (g : GroupValue) (nodes : Forest) → Element
  the_whole : (nodes : Forest) → Element

abbrev pub nodes_of : Element → Forest
nodes_of (a_segment s) = nothing
nodes_of (a_group g nodes) = nodes
nodes_of (the_whole nodes) = nodes

-- the node of this number, from 0
abbrev pub child : Forest → ℕ → Option Element
child nothing i = None
child (segment s rest) zero = Some (a_segment s)
child (segment s rest) (suc i) = child rest i
child (group g nodes rest) zero = Some (a_group g nodes)
child (group g nodes rest) (suc i) = child rest i

abbrev pub nodes_of_child : Forest → ℕ → Forest
nodes_of_child nodes i = go (child nodes i)
  where
    go : Option Element → Forest
    go None = nothing
    go (Some e) = nodes_of e

abbrev pub fields_of : Option Element → List FieldValue
fields_of (Some (a_segment s)) = s.fields
fields_of element = []

-- the name of a segment
abbrev pub name_of : Option Element → List ℕ
name_of (Some (a_segment s)) = s.name
name_of element = []

-- ---- places

-- One of the occurrences that are walked, counted outwards from the innermost, and from there the number of a child, step by step.
pub record Place : Type 0 where
  pub out : ℕ
  pub steps : List ℕ

-- an element, and how often it is there below where the steps began
pub record Found : Type 0 where
  pub element : Element
  pub count : Interval

-- the whole comes once
abbrev pub card_of : Element → Card
card_of (a_segment s) = s.card
card_of (a_group g nodes) = g.card
card_of (the_whole nodes) = record { min = 1; max = Some 1 }

-- what was found below an element, as often as that comes
abbrev pub times : Card → Option Found → Option Found
times card None = None
times card (Some f) = Some (record { element = f.element; count = product (of_card card) f.count })

abbrev pub node_found : Option Element → (Element → Option Found) → Option Found
node_found None go = None
node_found (Some e) go = times (card_of e) (go e)

abbrev pub found_below : List ℕ → Element → Option Found
found_below [] e = Some (record { element = e; count = once })
found_below (i ∷ steps) e = node_found (child (nodes_of e) i) (found_below steps)

abbrev pub found_in : List Element → ℕ → List ℕ → Option Found
found_in [] out steps = None
found_in (e ∷ scope) zero steps = found_below steps e
found_in (e ∷ scope) (suc out) steps = found_in scope out steps

-- what stands at a place, seen from the elements that are walked, the innermost first
abbrev pub found : List Element → Place → Option Found
found scope place = found_in scope place.out place.steps

abbrev pub count_of : Option Found → Interval
count_of None = never
count_of (Some f) = f.count

-- how often the place is there
abbrev pub count_at : List Element → Place → Interval
count_at scope place = count_of (found scope place)

abbrev pub element_of : Option Found → Element
element_of None = the_whole nothing
element_of (Some f) = f.element

-- the scope of what is walked there
abbrev pub within : List Element → Place → List Element
within scope place = element_of (found scope place) ∷ scope

-- where no place is said nothing more is walked
abbrev pub within_if : List Element → Option Place → List Element
within_if scope None = scope
within_if scope (Some place) = within scope place

abbrev pub count_if : List Element → Option Place → Interval
count_if scope None = once
count_if scope (Some place) = count_at scope place

-- the segment at a place: how often it is there, and its fields
pub record Known : Type 0 where
  pub count : Interval
  pub fields : List FieldValue

abbrev pub known_of : Option Found → Known
known_of None = record { count = never; fields = [] }
known_of (Some f) = go f.element
  where
    go : Element → Known
    go (a_segment s) = record { count = f.count; fields = s.fields }
    go element = record { count = never; fields = [] }

abbrev pub known : List Element → Place → Known
known scope place = known_of (found scope place)

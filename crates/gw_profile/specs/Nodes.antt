-- One node, as the program holds it.
use Rattle.std.specs.Prelude.{◌≡◌, ℕ, ◌||◌, if◌then◌else◌, List, [], ◌∷◌, ◌++◌, Option}
use Rattle.gw_profile.specs.declared.shape.Card.{Card}
use Rattle.indexmap.specs.IndexSet.{IndexSet}
use Rattle.gw_profile.specs.declared.node.Node.{Node, Seg, Group'}
use Rattle.gw_profile.specs.Line.{allows}
use Rattle.gw_profile.specs.Fault.{is_among}
use Rattle.gw_profile.specs.Seen.{row_forest}
use Rattle.gw_profile.specs.LookAhead.{first_names, clash, group_ambiguous}

abbrev pub node_ambiguous : Node → List (List ℕ) → Option (List ℕ)
node_ambiguous (Seg s) after = clash s.card (s.name ∷ []) after
node_ambiguous (Group' label usage card shape inner) after = group_ambiguous card (row_forest inner) after

abbrev pub first_of_node : Node → List (List ℕ)
first_of_node (Seg s) = if allows s.card.max 1 then s.name ∷ [] else []
first_of_node (Group' label usage card shape inner) = if allows card.max 1 then first_names (row_forest inner) else []

abbrev pub card_of : Node → Card
card_of (Seg s) = s.card
card_of (Group' label usage card shape inner) = card

-- the names of a list are those of the old one and more
abbrev pub Joins : List (List ℕ) → List (List ℕ) → List (List ℕ) → Type 0
Joins more old new = (x : List ℕ) → is_among x new ≡ is_among x old || is_among x more

-- the names of all these sets
abbrev pub joined : {S : Type 0} → List (IndexSet (List ℕ) S) → List (List ℕ)
joined [] = []
joined (set ∷ more) = set.keys ++ joined more

-- the last of the sets is put back
abbrev pub TakesBack : {S : Type 0} → List (IndexSet (List ℕ) S) → IndexSet (List ℕ) S → List (IndexSet (List ℕ) S) → Type 0
TakesBack {S} old near far = (sets : List (IndexSet (List ℕ) S)) (held : IndexSet (List ℕ) S) → old ≡ sets ++ held ∷ [] → (near ≡ held) × (far ≡ sets)

-- Where the nodes of a profile stand, and where those are that a map reads.
use Rattle.std.specs.Prelude.{ℕ, List, [], ◌∷◌, ◌++◌, length, map, reverse, slice_get, unwrap_or, Option, Some, None}
use Rattle.std.specs.Global.{Vec}
use Rattle.gw_resolve.specs.Places.{Place}

-- a node, by the numbers of the nodes that lead to it from the top on
abbrev pub Position : Type 0
Position = List ℕ

-- the position of a place, seen from the positions that are walked, the innermost first
abbrev pub position : List Position → Place → Position
position scope place = unwrap_or (slice_get scope place.out) [] ++ place.steps

-- how many of its numbers lead to what is walked
abbrev pub walked : List Position → Place → ℕ
walked scope place = length (unwrap_or (slice_get scope place.out) [])

-- those that are walked at a place
abbrev pub inner : List Position → Place → List Position
inner scope place = position scope place ∷ scope

-- where no place is said nothing more is walked
abbrev pub inner_if : List Position → Option Place → List Position
inner_if scope None = scope
inner_if scope (Some place) = inner scope place

-- those that are walked, the innermost last in the program
abbrev pub positions : List (Vec ℕ) → List Position
positions scope = reverse (map (λ v. v.items) scope)

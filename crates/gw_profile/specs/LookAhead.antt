-- Determinism by one name of look-ahead, and the rules of the whole profile.
use Rattle.std.specs.Prelude.{ℕ, ◌+◌, ◌==◌, Bool, true, false, ◌&&◌, ◌||◌, nat_lt, if◌then◌else◌, List, [], ◌∷◌, ◌++◌, Option, Some, None}
use Rattle.gw_profile.specs.declared.shape.Card.{Card}
use Rattle.gw_profile.specs.Shapes.{Forest, nothing, segment, group}
use Rattle.gw_profile.specs.Line.{allows}
use Rattle.gw_profile.specs.Fault.{is_among}

-- ---- First and After

-- no node has a min of at least 1
abbrev pub is_optional : Forest → Bool
is_optional nothing = true
is_optional (segment s rest) = s.card.min == 0 && is_optional rest
is_optional (group g inner rest) = g.card.min == 0 && is_optional rest

-- the names that can begin a list of these nodes: of each up to and with the first of min at least 1, but for those of max 0
abbrev pub first_names : Forest → List (List ℕ)
first_names nothing = []
first_names (segment s rest) =
    (if allows s.card.max 1 then s.name ∷ [] else []) ++ (if s.card.min == 0 then first_names rest else [])
first_names (group g inner rest) =
    (if allows g.card.max 1 then first_names inner else []) ++ (if g.card.min == 0 then first_names rest else [])

-- the names that can come where these nodes stand, where one of `after` can come behind them
abbrev pub follow_names : Forest → List (List ℕ) → List (List ℕ)
follow_names f after = first_names f ++ (if is_optional f then after else [])

-- the names that can come behind a child of a group: those behind the group, and those that begin it where it may come again
abbrev pub behind_child : Card → Forest → List (List ℕ) → List (List ℕ)
behind_child card inner after = after ++ (if allows card.max 2 then first_names inner else [])

-- in byte order
abbrev pub is_before : List ℕ → List ℕ → Bool
is_before [] other = true
is_before (x ∷ xs) [] = false
is_before (x ∷ xs) (y ∷ ys) = nat_lt x y || (x == y && is_before xs ys)

abbrev pub least : List ℕ → Option (List ℕ) → List ℕ
least name None = name
least name (Some other) = if is_before name other then name else other

-- the least name that the lists share
abbrev pub least_shared : List (List ℕ) → List (List ℕ) → Option (List ℕ)
least_shared [] others = None
least_shared (name ∷ names) others = if is_among name others then Some (least name (least_shared names others)) else least_shared names others

-- the least name that begins a node and can come behind it, where its number is open
abbrev pub clash : Card → List (List ℕ) → List (List ℕ) → Option (List ℕ)
clash card names after = if allows card.max (card.min + 1) then least_shared names after else None

abbrev pub or_else : Option (List ℕ) → Option (List ℕ) → Option (List ℕ)
or_else None other = other
or_else (Some name) other = Some name

-- the name of the first node, in the order of the text, that isn't determined by one name of look-ahead
abbrev pub ambiguous : Forest → List (List ℕ) → Option (List ℕ)
ambiguous nothing after = None
ambiguous (segment s rest) after = or_else (clash s.card (s.name ∷ []) (follow_names rest after)) (ambiguous rest after)
ambiguous (group g inner rest) after =
    or_else
    (or_else (clash g.card (first_names inner) (follow_names rest after)) (ambiguous inner (behind_child g.card inner (follow_names rest after))))
    (ambiguous rest after)

-- the same of one node
abbrev pub group_ambiguous : Card → Forest → List (List ℕ) → Option (List ℕ)
group_ambiguous card inner after = or_else (clash card (first_names inner) after) (ambiguous inner (behind_child card inner after))

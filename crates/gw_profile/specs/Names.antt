-- The names of the segments that stand at nodes.
use Rattle.std.specs.Prelude.{◌≡◌, Bool, false, ◌||◌, bytes_eq}
use Rattle.std.specs.HashSet.{HashSet, contains}
use Rattle.gw_profile.specs.Shapes.{Forest, nothing, segment, group}
use Rattle.gw_profile.specs.Deterministic.{Name}

-- a segment of this name stands at one of the nodes, or within one
abbrev pub stands : Forest → Name → Bool
stands nothing x = false
stands (segment s rest) x = bytes_eq s.name x || stands rest x
stands (group g nodes rest) x = stands nodes x || stands rest x

-- the new set has the names of the forest and those of the old one
abbrev pub Adds : {S : Type 0} → HashSet Name S → HashSet Name S → Forest → Type 0
Adds old new f = (x : Name) → contains bytes_eq new x ≡ (stands f x || contains bytes_eq old x)

-- the set has the names of the forest, and no others
abbrev pub Holds : {S : Type 0} → HashSet Name S → Forest → Type 0
Holds set f = (x : Name) → contains bytes_eq set x ≡ stands f x

-- The names with which the segments of a message may go on (HL7 v2.5.1 chapter 2, 2.12: segments in order, segment groups, cardinality).
use Rattle.std.specs.Prelude.{ℕ, List, [], ◌∷◌, ◌++◌, take, ◌↔◌}
use Rattle.gw_er7.specs.Message.{SegmentValue}
use Rattle.gw_profile.specs.Among.{Among}
use Rattle.gw_profile.specs.Deterministic.{Name}
use Rattle.gw_profile.specs.Shapes.{ProfileValue, Forest}
use Rattle.gw_validate.specs.Conforming.{names}
use Rattle.gw_validate.specs.Cuts.{Begins}

-- the names found are just those with which these names begin a list that fits
abbrev pub AreNext : Forest → List Name → List Name → Type 0
AreNext f before found = (x : Name) → Among x found ↔ Begins f (before ++ x ∷ [])

-- the same behind the segments before the one of this number, from 0
abbrev pub AreNextAt : ProfileValue → List SegmentValue → ℕ → List Name → Type 0
AreNextAt p m number found = AreNext p.nodes (names p.nodes (take number m)) found

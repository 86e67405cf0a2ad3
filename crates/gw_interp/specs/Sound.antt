-- What acceptance by the checker means, and what a map makes of a message.
use Rattle.std.specs.Prelude.{◌≡◌, List, []}
use Rattle.gw_er7.specs.Message.{SegmentValue, IsMessage}
use Rattle.gw_profile.specs.Shapes.{ProfileValue}
use Rattle.gw_profile.specs.WellFormed.{WellFormed}
use Rattle.gw_maplang.specs.Lawful.{Lawful}
use Rattle.gw_maplang.specs.Shapes.{MapValue}
use Rattle.gw_validate.specs.Trees.{Tree}
use Rattle.gw_validate.specs.Broken.{IsTreeOf}
use Rattle.gw_validate.specs.Conforming.{Conforms}
use Rattle.gw_resolve.specs.Lawful.{LawfulItems}
use Rattle.gw_resolve.specs.Naming.{resolved}
use Rattle.gw_resolve.specs.Resolved.{Resolved}
use Rattle.gw_check.specs.Checked.{all_failures}
use Rattle.gw_check.specs.Typed.{IsTyped}
use Rattle.gw_interp.specs.Meaning.{Means}

-- what the map makes of any message that conforms to the source conforms to the target
abbrev pub MakesConforming : ProfileValue → ProfileValue → Resolved → Type 0
MakesConforming source target map =
    (m : List SegmentValue) (tree : Tree) → IsMessage m → Conforms source m → IsTreeOf source m tree →
    (made : List SegmentValue) → Means target map m tree made → Conforms target made

-- the map makes at most one message of a message
abbrev pub MakesOne : ProfileValue → Resolved → Type 0
MakesOne target map =
    (m : List SegmentValue) (tree : Tree) (made other : List SegmentValue) → IsMessage made → IsMessage other →
    Means target map m tree made → Means target map m tree other → made ≡ other

-- a message that the map makes of the message, and that conforms
pub record IsMade (target : ProfileValue) (map : Resolved) (m : List SegmentValue) (tree : Tree) (made : List SegmentValue) : Type 0 where
  pub is_message : IsMessage made
  pub means : Means target map m tree made
  pub conforms : Conforms target made

-- there is one of each message that conforms to the source
abbrev pub MakesSome : ProfileValue → ProfileValue → Resolved → Type 0
MakesSome source target map =
    (m : List SegmentValue) (tree : Tree) → IsMessage m → Conforms source m → IsTreeOf source m tree →
    (made : List SegmentValue) × IsMade target map m tree made

-- there is exactly one of each message that conforms to the source
abbrev pub MakesTheOne : ProfileValue → ProfileValue → Resolved → Type 0
MakesTheOne source target map =
    (m : List SegmentValue) (tree : Tree) → IsMessage m → Conforms source m → IsTreeOf source m tree →
    (made : List SegmentValue) × IsMade target map m tree made × ((other : List SegmentValue) → IsMessage other → Means target map m tree other → other ≡ made)

-- ---- of which maps

-- this holds of every map of which no rule fails between two well-formed profiles
abbrev pub ForAccepted : (ProfileValue → ProfileValue → Resolved → Type 0) → Type 0
ForAccepted Holds =
    (source target : ProfileValue) (map : MapValue) → WellFormed source → WellFormed target → Lawful map →
    all_failures source target map ≡ [] → Holds source target (resolved source target map)

-- this holds of every map without labels that the rules allow between two well-formed profiles
abbrev pub ForAllowed : (ProfileValue → ProfileValue → Resolved → Type 0) → Type 0
ForAllowed Holds =
    (source target : ProfileValue) (map : Resolved) → WellFormed source → WellFormed target →
    LawfulItems target.nodes map.items → IsTyped source target map → Holds source target map

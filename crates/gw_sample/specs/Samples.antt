-- What a sample is (HL7 v2.5.1 chapter 2, 2.6 "Message construction rules" and 2.12: message profiles).
use Rattle.std.specs.Prelude.{◌≡◌, ◌<◌, ◌⊎◌, ◌↔◌, List, length, Option, IfSome, IsNone}
use Rattle.gw_er7.specs.Message.{SegmentValue, IsMessage}
use Rattle.gw_er7.specs.Reading.{Reads}
use Rattle.gw_er7.specs.Written.{written}
use Rattle.gw_profile.specs.Shapes.{ProfileValue}
use Rattle.gw_profile.specs.Seen.{profile_value}
use Rattle.gw_validate.specs.Conforming.{Conforms}
use Rattle.gw_validate.specs.Fitting.{TreeValue}
use Rattle.gw_sample.specs.FewestTexts.{fewest_texts}

-- what is written for the message reads as it again
abbrev pub IsReadAgain : List SegmentValue → Type 0
IsReadAgain m = Reads (written m) m

-- a message that conforms to the profile
abbrev pub HasOne : ProfileValue → Type 0
HasOne p = (m : List SegmentValue) × IsMessage m × Conforms p m

-- each message that conforms to the profile has more segments than a message that is read
abbrev pub TooManySegments : ProfileValue → Type 0
TooManySegments p = (m : List SegmentValue) → Conforms p m → 10000 < length m

-- or more texts have to come than a message has pairs of bytes
abbrev pub TooLarge : ProfileValue → Type 0
TooLarge p = TooManySegments p ⊎ (524288 < fewest_texts p.nodes)

-- the tree's message conforms to this profile, and what is written for it reads as it again
pub record Samples (p : ProfileValue) (t : TreeValue) : Type 0 where
  pub profile : profile_value t.profile ≡ p
  pub conforms : Conforms p t.message
  pub again : IsReadAgain t.message

-- one, where there is one
abbrev pub IsSample : ProfileValue → Option TreeValue → Type 0
IsSample p found = IfSome found (Samples p)

-- none exactly where the profile is too large
abbrev pub NoneIfTooLarge : ProfileValue → Option TreeValue → Type 0
NoneIfTooLarge p found = IsNone found ↔ TooLarge p

-- What `judge` answers.
use Rattle.std.specs.Prelude.{◌≡◌, []}
use Rattle.std.specs.Arc.{arc_value}
use Rattle.gw_profile.specs.Seen.{profile_value}
use Rattle.gw_maplang.specs.Seen.{Contents, map_value}
use Rattle.gw_check.specs.Answers.{IsBroken}
use Rattle.gw_check.specs.Checked.{all_failures}
use Rattle.gw_check.specs.Kept.{CheckedValue}
use Rattle.gw_diagnostics.specs.declared.advice.Refused.{Refused}
use Rattle.gw_diagnostics.specs.declared.judged.Judged as judged
use Rattle.gw_diagnostics.specs.declared.judged.ProfilePair.{ProfilePair}

-- no rule fails, and this is the map with its profiles
pub record IsAllowed (sides : ProfilePair) (given : Contents) (checked : CheckedValue) : Type 0 where
  pub none : all_failures (profile_value (arc_value sides.source)) (profile_value (arc_value sides.target)) (map_value given) ≡ []
  pub source : checked.source ≡ arc_value sides.source
  pub target : checked.target ≡ arc_value sides.target
  pub map : checked.map ≡ given

-- some rule fails: the least failure, all of them, the fields that are passed over, and what each line makes
pub record IsRefused (sides : ProfilePair) (given : Contents) (refused : Refused) : Type 0 where
  pub broken : IsBroken (profile_value (arc_value sides.source)) (profile_value (arc_value sides.target)) (map_value given)
      refused.least refused.failures.items refused.used.unread.items refused.used.sites.items
  pub map : refused.map ≡ given

abbrev pub IsJudged : ProfilePair → Contents → judged.Judged → Type 0
IsJudged sides given (judged.TheVariants.Allowed checked) = IsAllowed sides given checked
IsJudged sides given (judged.TheVariants.Refused refused) = IsRefused sides given refused

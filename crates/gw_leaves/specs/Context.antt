-- A map with its profiles, while it is checked.
use Rattle.gw_profile.specs.Seen as profiles
use Rattle.gw_maplang.specs.Seen as maps

pub record ContextValue : Type 0 where
  pub source : profiles.Contents
  pub target : profiles.Contents
  pub map : maps.Contents

abbrev pub context_of : profiles.Contents → profiles.Contents → maps.Contents → ContextValue
context_of source target map = record { source = source; target = target; map = map }

-- What every profile keeps.
use Rattle.std.specs.HashSet.{HashSet}
use Rattle.gw_profile.specs.Deterministic.{Name}
use Rattle.gw_profile.specs.Names.{Holds}
use Rattle.gw_profile.specs.Seen.{Contents, profile_value, forest}
use Rattle.gw_profile.specs.WellFormed.{WellFormed}

-- it is well formed, and these are the names of its segments
pub record IsKept {S : Type 0} (p : Contents) (names : HashSet Name S) : Type 0 where
  pub formed : WellFormed (profile_value p)
  pub has_names : Holds names (forest p.nodes)

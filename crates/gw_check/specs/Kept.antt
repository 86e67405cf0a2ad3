-- What every checked map keeps.
use Rattle.std.specs.Prelude.{◌≡◌, List, []}
use Rattle.gw_profile.specs.WellFormed.{WellFormed}
use Rattle.gw_profile.specs.Seen as profiles
use Rattle.gw_maplang.specs.Seen as maps
use Rattle.gw_resolve.specs.declared.resolved.Item.{Item}
use Rattle.gw_resolve.specs.Resolved.{Resolved}
use Rattle.gw_resolve.specs.Naming.{resolved}
use Rattle.gw_check.specs.Checked.{all_failures}
use Rattle.gw_resolve.specs.Seen.{all_items}

-- a map with the profiles of its source and its target, and its items without labels
pub record CheckedValue : Type 0 where
  pub source : profiles.Contents
  pub target : profiles.Contents
  pub map : maps.Contents
  pub items : List Item

-- two profiles between which maps are checked
pub record BetweenValue : Type 0 where
  pub source : profiles.Contents
  pub target : profiles.Contents

-- the map without labels
abbrev pub resolved_map : CheckedValue → Resolved
resolved_map c = resolved (profiles.profile_value c.source) (profiles.profile_value c.target) (maps.map_value c.map)

-- no rule fails, and the items are those of the map
pub record IsChecked (c : CheckedValue) : Type 0 where
  pub source : WellFormed (profiles.profile_value c.source)
  pub target : WellFormed (profiles.profile_value c.target)
  pub none_fails : all_failures (profiles.profile_value c.source) (profiles.profile_value c.target) (maps.map_value c.map) ≡ []
  pub items : all_items c.map.tables c.items ≡ (resolved_map c).items

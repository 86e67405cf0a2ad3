-- The rules allow a checked map.
use Rattle.std.proofs.Common.{◌≡◌, List, [], ◌∷◌, refl}
use Rattle.gw_profile.specs.Shapes.{ProfileValue}
use Rattle.gw_profile.specs.WellFormed.{WellFormed}
use Rattle.gw_profile.specs.Seen.{profile_value}
use Rattle.gw_maplang.specs.Shapes.{MapValue}
use Rattle.gw_check.specs.Checked.{all_failures}
use Rattle.gw_maplang.specs.Lawful.{Lawful}
use Rattle.gw_maplang.specs.Seen.{map_value}
use Rattle.gw_resolve.specs.Naming.{naming_failures, resolved}
use Rattle.gw_check.specs.Typed.{failures}
use Rattle.gw_resolve.specs.Failures.{Failure, or_later}
use Rattle.gw_check.specs.Kept.{CheckedValue, resolved_map, IsChecked}
use Rattle.gw_check.proofs.Keeping.{placed_items, lawful_items}
use Rattle.gw_interp.proofs.Typed.{Allows}

neither_fails : (early later : List Failure) → or_later early later ≡ [] → (early ≡ []) × (later ≡ [])
neither_fails [] later e = (refl, e)
neither_fails (f ∷ early) later e = absurd (cc)

-- no rule fails of a lawful map over well formed profiles
pub allowed : (from to : ProfileValue) (map : MapValue) → WellFormed from → WellFormed to → Lawful map → all_failures from to map ≡ [] → Allows from to (resolved from to map)
allowed from to map formed target_formed lawful none_fails =
    let none = neither_fails (naming_failures from to map) (failures from to (resolved from to map)) none_fails in
    record {
      source_formed = formed;
      target_formed = target_formed;
      lawful = lawful_items from to map lawful target_formed none.0;
      typed = record { placed = placed_items from to map lawful none.0; none_fails = none.1 };
    }

pub checked_allows : (c : CheckedValue) → IsChecked c → Lawful (map_value c.map) → Allows (profile_value c.source) (profile_value c.target) (resolved_map c)
checked_allows c is lawful = allowed (profile_value c.source) (profile_value c.target) (map_value c.map) is.source is.target lawful is.none_fails

-- Inner texts and what is made of them, as the program holds them.
use Rattle.std.specs.Prelude.{◌≡◌, ◌+◌, ◌<◌, ◌^◌, List, [], map, length, Some, Result, Ok, Err}
use Rattle.std.specs.Arc.{arc_value}
use Rattle.std.specs.Option.{option_map}
use Rattle.std.specs.declared.alloc.Global.{Global}
use Rattle.std.specs.declared.sync.Arc.{Arc}
use denote.Ref.{Bor}
use Rattle.gw_profile.specs.Seen as profiles
use Rattle.gw_profile.specs.Seen.{profile_value}
use Rattle.gw_profile.specs.Shapes.{ProfileValue}
use Rattle.gw_maplang.specs.Seen as maps
use Rattle.gw_maplang.specs.Seen.{map_value}
use Rattle.gw_maplang.specs.Shapes.{MapValue}
use Rattle.gw_plan.specs.declared.inner_map.Broken as declared_broken
use Rattle.gw_check.specs.Kept.{CheckedValue, BetweenValue}
use Rattle.gw_check.specs.Checked.{all_failures, least, Broken, broken}
use Rattle.gw_plan.specs.declared.inner.Inner as declared
use Rattle.gw_plan.specs.declared.headers.MapHeader as headers
use Rattle.gw_plan.specs.Shapes.{MapBetween}
use Rattle.gw_plan.specs.Declarations.{BeginsAt}
use Rattle.gw_plan.specs.Held.{map_between}
use Rattle.gw_plan.specs.Inner.{Inner, MapHeader}

abbrev pub inner : declared.Inner → Inner
inner i = record { at = i.at; lines = map (λ line. line.now) i.lines.now; stopped = i.stopped }

-- its lines, and the faults in them, can be numbered
abbrev pub IsNumbered : Inner → Type 0
IsNumbered p = p.at + length p.lines + 4294967296 < 2 ^ 64

abbrev pub map_header : headers.MapHeader → MapHeader
map_header h = record { line = h.line; name = h.name.now; source = h.source.now; target = h.target.now }

-- profiles and maps, without where they lie in memory
abbrev pub shared_profile : Arc profiles.Contents Global → ProfileValue
shared_profile p = profile_value (arc_value p)

abbrev pub borrowed_profile : Bor (Arc profiles.Contents Global) → ProfileValue
borrowed_profile p = shared_profile p.now

abbrev pub shared_map : Arc CheckedValue Global → MapBetween
shared_map m = map_between (arc_value m)

-- a fault as it was found, which isn't an allocation failure
abbrev pub IsTextFault : {E : Type 0} → E → E → E → Type 0
IsTextFault memory fault found = (found ≡ fault) × (fault ≡ memory → ⊥)

-- what was made, seen by view, is what a text spells
abbrev pub Spells : {X Y E : Type 0} → (X → Y) → Result X E → Result Y E → Type 0
Spells view (Ok x) said = said ≡ Ok (view x)
Spells view (Err e) said = said ≡ Err e

-- a map with the profiles that were found for it, seen by view
abbrev pub with_found : {A : Type 0} → (A → ProfileValue) → MapValue → A × A → MapBetween
with_found view m found = record { source = view found.0; target = view found.1; map = m }

-- a map with the profiles between which it is checked
abbrev pub with_between : MapValue → BetweenValue → MapBetween
with_between m b = record { source = profile_value b.source; target = profile_value b.target; map = m }

-- a map that was checked is this one, with its profiles, and no rule fails
pub record IsCheckedSo (source target : profiles.Contents) (m : maps.Contents) (c : CheckedValue) : Type 0 where
  pub source_is : c.source ≡ source
  pub target_is : c.target ≡ target
  pub map_is : c.map ≡ m
  pub none_fails : all_failures (profile_value source) (profile_value target) (map_value m) ≡ []

abbrev pub broken_rule : declared_broken.Broken → Broken
broken_rule b = record { rule = b.rule; line = b.line }

-- the map, checked, or the rule of the least failure, with its line
abbrev pub Checks : profiles.Contents → profiles.Contents → maps.Contents → Result CheckedValue declared_broken.Broken → Type 0
Checks source target m (Ok c) = IsCheckedSo source target m c
Checks source target m (Err b) = option_map broken (least (all_failures (profile_value source) (profile_value target) (map_value m))) ≡ Some (broken_rule b)

-- a map of a plan is this one, and begins at a profile that was declared above
pub record IsTaken (profiles : List ProfileValue) (m : maps.Contents) (c : CheckedValue) : Type 0 where
  pub map_is : c.map ≡ m
  pub source : BeginsAt profiles c

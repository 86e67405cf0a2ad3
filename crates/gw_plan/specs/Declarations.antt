-- The profiles and maps that a plan has declared so far.
use Rattle.std.specs.Prelude.{◌≡◌, ℕ, Bool, ◌&&◌, List, [], ◌∷◌, ◌++◌, map, Option, Some, None, bytes_eq}
use Rattle.std.specs.List.{AllByRecursion}
use Rattle.std.specs.Map.{lookup}
use Rattle.std.specs.Global.{Vec}
use Rattle.gw_profile.specs.Seen as profiles
use Rattle.gw_profile.specs.Seen.{profile_value}
use Rattle.gw_profile.specs.Shapes.{ProfileValue}
use Rattle.gw_check.specs.Kept.{CheckedValue, BetweenValue}
use Rattle.gw_plan.specs.Shapes.{MapBetween, named}
use Rattle.gw_plan.specs.Held.{map_between}

-- the borrowed profiles and maps, in their order
pub record DeclarationsHeld : Type 0 where
  pub profiles : List profiles.Contents
  pub maps : List CheckedValue

abbrev pub empty : DeclarationsHeld
empty = record { profiles = []; maps = [] }

abbrev pub with_profile : DeclarationsHeld → profiles.Contents → DeclarationsHeld
with_profile a p = record a { profiles = a.profiles ++ p ∷ [] }

abbrev pub with_map : DeclarationsHeld → CheckedValue → DeclarationsHeld
with_map a m = record a { maps = a.maps ++ m ∷ [] }

abbrev pub profiles_of : DeclarationsHeld → List ProfileValue
profiles_of a = map profile_value a.profiles

abbrev pub maps_of : DeclarationsHeld → List MapBetween
maps_of a = map map_between a.maps

-- ---- by name

abbrev pub named_profile : List ℕ → List ProfileValue → Option ProfileValue
named_profile name profiles = named (λ p. p.name) name profiles

abbrev pub named_map : List ℕ → List MapBetween → Option MapBetween
named_map name maps = named (λ b. b.map.name) name maps

-- no profile was declared under the name of this one
abbrev pub IsNewProfile : DeclarationsHeld → profiles.Contents → Type 0
IsNewProfile a p = named_profile p.name (profiles_of a) ≡ None

-- the profile at which the map begins is the one of its name among these
abbrev pub BeginsAt : List ProfileValue → CheckedValue → Type 0
BeginsAt profiles m = named_profile m.source.name profiles ≡ Some (profile_value m.source)

-- no map was declared under the name of this one, and its source is a declared profile
pub record IsNewMap (a : DeclarationsHeld) (m : CheckedValue) : Type 0 where
  pub new : named_map m.map.name (maps_of a) ≡ None
  pub source : BeginsAt (profiles_of a) m

-- ---- as the program holds them

-- it is between the profiles of these names
pub record IsBetween (profiles : List ProfileValue) (source target : List ℕ) (b : BetweenValue) : Type 0 where
  pub source_is : named_profile source profiles ≡ Some (profile_value b.source)
  pub target_is : named_profile target profiles ≡ Some (profile_value b.target)

abbrev pub Names : Type 0
Names = Vec ℕ × Vec ℕ

abbrev pub names_eq : Names → Names → Bool
names_eq x y = bytes_eq x.0.items y.0.items && bytes_eq x.1.items y.1.items

-- each is kept by the names of its profiles
abbrev pub AreBetween : List ProfileValue → List (Names × BetweenValue) → Type 0
AreBetween profiles kept = (k : Names) (b : BetweenValue) → Some b ≡ lookup (names_eq k) kept → IsBetween profiles k.0.items k.1.items b

-- each is held by its own name, each map begins at a profile that is held, and maps are checked between such profiles
pub record AreDeclared (profiles : List (List ℕ × profiles.Contents)) (maps : List (List ℕ × CheckedValue)) (kept : List (Names × BetweenValue)) : Type 0 where
  pub profile_names : AllByRecursion (λ e. e.0 ≡ e.1.name) profiles
  pub map_names : AllByRecursion (λ e. e.0 ≡ e.1.map.name) maps
  pub sources : AllByRecursion (λ e. BeginsAt (map (λ p. profile_value p.1) profiles) e.1) maps
  pub between : AreBetween (map (λ p. profile_value p.1) profiles) kept

-- The profiles and maps of a plan: texts of their own between `begin` and `stop`.
use Rattle.std.specs.Prelude.{ℕ, ◌+◌, Bool, true, false, ◌&&◌, not, if◌then◌else◌, List, [], ◌∷◌, ◌++◌, length, Option, Some, None, codes, is_some, Result, Ok, Err}
use Rattle.std.specs.Option.{option_map}
use Rattle.gw_lines.specs.Words.{Word, words}
use Rattle.gw_lines.specs.Parts.{◌>>=◌, name_at, behind, with_all}
use Rattle.gw_lines.specs.Reading.{unless}
use Rattle.gw_profile.specs.Shapes.{ProfileValue}
use Rattle.gw_profile.specs.Whole as profile_texts
use Rattle.gw_profile.specs.Numbers as profile_numbers
use Rattle.gw_profile.specs.declared.fault.ProfileFault as profile_faults
use Rattle.gw_maplang.specs.Shapes.{MapValue}
use Rattle.gw_maplang.specs.Whole as map_texts
use Rattle.gw_maplang.specs.Numbers as map_numbers
use Rattle.gw_maplang.specs.declared.fault.MapFault as map_faults
use Rattle.gw_check.specs.Checked.{all_failures, least, Broken}
use Rattle.gw_check.specs.Checked as checked
use Rattle.gw_plan.specs.declared.fault.PlanFault.{PlanFault}
use Rattle.gw_plan.specs.declared.fault.PlanFault.TheVariants.{Syntax, Profile, Map, Check, Duplicate, UnknownName}
use Rattle.gw_plan.specs.declared.form.Kind.{Kind}
use Rattle.gw_plan.specs.declared.form.Kind.TheVariants as kinds
use Rattle.gw_plan.specs.Joined.{joined}
use Rattle.gw_plan.specs.Numbers.{earlier, earliest}
use Rattle.gw_plan.specs.Shapes.{MapBetween}
use Rattle.gw_plan.specs.Declarations.{named_profile, named_map}
use Rattle.gw_plan.specs.Draft.{Draft, closed}

-- The lines from behind a `begin` line, of this number, up to the `stop` line; or up to the text's end, where none follows.
pub record Inner : Type 0 where
  pub at : ℕ
  pub lines : List (List ℕ)
  pub stopped : Bool

-- the inner text: each of its lines with its end
abbrev pub text : Inner → List ℕ
text p = joined p.lines

-- ---- faults that any inner text may have

-- the first line, from this number on, that has a byte or a quote that no line may have
abbrev pub broken : ℕ → List (List ℕ) → Option PlanFault
broken at [] = None
broken at (line ∷ lines) = if is_some (words line) then broken (at + 1) lines else Some (Syntax at)

-- no `stop` line follows: the line after the last
abbrev pub unstopped : Inner → Option PlanFault
unstopped p = if p.stopped then None else Some (Syntax (p.at + length p.lines + 1))

abbrev pub common : Inner → Option PlanFault
common p = earliest (broken (p.at + 1) p.lines) (unstopped p)

-- the first line, from this number on, that isn't passed over
abbrev pub said_or : ℕ → Option (List Word) → Option (ℕ × List Word) → Option (ℕ × List Word)
said_or at None next = None
said_or at (Some []) next = next
said_or at (Some (w ∷ ws)) next = Some (at, w ∷ ws)

abbrev pub first_said : ℕ → List (List ℕ) → Option (ℕ × List Word)
first_said at [] = None
first_said at (line ∷ lines) = said_or at (words line) (first_said (at + 1) lines)

-- a name behind a keyword
abbrev pub name_behind : List ℕ → List Word → Option (List ℕ × List Word)
name_behind keyword words = do
  more ← behind keyword words
  name_at more

-- ---- profiles

-- the name that a line of this number says, profile NAME
abbrev pub profile_header_of : ℕ × List Word → Option (ℕ × List ℕ)
profile_header_of said = do
  name ← name_behind (codes "profile") said.1
  with_all name.1 (said.0, name.0)

-- the name that the first line says, with that line's number
abbrev pub profile_header : Inner → Option (ℕ × List ℕ)
profile_header p = first_said (p.at + 1) p.lines >>= profile_header_of

-- the line of a fault in its text, 0 where it has none
abbrev pub profile_line : profile_faults.ProfileFault → ℕ
profile_line (profile_faults.TheVariants.Syntax line) = line
profile_line (profile_faults.TheVariants.Usage line) = line
profile_line (profile_faults.TheVariants.Duplicate line) = line
profile_line (profile_faults.TheVariants.UnknownTable line) = line
profile_line (profile_faults.TheVariants.EmptyGroup line) = line
profile_line (profile_faults.TheVariants.TooDeep line) = line
profile_line fault = 0

-- a fault of the whole profile, after all of its lines
abbrev pub is_of_whole : profile_faults.ProfileFault → Bool
is_of_whole (profile_faults.TheVariants.EmptyGroup line) = true
is_of_whole (profile_faults.TheVariants.Ambiguous name) = true
is_of_whole profile_faults.TheVariants.Header = true
is_of_whole fault = false

-- The fault of an inner profile. If no `stop` follows, the profile isn't whole.
abbrev pub profile_fault : Inner → profile_faults.ProfileFault → PlanFault
profile_fault p fault =
    if is_of_whole fault && not p.stopped then Syntax (p.at + length p.lines + 1)
    else Profile (p.at + profile_line fault) (profile_numbers.number fault)

-- a name that a profile above has
abbrev pub duplicate_profile : List ProfileValue → Option (ℕ × List ℕ) → Option PlanFault
duplicate_profile profiles None = None
duplicate_profile profiles (Some head) = if is_some (named_profile head.1 profiles) then Some (Duplicate head.0) else None

abbrev pub profile_faults_beside : List ProfileValue → Inner → Option PlanFault
profile_faults_beside profiles p = earliest (common p) (duplicate_profile profiles (profile_header p))

abbrev pub profile_said : Option PlanFault → Inner → Result ProfileValue profile_faults.ProfileFault → Result ProfileValue PlanFault
profile_said beside p (Ok profile) = unless beside profile
profile_said beside p (Err fault) = Err (earlier beside (profile_fault p fault))

-- the profile that an inner text gives below these, or its fault
abbrev pub inner_profile : List ProfileValue → Inner → Result ProfileValue PlanFault
inner_profile profiles p = profile_said (profile_faults_beside profiles p) p (profile_texts.spelled (text p))

-- ---- maps

-- what the first line of a map says, with its number
pub record MapHeader : Type 0 where
  pub line : ℕ
  pub name : List ℕ
  pub source : List ℕ
  pub target : List ℕ

-- from SOURCE to TARGET, the last words of a line
abbrev pub profiles_at : List Word → Option (List ℕ × List ℕ)
profiles_at words = do
  source ← name_behind (codes "from") words
  target ← name_behind (codes "to") source.1
  with_all target.1 (source.0, target.0)

-- what a line of this number says, map NAME from SOURCE to TARGET
abbrev pub map_header_of : ℕ × List Word → Option MapHeader
map_header_of said = do
  name ← name_behind (codes "map") said.1
  named_profiles ← profiles_at name.1
  Some (record { line = said.0; name = name.0; source = named_profiles.0; target = named_profiles.1 })

abbrev pub map_header : Inner → Option MapHeader
map_header p = first_said (p.at + 1) p.lines >>= map_header_of

abbrev pub map_line : map_faults.MapFault → ℕ
map_line (map_faults.TheVariants.Syntax line) = line
map_line (map_faults.TheVariants.UnknownTable line) = line
map_line (map_faults.TheVariants.BadConstant line) = line
map_line (map_faults.TheVariants.Duplicate line) = line
map_line (map_faults.TheVariants.TooDeep line) = line
map_line fault = 0

abbrev pub map_fault : Inner → map_faults.MapFault → PlanFault
map_fault p fault = Map (p.at + map_line fault) (map_numbers.number fault)

-- a name that a map above has
abbrev pub duplicate_map : List MapBetween → MapHeader → Option PlanFault
duplicate_map maps head = if is_some (named_map head.name maps) then Some (Duplicate head.line) else None

-- both of its profiles were declared above
abbrev pub is_known : List ProfileValue → MapHeader → Bool
is_known profiles head = is_some (named_profile head.source profiles) && is_some (named_profile head.target profiles)

abbrev pub unknown_profile : List ProfileValue → MapHeader → Option PlanFault
unknown_profile profiles head = if is_known profiles head then None else Some (UnknownName head.line)

abbrev pub header_faults : List ProfileValue → List MapBetween → Option MapHeader → Option PlanFault
header_faults profiles maps None = None
header_faults profiles maps (Some head) = earliest (duplicate_map maps head) (unknown_profile profiles head)

abbrev pub map_faults_beside : List ProfileValue → List MapBetween → Inner → Option PlanFault
map_faults_beside profiles maps p = earliest (common p) (header_faults profiles maps (map_header p))

-- the map with the profiles that it names
abbrev pub between : List ProfileValue → MapValue → Option MapBetween
between profiles m = do
  source ← named_profile m.source profiles
  target ← named_profile m.target profiles
  Some (record { source = source; target = target; map = m })

-- the least rule that fails, at its least line
abbrev pub check_fault : Inner → Option Broken → Option PlanFault
check_fault p least = option_map (λ b. Check (p.at + b.line) b.rule) least

-- A map with its profiles, if they were declared above. The faults beside it are those of its lines and of its first line. If no `stop` follows, the map isn't
-- whole, and no rule of the checker applies to it.
abbrev pub map_checked : Option PlanFault → Inner → MapValue → Option MapBetween → Result MapBetween PlanFault
map_checked beside p m None = Err (earlier beside (UnknownName (p.at + m.line)))
map_checked beside p m (Some b) =
    if p.stopped then unless (earliest beside (check_fault p (option_map checked.broken (least (all_failures b.source b.target m))))) b
    else Err (earlier beside (Syntax (p.at + length p.lines + 1)))

abbrev pub checked_between : List ProfileValue → Option PlanFault → Inner → MapValue → Result MapBetween PlanFault
checked_between profiles beside p m = map_checked beside p m (between profiles m)

abbrev pub map_said : List ProfileValue → Option PlanFault → Inner → Result MapValue map_faults.MapFault → Result MapBetween PlanFault
map_said profiles beside p (Ok m) = checked_between profiles beside p m
map_said profiles beside p (Err fault) = Err (earlier beside (map_fault p fault))

-- the map that an inner text gives below these, with its profiles, or its fault
abbrev pub inner_map : List ProfileValue → List MapBetween → Inner → Result MapBetween PlanFault
inner_map profiles maps p = map_said profiles (map_faults_beside profiles maps p) p (map_texts.spelled (text p))

-- ---- what inner texts make of a plan

abbrev pub with_inner_profile : Draft → Result ProfileValue PlanFault → Result Draft PlanFault
with_inner_profile d (Ok profile) = Ok (record (closed d) { profiles = d.profiles ++ profile ∷ [] })
with_inner_profile d (Err fault) = Err fault

abbrev pub takes_profile : Draft → Inner → Result Draft PlanFault
takes_profile d p = with_inner_profile d (inner_profile d.profiles p)

abbrev pub with_inner_map : Draft → Result MapBetween PlanFault → Result Draft PlanFault
with_inner_map d (Ok b) = Ok (record (closed d) { maps = d.maps ++ b ∷ [] })
with_inner_map d (Err fault) = Err fault

abbrev pub takes_map : Draft → Inner → Result Draft PlanFault
takes_map d p = with_inner_map d (inner_map d.profiles d.maps p)

abbrev pub takes_part : Draft → Kind → Inner → Result Draft PlanFault
takes_part d kinds.Profile p = takes_profile d p
takes_part d kinds.Map p = takes_map d p

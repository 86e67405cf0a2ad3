-- What is left of a forest after one name.
use Rattle.std.specs.Prelude.{ℕ, zero, suc, ◌-◌, Bool, true, false, Option, Some, None}
use Rattle.std.specs.Str.{bytes_eq}
use Rattle.gw_profile.specs.Shapes.{Forest, nothing, segment, group, SegmentValue, GroupValue}
use Rattle.gw_profile.specs.Deterministic.{Name}

-- a node of which these occurrences are left
abbrev pub seg : SegmentValue → ℕ → Option ℕ → Forest → Forest
seg s low high rest = segment (record s { card = record { min = low; max = high } }) rest

abbrev pub grp : GroupValue → ℕ → Option ℕ → Forest → Forest → Forest
grp g low high nodes rest = group (record g { card = record { min = low; max = high } }) nodes rest

-- one less is allowed
abbrev pub less : Option ℕ → Option ℕ
less None = None
less (Some m) = Some (m - 1)

-- one list of nodes behind another
abbrev pub append : Forest → Forest → Forest
append nothing h = h
append (segment s rest) h = segment s (append rest h)
append (group g nodes rest) h = group g nodes (append rest h)

-- whether one more occurrence is allowed
abbrev pub has_room : Option ℕ → Bool
has_room None = true
has_room (Some zero) = false
has_room (Some (suc m)) = true

abbrev pub when : Bool → Option Forest → Option Forest
when true o = o
when false o = None

abbrev pub pass : ℕ → Option Forest → Option Forest
pass zero o = o
pass (suc n) o = None

abbrev pub or_else : Option Forest → Option Forest → Option Forest
or_else None o = o
or_else (Some f) o = Some f

abbrev pub before : Forest → Option Forest → Option Forest
before h None = None
before h (Some f) = Some (append f h)

-- what is left after the name x, where the forest can begin with it
abbrev pub after_name : Forest → Name → Option Forest
after_name nothing x = None
after_name (segment s rest) x =
    or_else (when (has_room s.card.max) (when (bytes_eq x s.name) (Some (seg s (s.card.min - 1) (less s.card.max) rest)))) (pass s.card.min (after_name rest x))
after_name (group g nodes rest) x =
    or_else (when (has_room g.card.max) (before (grp g (g.card.min - 1) (less g.card.max) nodes rest) (after_name nodes x))) (pass g.card.min (after_name rest x))

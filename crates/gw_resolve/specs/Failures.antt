-- Failures of a map: the number of a rule, and what breaks it.
use Rattle.std.specs.Prelude.{ℕ, Bool, false, if◌then◌else◌, List, [], ◌∷◌, Option, None}
use Rattle.gw_resolve.specs.Intervals.{Interval}

-- A line of a map, and the part of the target that fails: what the line makes, a node within that which nothing gives, by its number, or a field, component
-- or subcomponent of the segment, 0 where the whole is meant; whether no item and no rule gives it; and how often it comes, where the rule fails by that.
pub record Mark : Type 0 where
  pub line : ℕ
  pub child : Option ℕ
  pub missing : Bool
  pub field : ℕ
  pub comp : ℕ
  pub sub : ℕ
  pub count : Option Interval

pub record Failure : Type 0 where
  pub rule : ℕ
  pub mark : Mark

-- all that the line makes
abbrev pub at_line : ℕ → Mark
at_line line = record { line = line; child = None; missing = false; field = 0; comp = 0; sub = 0; count = None }

-- the rule fails at the mark where this holds
abbrev pub fails : ℕ → Mark → Bool → List Failure
fails rule mark broken = if broken then record { rule = rule; mark = mark } ∷ [] else []

-- these, only where this holds
abbrev pub where_so : Bool → List Failure → List Failure
where_so holds those = if holds then those else []

-- the later ones only where there are no earlier ones
abbrev pub or_later : List Failure → List Failure → List Failure
or_later [] later = later
or_later (f ∷ fs) later = f ∷ fs

-- The numbers and lines of faults, and their order.
use Rattle.std.specs.Prelude.{ℕ, ◌==◌, Bool, ◌&&◌, ◌||◌, nat_lt, if◌then◌else◌, Option, Some, None}
use Rattle.gw_plan.specs.declared.fault.PlanFault.{PlanFault}
use Rattle.gw_plan.specs.declared.fault.PlanFault.TheVariants.{Memory, Syntax, Profile, Map, Check, Duplicate, UnknownName, WrongMap, TooLarge}

abbrev pub number : PlanFault → ℕ
number Memory = 1
number (Syntax line) = 2
number (Profile line fault) = 3
number (Map line fault) = 4
number (Check line rule) = 5
number (Duplicate line) = 6
number (UnknownName line) = 7
number (WrongMap line) = 8
number TooLarge = 9

abbrev pub line_of : PlanFault → ℕ
line_of Memory = 0
line_of (Syntax line) = line
line_of (Profile line fault) = line
line_of (Map line fault) = line
line_of (Check line rule) = line
line_of (Duplicate line) = line
line_of (UnknownName line) = line
line_of (WrongMap line) = line
line_of TooLarge = 0

-- by line, then by number
abbrev pub is_before : PlanFault → PlanFault → Bool
is_before one other = nat_lt (line_of one) (line_of other) || ((line_of one == line_of other) && nat_lt (number one) (number other))

-- the earlier of a fault that may be there and one that is
abbrev pub earlier : Option PlanFault → PlanFault → PlanFault
earlier None fault = fault
earlier (Some other) fault = if is_before other fault then other else fault

-- the earliest of two faults, where there is one
abbrev pub earliest : Option PlanFault → Option PlanFault → Option PlanFault
earliest found None = found
earliest found (Some fault) = Some (earlier found fault)

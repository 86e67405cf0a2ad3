-- The numbers of the faults.
use Rattle.std.specs.Prelude.{ℕ}
use Rattle.gw_profile.specs.declared.fault.ProfileFault.{ProfileFault}
use Rattle.gw_profile.specs.declared.fault.ProfileFault.TheVariants.{Memory, Syntax, Usage, Duplicate, UnknownTable, EmptyGroup, Ambiguous, Header, TooDeep, TooLarge}

abbrev pub number : ProfileFault → ℕ
number Memory = 1
number (Syntax at) = 2
number (Usage at) = 3
number (Duplicate at) = 4
number (UnknownTable at) = 5
number (EmptyGroup at) = 6
number (Ambiguous name) = 7
number Header = 8
number (TooDeep at) = 9
number TooLarge = 10

-- The numbers of the faults.
use Rattle.std.specs.Prelude.{ℕ}
use Rattle.gw_maplang.specs.declared.fault.MapFault.{MapFault}
use Rattle.gw_maplang.specs.declared.fault.MapFault.TheVariants.{Memory, Syntax, UnknownTable, BadConstant, Duplicate, TooDeep, TooLarge}

abbrev pub number : MapFault → ℕ
number Memory = 1
number (Syntax at) = 2
number (UnknownTable at) = 3
number (BadConstant at) = 4
number (Duplicate at) = 5
number (TooDeep at) = 6
number TooLarge = 7

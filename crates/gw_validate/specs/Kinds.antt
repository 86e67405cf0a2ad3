-- The kinds of breach, by their numbers, and their condition codes (HL7 v2.5.1 chapter 2, segment ERR, table 0357).
use Rattle.std.specs.Prelude.{ℕ}
use Rattle.gw_validate.specs.declared.breach.Kind.{Kind}
use Rattle.gw_validate.specs.declared.breach.Kind.TheVariants.{OutOfOrder, MissingSegment, MissingValue, Forbidden, TooManyReps, TooLong, NotInTable}

-- the number of a kind, by which kinds at one place are in order
abbrev pub number_of : Kind → ℕ
number_of OutOfOrder = 1
number_of MissingSegment = 2
number_of MissingValue = 3
number_of Forbidden = 4
number_of TooManyReps = 5
number_of TooLong = 6
number_of NotInTable = 7

-- segment sequence error, required field missing, data type error, table value not found
abbrev pub code_of : Kind → ℕ
code_of OutOfOrder = 100
code_of MissingSegment = 100
code_of MissingValue = 101
code_of Forbidden = 102
code_of TooManyReps = 102
code_of TooLong = 102
code_of NotInTable = 103

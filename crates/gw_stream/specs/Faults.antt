-- The faults that end a run.
use Rattle.std.specs.Prelude.{ℕ}
use Rattle.gw_stream.specs.declared.fault.RunFault.{RunFault}
use Rattle.gw_stream.specs.declared.fault.RunFault.TheVariants.{Memory, Read, Write, Frame, Line, Turns, Unsettled, Withheld}

-- the number of a fault
abbrev pub number_of : RunFault → ℕ
number_of Memory = 1
number_of Read = 2
number_of Write = 3
number_of (Frame number) = 4
number_of (Line n) = 5
number_of Turns = 6
number_of Unsettled = 7
number_of Withheld = 8

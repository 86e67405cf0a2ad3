-- The numbers of the faults.
use Rattle.std.specs.Prelude.{ℕ}
use Rattle.gw_er7.specs.declared.fault.ReadFault.{ReadFault}
use Rattle.gw_er7.specs.declared.fault.ReadFault.TheVariants.{Memory, Empty, Control, NoHeader, BadDelimiters, BadSegment, TooManySegments}

abbrev pub number : ReadFault → ℕ
number Memory = 1
number Empty = 2
number (Control at) = 3
number NoHeader = 4
number BadDelimiters = 5
number (BadSegment at) = 6
number TooManySegments = 7

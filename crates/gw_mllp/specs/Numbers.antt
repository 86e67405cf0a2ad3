-- The numbers of the faults.
use Rattle.std.specs.Prelude.{ℕ}
use Rattle.gw_mllp.specs.declared.fault.FrameFault.{FrameFault}
use Rattle.gw_mllp.specs.declared.fault.FrameFault.TheVariants.{Memory, TooLong, Truncated}

abbrev pub number : FrameFault → ℕ
number Memory = 1
number TooLong = 2
number Truncated = 3

-- The numbers by which faults are reported, and the fault that a disk's becomes.
use Rattle.std.specs.Prelude.{ℕ}
use Rattle.gw_log.specs.declared.fault.LogFault.{LogFault}
use Rattle.gw_log.specs.declared.fault.LogFault.TheVariants.{Memory, Device, Full, TooLong, Damaged, Empty, Taken, Missing}
use Rattle.gw_log.specs.declared.disk.DiskFault.{DiskFault}
use Rattle.gw_log.specs.declared.disk.DiskFault.TheVariants as disk

abbrev pub number : LogFault → ℕ
number Memory = 1
number Device = 2
number Full = 3
number TooLong = 4
number (Damaged segment at) = 5
number Empty = 6
number Taken = 7
number Missing = 8

abbrev pub of_disk : DiskFault → LogFault
of_disk disk.Memory = Memory
of_disk disk.Failed = Device

use Rattle.std.proofs.Common.{◌≡◌, ◌≤◌, take}
use Rattle.gw_log.specs.File.{nonzero}
use Rattle.gw_log.proofs.writing.count_nonzero.Given as goal

abbrev pub invariant-loop-byte : goal.invariant-loop-byte
invariant-loop-byte l = record { counted : l.count ≡ nonzero (take l.byte-index l.bytes); few : l.count ≤ l.byte-index }

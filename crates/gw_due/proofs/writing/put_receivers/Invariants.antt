use Rattle.std.proofs.Common.{◌≡◌, ◌++◌, length, take}
use Rattle.std.specs.Prelude.{flat_map}
use Rattle.std.specs.Int.{w32, to_be_bytes}
use Rattle.gw_due.proofs.writing.put_receivers.Given as goal

abbrev pub invariant-loop-receiver : goal.invariant-loop-receiver
invariant-loop-receiver l = l.out.items ≡ l.fn.out.items ++ (to_be_bytes w32 (length l.to) ++ flat_map (to_be_bytes w32) (take l.receiver-index l.to))

use Rattle.std.proofs.Common.{◌≡◌, ◌++◌, length, take}
use Rattle.std.specs.Prelude.{flat_map}
use Rattle.std.specs.List.{AllByRecursion}
use Rattle.std.specs.Int.{w32, to_be_bytes}
use Rattle.gw_due.specs.Checkpoint.{receiver, ReceiverFits}
use Rattle.gw_due.proofs.checkpoint.put_all.Given as goal

abbrev pub invariant-loop-one : goal.invariant-loop-one
invariant-loop-one l = record {
  spelled : l.out.items ≡ l.fn.out.items ++ (to_be_bytes w32 (length l.all) ++ flat_map receiver (take l.one-index l.all));
  fit : AllByRecursion ReceiverFits (take l.one-index l.all);
}

use Rattle.std.proofs.Common.{◌≡◌, ◌++◌, map}
use Rattle.gw_plan.specs.Seen.{receiver_value, receiver_entry}
use Rattle.gw_plan.proofs.receivers.Receivers.into_all.Given as goal

abbrev pub invariant-loop-name : goal.invariant-loop-name
invariant-loop-name l = map receiver_value l.all.items ++ map receiver_entry l.name-iterator ≡ l.fn.self

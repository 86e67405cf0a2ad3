use Rattle.std.proofs.Common.{◌≡◌, drop}
use Rattle.gw_ledger.specs.Backlogs.{left_from}
use Rattle.gw_ledger.proofs.backlogs.left_from.Given as goal

abbrev pub invariant-loop-one : goal.invariant-loop-one
invariant-loop-one l = left_from l.number l.next (drop l.one-index l.receivers) ≡ left_from l.number l.next l.receivers

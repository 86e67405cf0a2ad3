use Rattle.std.proofs.Common.{◌≡◌, drop}
use Rattle.gw_ledger.specs.Ledgers.{needed_by}
use Rattle.gw_ledger.proofs.needs.needed_by.Given as goal

abbrev pub invariant-loop-one : goal.invariant-loop-one
invariant-loop-one l = needed_by l.least (drop l.one-index l.receivers) ≡ needed_by l.place l.receivers

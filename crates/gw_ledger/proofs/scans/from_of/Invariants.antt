use Rattle.std.proofs.Common.{◌≡◌, drop}
use Rattle.gw_ledger.specs.Finding.{from_of}
use Rattle.gw_ledger.proofs.scans.from_of.Given as goal

abbrev pub invariant-loop-one : goal.invariant-loop-one
invariant-loop-one l = from_of l.number (drop l.one-index l.receivers) ≡ from_of l.number l.receivers

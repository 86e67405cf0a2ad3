use Rattle.std.proofs.Common.{◌≡◌, drop}
use Rattle.gw_ledger.specs.Backlogs.{is_at_rest}
use Rattle.gw_ledger.proofs.backlogs.is_at_rest.Given as goal

abbrev pub invariant-loop-one : goal.invariant-loop-one
invariant-loop-one l = is_at_rest l.number l.place (drop l.one-index l.receivers) ≡ is_at_rest l.number l.place l.receivers

use Rattle.std.proofs.Common.{◌≡◌, drop}
use Rattle.gw_ledger.specs.Marks.{young_from}
use Rattle.gw_ledger.proofs.needs.young_from.Given as goal

abbrev pub invariant-loop-file : goal.invariant-loop-file
invariant-loop-file l = young_from l.least l.since (drop l.file-index l.files) ≡ young_from l.place l.since l.files

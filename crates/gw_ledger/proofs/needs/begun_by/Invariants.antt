use Rattle.std.proofs.Common.{◌≡◌, drop}
use Rattle.gw_ledger.specs.Marks.{begun_by}
use Rattle.gw_ledger.proofs.needs.begun_by.Given as goal

abbrev pub invariant-loop-file : goal.invariant-loop-file
invariant-loop-file l = begun_by l.place l.from (drop l.file-index l.files) ≡ begun_by l.place 0 l.files

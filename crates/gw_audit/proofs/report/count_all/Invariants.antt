use Rattle.std.proofs.Common.{◌≡◌, take}
use Rattle.std.specs.Prelude.{count_by}
use Rattle.gw_gate.specs.Chapters.{all_entries}
use Rattle.gw_audit.specs.Report.{is_of}
use Rattle.gw_audit.proofs.report.count_all.Given as goal

abbrev pub invariant-loop-part : goal.invariant-loop-part
invariant-loop-part l = l.all ≡ count_by (is_of l.kind) (all_entries (take l.part-index l.parts))

use Rattle.std.proofs.Common.{◌≡◌, length, take}
use Rattle.std.specs.Prelude.{flat_map}
use Rattle.gw_audit.specs.own.Joins.{Marks, notes_of}
use Rattle.gw_run.specs.Passes.{receipts}
use Rattle.gw_audit.proofs.audit.marks_of.Given as goal

abbrev pub invariant-loop-pass : goal.invariant-loop-pass
invariant-loop-pass g l = record {
  marks : Marks l.since (flat_map receipts (notes_of (take l.pass-index l.passes))) l.marks.items;
  count : length l.marks.items ≡ l.count;
}

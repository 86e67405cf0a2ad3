use Rattle.std.proofs.Common.{◌≡◌, ◌+◌}
use Rattle.gw_run.specs.Passes.{part_count, receipt_count}
use Rattle.gw_audit.proofs.join.merged.Given as goal

abbrev pub invariant-loop-pass : goal.invariant-loop-pass
invariant-loop-pass g l = record {
  parts : l.all.parts ≡ l.fn.first.parts + part_count l.yielded;
  amount : l.all.amount ≡ l.fn.first.amount + receipt_count l.yielded;
}

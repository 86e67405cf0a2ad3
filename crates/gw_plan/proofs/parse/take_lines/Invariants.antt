use Rattle.std.proofs.Common.{◌≡◌, ◌+◌, drop}
use Rattle.gw_plan.specs.Seen.{now_all}
use Rattle.gw_plan.specs.Whole.{reads}
use Rattle.gw_plan.specs.own.SoFar.{draft_value, IsKept}
use Rattle.gw_plan.proofs.parse.take_lines.Given as goal

abbrev pub invariant-loop-i : goal.invariant-loop-i
invariant-loop-i l = record {
  same : reads (draft_value l.initial.draft) 0 1 (now_all l.all) ≡ reads (draft_value l.draft) l.skip (l.i + 1) (now_all (drop l.i l.all));
  kept : IsKept l.draft;
}

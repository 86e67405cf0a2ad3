use Rattle.std.proofs.Common.{◌≡◌, ◌++◌, drop, take}
use Rattle.std.specs.List.{before_first, list_any}
use Rattle.gw_plan.specs.Line.{is_stop}
use Rattle.gw_plan.specs.Seen.{now_all}
use Rattle.gw_plan.proofs.parse.inner_at.Given as goal

abbrev pub invariant-loop-i : goal.invariant-loop-i
invariant-loop-i l = record {
  before : before_first is_stop (now_all l.more) ≡ now_all (take l.i l.more) ++ before_first is_stop (now_all (drop l.i l.more));
  any : list_any is_stop (now_all l.more) ≡ list_any is_stop (now_all (drop l.i l.more));
}

use Rattle.std.proofs.Common.{◌≡◌, take, drop, map}
use Rattle.gw_profile.specs.Fault.{has_repeat}
use Rattle.gw_profile.specs.Seen.{now_all}
use Rattle.gw_profile.proofs.Kept.{repeats_behind}
use Rattle.gw_profile.proofs.table.Table.of.Given as goal

abbrev pub invariant-loop-value : goal.invariant-loop-value
invariant-loop-value l = record {
  held : map (λ v. v.items) l.held.keys ≡ now_all (take l.value-index l.values);
  rest : has_repeat (now_all l.values) ≡ repeats_behind (map (λ v. v.items) l.held.keys) (now_all (drop l.value-index l.values));
}

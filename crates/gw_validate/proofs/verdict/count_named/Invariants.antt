use Rattle.std.proofs.Common.{◌≡◌, ◌≤◌, take}
use Rattle.std.specs.List.{count_by}
use Rattle.std.specs.Str.{bytes_eq}
use Rattle.gw_validate.proofs.verdict.count_named.Given as goal

abbrev pub invariant-loop-i : goal.invariant-loop-i
invariant-loop-i l = record {
  small : l.count ≤ l.i;
  before : l.i ≤ l.number;
  counted : l.count ≡ count_by (λ s. bytes_eq s.name l.name) (take l.i l.message);
}

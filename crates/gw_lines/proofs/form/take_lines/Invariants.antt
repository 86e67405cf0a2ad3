use Rattle.std.proofs.Common.{◌≡◌, ◌+◌, drop, map}
use Rattle.gw_lines.specs.Reading.{with_lines}
use Rattle.gw_lines.proofs.form.take_lines.Given as goal

abbrev pub invariant-loop-bytes : goal.invariant-loop-bytes
invariant-loop-bytes g l = record {
  same :
      with_lines g.F.Fault.TextFault.broken g.F.Form.step l.initial.form l.first (map (λ line. line.now) l.all)
      ≡ with_lines g.F.Fault.TextFault.broken g.F.Form.step l.form l.at (map (λ line. line.now) (drop l.bytes-index l.all));
  at : l.at ≡ l.first + l.bytes-index;
}

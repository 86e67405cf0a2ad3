use Rattle.std.proofs.Common.{◌≡◌, ◌++◌, flat_map, take}
use Rattle.gw_page.specs.Rows.{entry}
use Rattle.gw_page.proofs.parts.put_entries.Given as goal

abbrev pub invariant-loop-refusal : goal.invariant-loop-refusal
invariant-loop-refusal l = l.out.items ≡ l.initial.out.items ++ flat_map entry (take l.refusal-index l.refusals)

use Rattle.std.proofs.Common.{◌≡◌, map, take}
use Rattle.gw_page.specs.Recent.{texts}
use Rattle.gw_page.proofs.recent.copies.Given as goal

abbrev pub invariant-loop-refusal : goal.invariant-loop-refusal
invariant-loop-refusal l = map texts l.all.items ≡ map texts (take l.refusal-index l.of)

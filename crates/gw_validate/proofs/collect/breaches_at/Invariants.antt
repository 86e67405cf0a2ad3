use Rattle.std.proofs.Common.{◌≡◌, take, map}
use Rattle.gw_validate.specs.own.Finding.{breach_of}
use Rattle.gw_validate.proofs.collect.breaches_at.Given as goal

abbrev pub invariant-loop-found_at : goal.invariant-loop-found_at
invariant-loop-found_at l = record {
  found : l.found.items ≡ map (breach_of l.message) (take l.found_at-index l.found_at-items);
}

use Rattle.std.proofs.Common.{◌≡◌, ◌+◌, ◌≤◌, List, ℕ, Bor, drop, length, option_map}
use Rattle.gw_profile.specs.Seen.{forest}
use Rattle.gw_profile.specs.Labels.{labelled}
use Rattle.gw_profile.specs.Labels.{number_of}
use Rattle.gw_profile.proofs.level.numbers_of.Given as goal

abbrev pub invariant-loop-left : goal.invariant-loop-left
invariant-loop-left l = record {
  within : l.left ≤ length l.nodes;
  numbers : (label : Bor (List ℕ)) → number_of l.numbers.entries label ≡ option_map (λ n. n + l.left) (labelled (forest (drop l.left l.nodes)) label.now);
}

abbrev pub decreases-loop-left : goal.decreases-loop-left
decreases-loop-left l = l.left

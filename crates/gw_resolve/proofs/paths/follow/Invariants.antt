use Rattle.std.proofs.Common.{◌≡◌, ◌++◌, drop, option_map}
use Rattle.gw_maplang.specs.Seen.{items_all}
use Rattle.gw_resolve.specs.Naming as spec
use Rattle.gw_profile.specs.Labels.{nodes_in}
use Rattle.gw_resolve.proofs.paths.follow.Given as goal

abbrev pub invariant-loop-label : goal.invariant-loop-label
invariant-loop-label l = option_map (λ more. l.fn.steps.items ++ more) (spec.steps_of (nodes_in l.fn.level) (items_all l.path)) ≡ option_map (λ more. l.steps.items ++ more) (spec.steps_of (nodes_in l.level) (items_all (drop l.label-index l.path)))

use Rattle.gw_maplang.specs.Seen.{leaf_value}
use Rattle.gw_resolve.specs.Naming as spec
use Rattle.gw_resolve.specs.Seen.{scope, at_leaf}
use Rattle.gw_resolve.proofs.Listing.{Lists}
use Rattle.gw_resolve.proofs.rules.leaves.Given as goal

abbrev pub invariant-loop-made : goal.invariant-loop-made
invariant-loop-made l =
    Lists (λ tables. spec.at_leaf tables (scope l.scope)) (spec.leaf_failures (scope l.scope)) leaf_value at_leaf l.initial.found.items l.found.items l.all l.made-index l.built.items

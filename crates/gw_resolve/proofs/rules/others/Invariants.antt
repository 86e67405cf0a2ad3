use Rattle.gw_maplang.specs.Seen as raw
use Rattle.gw_resolve.specs.Naming as spec
use Rattle.gw_resolve.specs.Seen.{scope, alternative}
use Rattle.gw_resolve.proofs.Listing.{Lists}
use Rattle.gw_resolve.proofs.rules.others.Given as goal

abbrev pub invariant-loop-made : goal.invariant-loop-made
invariant-loop-made l =
    Lists (λ tables. spec.alternative tables (scope l.scope)) (spec.other_failures (scope l.scope)) raw.alternative alternative l.initial.found.items l.found.items l.all l.made-index l.built.items

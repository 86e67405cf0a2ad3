use Rattle.std.proofs.Common.{◌≡◌, ◌++◌, List, drop}
use Rattle.gw_maplang.specs.Shapes.{TableValue}
use Rattle.gw_profile.specs.Seen.{forest}
use Rattle.gw_resolve.specs.Seen.{failures, scope, all_items}
use Rattle.gw_check.specs.Levels.{level_failures}
use Rattle.gw_check.proofs.level.check_level.Given as goal

abbrev pub invariant-loop-j : goal.invariant-loop-j
invariant-loop-j l =
    (tables : List TableValue) →
    failures l.initial.found.items ++ level_failures (scope l.scope) l.holder 0 (forest l.nodes) (all_items tables l.items)
    ≡ failures l.found.items ++ level_failures (scope l.scope) l.holder l.j (forest (drop l.j l.nodes)) (all_items tables l.left)

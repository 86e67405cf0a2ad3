-- Which maps the rules allow.
use Rattle.std.specs.Prelude.{◌≡◌, ◌==◌, true, not, List, [], ◌∷◌, ◌++◌, length}
use Rattle.gw_profile.specs.Shapes.{ProfileValue}
use Rattle.gw_resolve.specs.Places.{the_whole}
use Rattle.gw_resolve.specs.Resolved.{Resolved}
use Rattle.gw_resolve.specs.Failures.{Failure, at_line, fails}
use Rattle.gw_check.specs.Levels.{level_failures, items_failures}
use Rattle.gw_check.specs.Reads.{passed_over}
use Rattle.gw_check.specs.Reached.{reached_failures}
use Rattle.gw_resolve.specs.Order.{are_placed}

-- what is lost of the source in silence: by a field that is passed over, a condition that never holds, or an alternative that is never reached
abbrev pub source_failures : ProfileValue → Resolved → List Failure
source_failures source map =
    fails 9 (at_line map.line) (not (length (passed_over map.items map.drops source.nodes) == 0))
    ++ reached_failures source (the_whole source.nodes ∷ []) map.items

-- the failures of the rules from the fourth on
abbrev pub failures : ProfileValue → ProfileValue → Resolved → List Failure
failures source target map =
    level_failures (the_whole source.nodes ∷ []) map.line 0 target.nodes map.items
    ++ items_failures source target (the_whole source.nodes ∷ []) target.nodes map.items
    ++ source_failures source map

-- the items are in order, and no rule fails
pub record IsTyped (source target : ProfileValue) (map : Resolved) : Type 0 where
  pub placed : are_placed target.nodes 0 map.items ≡ true
  pub none_fails : failures source target map ≡ []

use Rattle.std.proofs.Common.{List}
use Rattle.gw_maplang.specs.Shapes.{TableValue}
use Rattle.gw_resolve.specs.Seen.{alternative}
use Rattle.gw_resolve.specs.Positions.{positions}
use Rattle.gw_resolve.proofs.Listing.{Tells}
use Rattle.gw_check.specs.Seen.{all_sites, some_reference, other_made}
use Rattle.gw_check.proofs.segments.add_others.Given as goal

abbrev pub invariant-loop-other : goal.invariant-loop-other
invariant-loop-other l =
    (tables : List TableValue) →
    Tells (other_made (positions l.scope) (some_reference l.walked) l.place) (alternative tables) (all_sites tables l.initial.sites.items) (all_sites tables l.sites.items) l.other-index l.others

use Rattle.std.proofs.Common.{List}
use Rattle.gw_maplang.specs.Shapes.{TableValue}
use Rattle.gw_resolve.specs.Seen.{at_leaf}
use Rattle.gw_resolve.specs.Positions.{positions}
use Rattle.gw_resolve.proofs.Listing.{Tells}
use Rattle.gw_check.specs.Seen.{all_sites, some_reference}
use Rattle.gw_check.specs.Sites.{leaf_sites}
use Rattle.gw_check.proofs.segments.add_leaves.Given as goal

abbrev pub invariant-loop-leaf : goal.invariant-loop-leaf
invariant-loop-leaf l =
    (tables : List TableValue) →
    Tells (leaf_sites (positions l.scope) (some_reference l.walked) l.target.at.now l.target.field) (at_leaf tables) (all_sites tables l.initial.sites.items) (all_sites tables l.sites.items) l.leaf-index l.leaves

use Rattle.gw_maplang.specs.Seen.{dropped}
use Rattle.gw_resolve.specs.Naming.{drop, drop_failures}
use Rattle.gw_resolve.specs.Seen.{element, left_out, failures}
use Rattle.gw_resolve.proofs.Listing.{Makes, Tells}
use Rattle.gw_resolve.proofs.named.all_left_out.Given as goal

abbrev pub invariant-loop-dropped : goal.invariant-loop-dropped
invariant-loop-dropped l = record {
  made : Makes (drop (element l.message)) dropped left_out l.drops l.dropped-index l.built.items;
  failures : Tells (drop_failures (element l.message)) dropped (failures l.initial.found.items) (failures l.found.items) l.dropped-index l.drops;
}

use Rattle.std.proofs.Common.{length, take}
use Rattle.std.specs.Arc.{arc_value}
use Rattle.std.specs.List.{AllZip}
use Rattle.gw_plan.specs.Held.{route_value}
use Rattle.gw_stream.specs.own.Prepared.{AreWithin, IsPrepared}
use Rattle.gw_stream.specs.Served.{receivers_of}
use Rattle.gw_stream.proofs.delivery.prepare_deliveries.Given as goal

abbrev pub invariant-legs : goal.invariant-legs
invariant-legs l = record {
  made : AllZip (IsPrepared (arc_value l.fn.conforming).tree.message (route_value l.route)) (take l.i (receivers_of (route_value l.route))) l.all.items;
  within : AreWithin (length (arc_value l.fn.conforming).plan.receivers) l.all.items;
}

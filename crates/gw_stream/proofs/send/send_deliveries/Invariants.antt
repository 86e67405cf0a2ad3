use Rattle.std.proofs.Common.{◌≡◌, false, length, map, take}
use Rattle.std.specs.List.{list_any}
use Rattle.gw_stream.specs.own.Prepared.{post}
use Rattle.gw_stream.specs.Posts.{SendsOut}
use Rattle.gw_stream.proofs.send.send_deliveries.Given as goal

abbrev pub invariant-deliveries : goal.invariant-deliveries
invariant-deliveries g l = record {
  count : length l.outs.items ≡ length l.fn.outs.items;
  works : list_any g.W.Sink.has_failed l.outs.items ≡ false;
  sends : SendsOut (map post (take l.delivery-index l.deliveries)) (map g.W.Sink.contents l.fn.outs.items) (map g.W.Sink.contents l.outs.items);
}

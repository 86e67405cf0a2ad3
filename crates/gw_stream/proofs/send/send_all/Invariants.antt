use Rattle.std.proofs.Common.{◌≡◌, false}
use Rattle.gw_stream.specs.Sent.{Sending}
use Rattle.gw_stream.proofs.send.send_all.Given as goal

abbrev pub invariant-pieces : goal.invariant-pieces
invariant-pieces g l = record {
  works : g.W.Sink.has_failed l.writer ≡ false;
  sending : Sending (g.W.Sink.contents l.fn.writer) (g.W.Sink.contents l.writer) l.bytes l.sent l._turn;
}

use Rattle.std.specs.Io.KnownBytes.{Keeps}
use Rattle.gw_stream.proofs.writes.WritesSink.write.Given as goal

abbrev pub invariant-tries : goal.invariant-tries
invariant-tries g l = Keeps (g.W.Write.contents l.fn.self.writer) (g.W.Write.contents l.self.writer)

use Rattle.std.specs.Io.KnownBytes.{Keeps}
use Rattle.gw_stream.specs.Reading.{ReadTimes}
use Rattle.gw_stream.proofs.reads.ReadsSource.read.Given as goal

abbrev pub invariant-tries : goal.invariant-tries
invariant-tries g l = record {
  keeps : Keeps (g.R.Read.remaining l.fn.self.reader) (g.R.Read.remaining l.self.reader);
  counted : ReadTimes 1 l.fn.self.reads l.self.reads;
}

use Rattle.std.proofs.Common.{◌≡◌, [], false}
use Rattle.gw_crew.specs.Streams.{spot}
use Rattle.gw_crew.proofs.Carrying.{Reads}
use Rattle.gw_crew.proofs.blocks.next_block.Given as goal

abbrev pub invariant-reads : goal.invariant-reads
invariant-reads g l = record {
  works : g.R.Source.has_failed l.reader ≡ false;
  empty : l.decoder.waiting ≡ [];
  reading : Reads l._read (spot g.R.Source l.fn.reader) l.fn.decoder (spot g.R.Source l.reader)
      l.decoder;
}

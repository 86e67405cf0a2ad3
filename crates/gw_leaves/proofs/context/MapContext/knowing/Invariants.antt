use Rattle.gw_leaves.specs.own.Comparisons.{AreCompared, AreKept}
use Rattle.gw_leaves.proofs.context.MapContext.knowing.Given as goal

abbrev pub invariant-loop-comparison : goal.invariant-loop-comparison
invariant-loop-comparison l = record {
  compared : AreCompared l.self.source l.self.target l.compared;
  known : AreKept l.self l.known.entries;
}

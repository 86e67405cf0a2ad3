use Rattle.gw_sample.proofs.Counting.{Counts}
use Rattle.gw_sample.proofs.Fewest.{segments_in}
use Rattle.gw_sample.proofs.least.+count.Given as goal

abbrev pub invariant-count_nodes-loop-node : goal.invariant-count_nodes-loop-node
invariant-count_nodes-loop-node l = Counts segments_in 10001 l.nodes l.node-index l.count

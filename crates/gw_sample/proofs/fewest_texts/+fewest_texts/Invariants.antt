use Rattle.gw_sample.specs.FewestTexts.{fewest_texts}
use Rattle.gw_sample.proofs.Counting.{Counts}
use Rattle.gw_sample.proofs.fewest_texts.+fewest_texts.Given as goal

abbrev pub invariant-count_nodes-loop-node : goal.invariant-count_nodes-loop-node
invariant-count_nodes-loop-node l = Counts fewest_texts 524289 l.nodes l.node-index l.count

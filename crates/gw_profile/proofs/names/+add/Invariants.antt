use Rattle.gw_profile.proofs.Gathered.{Left}
use Rattle.gw_profile.proofs.names.+add.Given as goal

abbrev pub invariant-add_names-loop-node : goal.invariant-add_names-loop-node
invariant-add_names-loop-node l = Left l.initial.names l.names l.nodes l.node-index

use Rattle.gw_leaves.specs.Context.{context_of}
use Rattle.gw_leaves.proofs.Comparing.{found_of}
use Rattle.gw_leaves.proofs.comparison.compare.Goals as goal

pub returns : goal.returns
returns c =
    found_of (context_of c.args.source.now c.args.target.now c.args.map.now) c.args.comparison _ c.args.values.now c.requires c.in_ok-lengths.ensures c.unrowed_of-unrowed.ensures

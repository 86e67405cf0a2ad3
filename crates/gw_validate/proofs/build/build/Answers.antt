use Rattle.gw_validate.specs.Conforming.{named}
use Rattle.gw_profile.specs.Seen.{forest}
use Rattle.gw_validate.specs.own.Occurring.{tree_of}
use Rattle.gw_validate.proofs.Building.{whole_built}
use Rattle.gw_validate.proofs.build.build.Goals as goal

pub returns-clause-tree : goal.returns-clause-tree
returns-clause-tree c =
    whole_built (named c.args.message.now) (forest c.args.nodes.now) c.args.listed.now (tree_of c.args.listed.now (forest c.args.nodes.now) c.in_ok-found.found) _ c.requires.rules c.requires.fits c.in_ok-found.ensures.built

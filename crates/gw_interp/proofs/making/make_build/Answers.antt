use Rattle.std.proofs.Common.{map}
use Rattle.gw_resolve.specs.Seen.{at_leaf}
use Rattle.gw_interp.specs.own.Making.{seen_from}
use Rattle.gw_interp.proofs.Fills.{on_ok}
use Rattle.gw_interp.proofs.Ruled.{may_build, built}
use Rattle.gw_interp.proofs.making.make_build.Goals as goal

pub fill_rep-requires-clause-fill : goal.fill_rep-requires-clause-fill
fill_rep-requires-clause-fill c =
    may_build (seen_from c.args.scope.now) (map (at_leaf c.args.rows.now.tables) c.args.leaves.now) c.args.field c.args.builder.now c.requires.may

pub returns : goal.returns
returns c =
    on_ok _ _ c.fill_rep.result
    (built (seen_from c.args.scope.now) (map (at_leaf c.args.rows.now.tables) c.args.leaves.now) c.args.field c.args.builder.now c.fill_rep.new.builder c.requires.may)
    c.fill_rep.ensures

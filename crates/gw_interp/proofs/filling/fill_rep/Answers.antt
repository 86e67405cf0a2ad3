use Rattle.std.proofs.Common.{map}
use Rattle.gw_resolve.specs.Seen.{at_leaf}
use Rattle.gw_interp.specs.own.Filling.{read_by}
use Rattle.gw_interp.proofs.Fills.{on_ok}
use Rattle.gw_interp.proofs.Placed.{may_fill, rep_filled}
use Rattle.gw_interp.proofs.filling.fill_rep.Goals as goal

pub put_leaves-requires-clause-fill : goal.put_leaves-requires-clause-fill
put_leaves-requires-clause-fill c =
    may_fill (read_by c.args.reading.now) c.args.field c.args.rep (map (at_leaf c.args.rows.now.tables) c.args.leaves.now) c.args.builder.now c.requires.fill

pub returns : goal.returns
returns c =
    on_ok _ _ c.put_leaves.result
    (rep_filled (read_by c.args.reading.now) c.args.field c.args.rep (map (at_leaf c.args.rows.now.tables) c.args.leaves.now) c.args.builder.now c.put_leaves.new.builder c.requires.fill)
    c.put_leaves.ensures

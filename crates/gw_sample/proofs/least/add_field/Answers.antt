use Rattle.gw_profile.specs.Seen.{field}
use Rattle.gw_sample.specs.own.Least.{keys}
use Rattle.gw_sample.proofs.Added.{one_rep_more}
use Rattle.gw_sample.proofs.least.add_field.Goals as goal

pub loop-rep-preserved : goal.loop-rep-preserved
loop-rep-preserved c =
    one_rep_more (field c.args.field.now) c.loop-rep.rep (keys c.args.places.now.items) (keys c.loop-rep.places.items) (keys c.add_rep.new.places.items)
    c.loop-rep.invariant c.in_ok-add_rep.ensures

use Rattle.gw_profile.specs.Seen.{comp}
use Rattle.gw_sample.specs.own.Least.{keys, comp_keys}
use Rattle.gw_sample.proofs.Added.{one_more}
use Rattle.gw_sample.proofs.least.add_comps.Goals as goal

pub loop-comp-preserved : goal.loop-comp-preserved
loop-comp-preserved c =
    one_more (comp_keys c.args.field c.args.rep) comp c.args.comps.now c.loop-comp.comp-index c.comp-item.result c.comp-item.result
    (keys c.args.places.now.items) (keys c.loop-comp.places.items) (keys c.add_comp.new.places.items) c.loop-comp-test.true c.comp-item.is c.loop-comp.invariant
    c.in_ok-add_comp.ensures

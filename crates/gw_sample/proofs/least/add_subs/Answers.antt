use Rattle.gw_profile.specs.Seen.{sub}
use Rattle.gw_sample.specs.own.Least.{keys, sub_keys}
use Rattle.gw_sample.proofs.Added.{one_more}
use Rattle.gw_sample.proofs.least.add_subs.Goals as goal

pub loop-sub-preserved : goal.loop-sub-preserved
loop-sub-preserved c =
    one_more (sub_keys c.args.at.field c.args.at.rep c.args.at.comp) sub c.args.subs.now c.loop-sub.sub-index c.sub-item.result c.sub-item.result
    (keys c.args.places.now.items) (keys c.loop-sub.places.items) (keys c.add_sub.new.places.items) c.loop-sub-test.true c.sub-item.is c.loop-sub.invariant
    c.in_ok-add_sub.ensures

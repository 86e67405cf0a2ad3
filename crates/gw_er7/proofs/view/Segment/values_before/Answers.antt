use Rattle.gw_er7.specs.Message.{numbers}
use Rattle.gw_er7.proofs.Lent.{start_is}
use Rattle.gw_er7.proofs.view.Segment.values_before.Goals as goal

pub returns : goal.returns
returns c = start_is (numbers c.args.place) c.self.inside.name c.self.inside.values c.args.self.now c.count_below.result c.self.invariant c.self.view_is c.count_below.ensures.bound c.count_below.ensures.start

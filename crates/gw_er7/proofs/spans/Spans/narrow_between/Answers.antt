use Rattle.std.proofs.Common.{arith}
use Rattle.gw_er7.proofs.Widths.{narrow_part}
use Rattle.gw_er7.proofs.spans.Spans.narrow_between.Goals as goal

pub returns : goal.returns
returns g c =
    narrow_part g.N.Width.said c.args.from c.args.to c.self.inside.narrow.items c.deref.result.now (g.L.Store.spans c.self.inside.others) c.args.self.now c.deref.ensures.value (omega arith) c.requires c.self.view_is

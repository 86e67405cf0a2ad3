use Rattle.std.proofs.Common.{arith}
use Rattle.gw_er7.specs.View.{Held}
use Rattle.gw_er7.proofs.Lent.{count_is, value_is}
use Rattle.gw_er7.proofs.view.Segment.value.Goals as goal

pub at-requires : goal.at-requires
at-requires c = omega (arith, c.requires, count_is c.self.inside.name c.self.inside.values c.args.self.now c.self.invariant c.self.view_is)

pub returns : goal.returns
returns c =
    let h : Held = record { place = c.at.result.place; text = c.at.result.text.now } in
    value_is c.self.inside.name c.self.inside.values c.args.self.now c.args.i h c.self.invariant c.self.view_is c.requires (c.at.ensures h)

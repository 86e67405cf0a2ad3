use Rattle.std.proofs.Common.{arith}
use Rattle.gw_er7.specs.View.{Held}
use Rattle.gw_er7.proofs.Lent.{count_is, value_is}
use Rattle.gw_er7.proofs.view.Segment.get_value.Goals as goal

pub returns-in-Some-clause-there : goal.returns-in-Some-clause-there
returns-in-Some-clause-there c = omega (arith, c.in-Some.ensures.within, count_is c.self.inside.name c.self.inside.values c.args.self.now c.self.invariant c.self.view_is)

pub returns-in-None-clause-there : goal.returns-in-None-clause-there
returns-in-None-clause-there c = omega (arith, c.in-None.ensures, count_is c.self.inside.name c.self.inside.values c.args.self.now c.self.invariant c.self.view_is)

pub returns-in-Some-clause-value : goal.returns-in-Some-clause-value
returns-in-Some-clause-value c =
    let h : Held = record { place = c.in-Some.value.place; text = c.in-Some.value.text.now } in
    value_is c.self.inside.name c.self.inside.values c.args.self.now c.args.i h c.self.invariant c.self.view_is
    (omega (arith, c.in-Some.ensures.within, count_is c.self.inside.name c.self.inside.values c.args.self.now c.self.invariant c.self.view_is)) (c.in-Some.ensures.is h)

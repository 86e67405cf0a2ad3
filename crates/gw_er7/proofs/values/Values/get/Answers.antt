use Rattle.gw_er7.specs.own.Spans.{short_span, long_span}
use Rattle.gw_er7.proofs.Slices.{narrow_inside, narrow_value}
use Rattle.gw_er7.proofs.values.Values.get.Goals as goal

pub text_at-requires : goal.text_at-requires
text_at-requires c =
    let v = c.self.inside in
    narrow_inside short_span v.bytes.now v.from v.to v.short.now v.spans.now c.args.i _ c.widened.result c.args.self.now c.self.invariant.within c.self.invariant.shorts c.self.view_is c.if-i-self.true c.widened.ensures

pub returns-then-i-self : goal.returns-then-i-self
returns-then-i-self c =
    let v = c.self.inside in
    narrow_value short_span v.bytes.now v.from v.to v.short.now v.spans.now c.args.i _ c.widened.result c.args.self.now c.self.invariant.within c.self.invariant.shorts c.self.view_is c.if-i-self.true c.widened.ensures
    _ c.text_at.ensures

pub text_at-requires-then-i-self-2 : goal.text_at-requires-then-i-self-2
text_at-requires-then-i-self-2 c =
    let v = c.self.inside in
    narrow_inside long_span v.bytes.now v.from v.to v.long.now v.spans.now c.args.i _ c.widened-then-i-self-2.result c.args.self.now c.self.invariant.within c.self.invariant.longs c.self.view_is c.if-i-self-2.true c.widened-then-i-self-2.ensures

pub returns-then-i-self-2 : goal.returns-then-i-self-2
returns-then-i-self-2 c =
    let v = c.self.inside in
    narrow_value long_span v.bytes.now v.from v.to v.long.now v.spans.now c.args.i _ c.widened-then-i-self-2.result c.args.self.now c.self.invariant.within c.self.invariant.longs c.self.view_is c.if-i-self-2.true c.widened-then-i-self-2.ensures
    _ c.text_at-then-i-self-2.ensures

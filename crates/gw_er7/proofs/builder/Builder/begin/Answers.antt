use Rattle.std.proofs.Common.{ap, ◌∙◌, List, arith}
use Rattle.gw_er7.specs.declared.start.SegmentHead.{SegmentHead}
use Rattle.gw_er7.specs.View.{Held, building}
use Rattle.gw_er7.proofs.Lying.{begins, begun_is}
use Rattle.gw_er7.proofs.builder.Builder.begin.Goals as goal

pub invariant_of-self-2 : goal.invariant_of-self-2
invariant_of-self-2 c =
    let n : SegmentHead = record { name = c.args.name; first = c.len-first.result } in
    begun_is c.push.new.self.items n c.close.new.texts c.args.self.now
    (begins c.push.result c.self.inside.starts.items c.reserve.new.self.items c.push.new.self.items c.deref.result.now n c.take_room.new.self c.close.new.texts c.args.self.now
    (c.push.ensures.succeeds (omega (arith, c.in_ok-reserve.ensures.ok))) c.push.ensures.items c.in_ok-reserve.ensures.items c.deref.ensures.value c.len-first.ensures c.close.ensures.each c.close.ensures.same (ap (λ (hs : List Held). building c.self.inside.starts.items hs) c.take_room.ensures ∙ c.self.view_is)) c.requires

pub returns-clause-ok : goal.returns-clause-ok
returns-clause-ok c =
    let n : SegmentHead = record { name = c.args.name; first = c.len-first.result } in
    (begins c.push.result c.self.inside.starts.items c.reserve.new.self.items c.push.new.self.items c.deref.result.now n c.take_room.new.self c.close.new.texts c.args.self.now
    (c.push.ensures.succeeds (omega (arith, c.in_ok-reserve.ensures.ok))) c.push.ensures.items c.in_ok-reserve.ensures.items c.deref.ensures.value c.len-first.ensures c.close.ensures.each c.close.ensures.same (ap (λ (hs : List Held). building c.self.inside.starts.items hs) c.take_room.ensures ∙ c.self.view_is)).same

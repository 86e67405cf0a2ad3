use Rattle.std.proofs.Common.{◌<◌, List, length, get_or, sym, ap, ◌∙◌, arith}
use Rattle.gw_er7.specs.Message.{SegmentValue}
use Rattle.gw_er7.specs.View.{stored}
use Rattle.gw_er7.proofs.Lying.{length-lying, lies_here, lent_is, here_is}
use Rattle.gw_er7.proofs.message.Message.segment.Goals as goal

pub index-requires : goal.index-requires
index-requires c = omega (arith, c.requires, ap length c.self.view_is, length-lying c.self.inside.starts.items c.self.inside.texts)

pub end_of-end-requires : goal.end_of-end-requires
end_of-end-requires c = omega (arith, c.requires, ap length c.self.view_is, length-lying c.self.inside.starts.items c.self.inside.texts, ap length c.deref.ensures.value)

pub lend-requires-clause-rising : goal.lend-requires-clause-rising
lend-requires-clause-rising c =
    let lt : c.args.i < length c.self.inside.starts.items = omega (arith, c.requires, ap length c.self.view_is, length-lying c.self.inside.starts.items c.self.inside.texts) in
    (lies_here _ _ _ _ _ _ lt c.self.invariant.each c.index.ensures c.deref.ensures.value c.end_of-end.ensures).rising

pub lend-requires-clause-bound : goal.lend-requires-clause-bound
lend-requires-clause-bound c =
    let lt : c.args.i < length c.self.inside.starts.items = omega (arith, c.requires, ap length c.self.view_is, length-lying c.self.inside.starts.items c.self.inside.texts) in
    (lies_here _ _ _ _ _ _ lt c.self.invariant.each c.index.ensures c.deref.ensures.value c.end_of-end.ensures).bound

pub of-requires : goal.of-requires
of-requires c =
    let lt : c.args.i < length c.self.inside.starts.items = omega (arith, c.requires, ap length c.self.view_is, length-lying c.self.inside.starts.items c.self.inside.texts) in
    lent_is _ _ _ _ _ _ lt c.self.invariant.message c.lend.ensures (lies_here _ _ _ _ _ _ lt c.self.invariant.each c.index.ensures c.deref.ensures.value c.end_of-end.ensures)

pub returns : goal.returns
returns c =
    let lt : c.args.i < length c.self.inside.starts.items = omega (arith, c.requires, ap length c.self.view_is, length-lying c.self.inside.starts.items c.self.inside.texts) in
    let lies = lies_here _ _ _ _ _ _ lt c.self.invariant.each c.index.ensures c.deref.ensures.value c.end_of-end.ensures in
    here_is c.args.self.now c.args.i c.of.result c.requires (λ d. ap (λ (vs : List SegmentValue). get_or vs c.args.i d) (sym c.self.view_is) ∙ lies.is d ∙ ap (stored c.index.result.now.name) (sym c.lend.ensures) ∙ sym c.of.ensures)

use Rattle.std.proofs.Common.{sym, ap, ◌∙◌, ◌+◌, map, arith, subst}
use Rattle.gw_er7.specs.Message.{SegmentValue}
use Rattle.gw_maplang.specs.Seen.{condition}
use Rattle.gw_resolve.specs.Seen.{reference, at_leaf}
use Rattle.gw_interp.specs.own.Sourced.{texts_of}
use Rattle.gw_interp.specs.own.Filling.{message_of}
use Rattle.gw_interp.specs.own.Making.{seen_from, MayFillRep, IsRepFilled}
use Rattle.gw_interp.proofs.Ruled.{chosen_nothing, same_walk}
use Rattle.gw_interp.proofs.ChosenReps.{chosen_begin, may_number, number_made, all_numbers}
use Rattle.gw_interp.proofs.making.make_chosen.Goals as goal

pub returns-in_default : goal.returns-in_default
returns-in_default c =
    chosen_nothing (seen_from c.args.scope.now) (reference c.args.chosen.from.now) c.args.field
    (ap texts_of (sym c.in_default.is) ∙ c.segment_at.ensures (message_of c.args.scope.now) c.requires.of) (condition c.args.chosen.condition.now) (map (at_leaf c.args.rows.now.tables) c.args.leaves.now) c.args.builder.now c.requires.may

pub loop-next-init : goal.loop-next-init
loop-next-init c =
    let is = ap texts_of (sym c.in-Some.is) ∙ c.segment_at.ensures (message_of c.args.scope.now) c.requires.of in
    chosen_begin (seen_from c.args.scope.now) (map (at_leaf c.args.rows.now.tables) c.args.leaves.now) c.args.field (reference c.args.chosen.from.now) (condition c.args.chosen.condition.now) c.in-Some.segment.at is c.args.builder.now c.requires.may
    c.reps-last.result c.reps-last.ensures

pub make_rep-requires-clause-fill : goal.make_rep-requires-clause-fill
make_rep-requires-clause-fill c =
    let is = ap texts_of (sym c.in-Some.is) ∙ c.segment_at.ensures (message_of c.args.scope.now) c.requires.of in
    let leaves = map (at_leaf c.args.rows.now.tables) c.args.leaves.now in
    let again = ap (λ (s : SegmentValue). s.at) c.reborrow.ensures ∙ is in
    subst (λ w. MayFillRep w c.args.field (c.loop-next.made + 1) leaves c.loop-next.builder) (same_walk (seen_from c.args.scope.now) (reference c.args.chosen.from.now) c.in-Some-next_chosen.next c.reborrow.result.at again)
    (may_number (seen_from c.args.scope.now) leaves c.args.field (reference c.args.chosen.from.now) (condition c.args.chosen.condition.now) c.in-Some.segment.at is c.args.builder.now c.requires.may
    c.loop-next.rep c.loop-next.made c.in-Some-next_chosen.next c.loop-next.builder c.in-Some-next_chosen.ensures c.loop-next.invariant)

pub loop-next-preserved : goal.loop-next-preserved
loop-next-preserved c =
    let is = ap texts_of (sym c.in-Some.is) ∙ c.segment_at.ensures (message_of c.args.scope.now) c.requires.of in
    let leaves = map (at_leaf c.args.rows.now.tables) c.args.leaves.now in
    let again = ap (λ (s : SegmentValue). s.at) c.reborrow.ensures ∙ is in
    number_made (seen_from c.args.scope.now) leaves c.args.field (reference c.args.chosen.from.now) (condition c.args.chosen.condition.now) c.in-Some.segment.at is c.args.builder.now c.requires.may
    c.loop-next.rep c.loop-next.made c.in-Some-next_chosen.next c.loop-next.builder c.in-Some-next_chosen.ensures c.loop-next.invariant c.make_rep.new.builder
    (subst (λ w. IsRepFilled w c.args.field (c.loop-next.made + 1) leaves c.loop-next.builder c.make_rep.new.builder) (sym (same_walk (seen_from c.args.scope.now) (reference c.args.chosen.from.now) c.in-Some-next_chosen.next c.reborrow.result.at again)) c.in_ok-make_rep.ensures)

pub returns : goal.returns
returns c =
    let is = ap texts_of (sym c.in-Some.is) ∙ c.segment_at.ensures (message_of c.args.scope.now) c.requires.of in
    all_numbers (seen_from c.args.scope.now) (map (at_leaf c.args.rows.now.tables) c.args.leaves.now) c.args.field (reference c.args.chosen.from.now) (condition c.args.chosen.condition.now) c.in-Some.segment.at is c.args.builder.now c.requires.may
    c.loop-next.rep c.loop-next.made c.loop-next.builder c.in_default-next_chosen.ensures c.loop-next.invariant

pub overflow_add-made : goal.overflow_add-made
overflow_add-made c = omega (arith, c.loop-next.invariant.low, c.in-Some-next_chosen.ensures.behind)

pub loop-next-smaller : goal.loop-next-smaller
loop-next-smaller c = omega (arith, c.in-Some-next_chosen.ensures.behind)

use Rattle.std.proofs.Common.{sym, ap, ◌∙◌, map, arith, subst}
use Rattle.gw_er7.specs.Message.{SegmentValue}
use Rattle.gw_resolve.specs.Seen.{reference, at_leaf}
use Rattle.gw_interp.specs.own.Sourced.{texts_of}
use Rattle.gw_interp.specs.own.Filling.{message_of}
use Rattle.gw_interp.specs.own.Making.{seen_from, MayFillRep, IsRepFilled}
use Rattle.gw_interp.proofs.Ruled.{repeat_nothing, repeats_begin, may_next_repeat, next_repeat, all_repeats, same_walk}
use Rattle.gw_interp.proofs.making.make_repeat.Goals as goal

pub returns-in_default : goal.returns-in_default
returns-in_default c =
    repeat_nothing (seen_from c.args.scope.now) (reference c.args.from.now) c.args.field
    (ap texts_of (sym c.in_default.is) ∙ c.segment_at.ensures (message_of c.args.scope.now) c.requires.of) (map (at_leaf c.args.rows.now.tables) c.args.leaves.now) c.args.builder.now c.requires.may

pub loop-rep-init : goal.loop-rep-init
loop-rep-init c =
    let is = ap texts_of (sym c.in-Some.is) ∙ c.segment_at.ensures (message_of c.args.scope.now) c.requires.of in
    repeats_begin (seen_from c.args.scope.now) (map (at_leaf c.args.rows.now.tables) c.args.leaves.now) c.args.field (reference c.args.from.now) c.in-Some.segment.at is c.reps-last.result c.reps-last.ensures c.args.builder.now c.requires.may

pub make_rep-requires-clause-fill : goal.make_rep-requires-clause-fill
make_rep-requires-clause-fill c =
    let is = ap texts_of (sym c.in-Some.is) ∙ c.segment_at.ensures (message_of c.args.scope.now) c.requires.of in
    let leaves = map (at_leaf c.args.rows.now.tables) c.args.leaves.now in
    let again = ap (λ (s : SegmentValue). s.at) c.reborrow.ensures ∙ is in
    subst (λ w. MayFillRep w c.args.field c.next_rep-rep.result leaves c.loop-rep.builder) (same_walk (seen_from c.args.scope.now) (reference c.args.from.now) c.next_rep-rep.result c.reborrow.result.at again)
    (may_next_repeat (seen_from c.args.scope.now) leaves c.args.field (reference c.args.from.now) c.in-Some.segment.at is c.reps-last.result c.reps-last.ensures c.args.builder.now c.requires.may
    c.loop-rep.rep c.next_rep-rep.result c.loop-rep.builder c.next_rep-rep.ensures.after c.next_rep-rep.ensures.there c.loop-rep.invariant)

pub loop-rep-preserved : goal.loop-rep-preserved
loop-rep-preserved c =
    let is = ap texts_of (sym c.in-Some.is) ∙ c.segment_at.ensures (message_of c.args.scope.now) c.requires.of in
    let leaves = map (at_leaf c.args.rows.now.tables) c.args.leaves.now in
    let again = ap (λ (s : SegmentValue). s.at) c.reborrow.ensures ∙ is in
    next_repeat (seen_from c.args.scope.now) leaves c.args.field (reference c.args.from.now) c.in-Some.segment.at is c.reps-last.result c.reps-last.ensures c.args.builder.now c.requires.may
    c.loop-rep.rep c.next_rep-rep.result c.loop-rep.builder c.make_rep.new.builder c.next_rep-rep.ensures.after c.next_rep-rep.ensures.there c.next_rep-rep.ensures.first c.loop-rep.invariant
    (subst (λ w. IsRepFilled w c.args.field c.next_rep-rep.result leaves c.loop-rep.builder c.make_rep.new.builder) (sym (same_walk (seen_from c.args.scope.now) (reference c.args.from.now) c.next_rep-rep.result c.reborrow.result.at again)) c.in_ok-make_rep.ensures)

pub loop-rep-smaller : goal.loop-rep-smaller
loop-rep-smaller c = omega (arith, c.loop-rep-test.true, c.next_rep-rep.ensures.after)

pub returns : goal.returns
returns c =
    let is = ap texts_of (sym c.in-Some.is) ∙ c.segment_at.ensures (message_of c.args.scope.now) c.requires.of in
    all_repeats (seen_from c.args.scope.now) (map (at_leaf c.args.rows.now.tables) c.args.leaves.now) c.args.field (reference c.args.from.now) c.in-Some.segment.at is c.reps-last.result c.reps-last.ensures c.args.builder.now c.requires.may
    c.loop-rep.rep c.loop-rep.builder c.loop-rep-test.false c.loop-rep.invariant

use Rattle.std.proofs.Common.{◌≡◌, ◌∙◌, sym, ap, arith, ◌<◌, length}
use Rattle.std.specs.Str.{bytes_eq}
use Rattle.gw_validate.specs.Conforming.{named}
use Rattle.gw_validate.proofs.Counting.{counted_yes, counted_no, small_named}
use Rattle.gw_validate.proofs.verdict.count_named.Goals as goal
use Rattle.gw_validate.proofs.verdict.count_named.Goals.{then-eq, else-eq}

pub loop-i-preserved : goal.loop-i-preserved
loop-i-preserved c =
    let lt : c.loop-i.i < length c.args.message.now = omega (arith, c.segment_count-i-end.ensures.count) in
    let tells : c.eq.result ≡ bytes_eq (named c.args.message.now c.loop-i.i) c.args.name = c.eq.ensures ∙ ap (λ n. bytes_eq n c.args.name) c.name_at.ensures in
    record {
      small = elim c.if-eq.branch [ then-eq w ↦ omega arith | else-eq w ↦ omega arith ];
      before = omega arith;
      counted = elim c.if-eq.branch [
        | then-eq w ↦ w.count-is ∙ counted_yes c.args.message.now c.loop-i.i c.args.name lt c.loop-i.count c.loop-i.invariant.counted (sym tells ∙ w.if-eq.true)
        | else-eq w ↦ w.count-is ∙ counted_no c.args.message.now c.loop-i.i c.args.name lt c.loop-i.count c.loop-i.invariant.counted (sym tells ∙ w.if-eq.false)
      ];
    }

pub returns-clause-room : goal.returns-clause-room
returns-clause-room c =
    small_named c.args.message.now c.segment_count-i-end.ensures.message c.args.name c.loop-i.i c.loop-i.count c.loop-i.invariant.counted (omega (arith, c.segment_count-i-end.ensures.count))

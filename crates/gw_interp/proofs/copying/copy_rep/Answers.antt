use Rattle.std.proofs.Common.{ℕ, arith}
use Rattle.gw_interp.specs.own.Making.{comp_key}
use Rattle.gw_interp.proofs.Copies.{none_copied, may_text, next_text, all_copied, in_rep, of_rep, apart_rep}
use Rattle.gw_interp.proofs.copying.copy_rep.Goals as goal

pub loop-i-init : goal.loop-i-init
loop-i-init c = none_copied (ℕ × ℕ) (comp_key c.args.from) (comp_key c.args.to) c.args.segment.now.at c.rep_values-first.result.0 c.args.builder.now c.requires

pub put_text-requires : goal.put_text-requires
put_text-requires c =
    let m = c.args.segment.now.at in
    let place = c.value-value.result.place in
    let here = of_rep m c.args.from c.rep_values-first.result.0 c.rep_values-first.result.1 c.rep_values-first.ensures.first c.rep_values-first.ensures.behind c.loop-i.i place.field place.rep place.comp place.sub c.value-value.result.text.now c.loop-i.invariant.from c.loop-i-test.true c.value-value.ensures in
    may_text (ℕ × ℕ) (comp_key c.args.from) (comp_key c.args.to) m c.rep_values-first.result.0 c.args.builder.now c.loop-i.i c.loop-i.builder (place.comp, place.sub) c.value-value.result.text.now c.requires c.loop-i.invariant here

pub loop-i-preserved : goal.loop-i-preserved
loop-i-preserved c =
    let m = c.args.segment.now.at in
    let place = c.value-value.result.place in
    let here = of_rep m c.args.from c.rep_values-first.result.0 c.rep_values-first.result.1 c.rep_values-first.ensures.first c.rep_values-first.ensures.behind c.loop-i.i place.field place.rep place.comp place.sub c.value-value.result.text.now c.loop-i.invariant.from c.loop-i-test.true c.value-value.ensures in
    next_text (ℕ × ℕ) (comp_key c.args.from) (comp_key c.args.to) m c.rep_values-first.result.0 c.args.builder.now (apart_rep c.args.from) (apart_rep c.args.to) c.loop-i.i c.loop-i.builder c.put_text.new.builder (place.comp, place.sub) c.value-value.result.text.now here c.loop-i.invariant c.in_ok-put_text.ensures.ok

pub returns : goal.returns
returns c =
    let m = c.args.segment.now.at in
    all_copied (ℕ × ℕ) (comp_key c.args.from) (comp_key c.args.to) m c.rep_values-first.result.0 c.args.builder.now c.loop-i.i c.loop-i.builder
    (λ p j t g. let in_it = in_rep m c.args.from c.rep_values-first.result.0 c.rep_values-first.result.1 c.rep_values-first.ensures.first c.rep_values-first.ensures.behind p j t g in (in_it.0, omega (arith, in_it.1, c.loop-i-test.false)))
    c.loop-i.invariant

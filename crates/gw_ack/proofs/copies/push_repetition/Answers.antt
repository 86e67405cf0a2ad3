use Rattle.std.proofs.Common.{◌+◌, ◌∷◌, [], drop, arith}
use Rattle.std.specs.FinMap as texts
use Rattle.gw_ack.proofs.Copying.{copied_before, copied_more}
use Rattle.gw_ack.proofs.copies.push_repetition.Goals as goal

pub returns-then-value-field-clause-behind : goal.returns-then-value-field-clause-behind
returns-then-value-field-clause-behind c =
    copied_before (texts.entries c.args.segment.now.at) c.args.field c.loop-i.i c.value-value.result.place c.value-value.result.text.now
    (c.loop-i.here.comp ∷ c.loop-i.here.sub ∷ []) c.args.out.now.items c.loop-i.out.items (texts.entries_sorted c.args.segment.now.at) c.value-value.ensures c.if-value-field.true
    c.loop-i.invariant

pub loop-i-preserved : goal.loop-i-preserved
loop-i-preserved c =
    copied_more (texts.entries c.args.segment.now.at) c.args.field c.loop-i.i c.value-value.result.place c.value-value.result.text.now
    (c.loop-i.here.comp ∷ c.loop-i.here.sub ∷ []) (c.in_ok-here.here.comp ∷ c.in_ok-here.here.sub ∷ []) c.args.out.now.items c.loop-i.out.items c.push_value.new.out.items
    c.value-value.ensures (omega (arith, c.if-value-field.false)) (c.in_ok-here.ensures (drop (c.loop-i.i + 1) (texts.entries c.args.segment.now.at))) c.loop-i.invariant

use Rattle.std.proofs.Common.{◌<◌, length, arith, ap, refl}
use Rattle.gw_er7.specs.Entries.{Entry}
use Rattle.gw_er7.specs.View.{Held}
use Rattle.gw_er7.proofs.Sames.{same_next, not_same}
use Rattle.gw_er7.proofs.same.same_values.Goals as goal

pub returns-then-not-same_place : goal.returns-then-not-same_place
returns-then-not-same_place c =
    let a : Held = record { place = c.at-value.result.place; text = c.at-value.result.text.now } in
    let b : Held = record { place = c.at-other.result.place; text = c.at-other.result.text.now } in
    let within : c.loop-i.i < length c.args.values.now = omega (arith, c.loop-i-test.true, c.len-i-end.ensures) in
    not_same c.args.values.now c.args.others.now c.loop-i.i a b within (omega (arith, within, c.loop-i.invariant.long)) (c.at-value.ensures a) (c.at-other.ensures b) c.loop-i.invariant.rest (λ e. c.if-not-same_place.ensures.1 (ap (λ (x : Entry). x.0) e))

pub returns-then-not-same_bytes : goal.returns-then-not-same_bytes
returns-then-not-same_bytes c =
    let a : Held = record { place = c.at-value.result.place; text = c.at-value.result.text.now } in
    let b : Held = record { place = c.at-other.result.place; text = c.at-other.result.text.now } in
    let within : c.loop-i.i < length c.args.values.now = omega (arith, c.loop-i-test.true, c.len-i-end.ensures) in
    not_same c.args.values.now c.args.others.now c.loop-i.i a b within (omega (arith, within, c.loop-i.invariant.long)) (c.at-value.ensures a) (c.at-other.ensures b) c.loop-i.invariant.rest (λ e. c.if-not-same_bytes.ensures.1 (ap (λ (x : Entry). x.1) e))

pub loop-i-preserved : goal.loop-i-preserved
loop-i-preserved c =
    let a : Held = record { place = c.at-value.result.place; text = c.at-value.result.text.now } in
    let b : Held = record { place = c.at-other.result.place; text = c.at-other.result.text.now } in
    let within : c.loop-i.i < length c.args.values.now = omega (arith, c.loop-i-test.true, c.len-i-end.ensures) in
    record {
      long = c.loop-i.invariant.long;
      rest = same_next c.args.values.now c.args.others.now c.loop-i.i a b within (omega (arith, within, c.loop-i.invariant.long)) (c.at-value.ensures a) (c.at-other.ensures b) c.loop-i.invariant.rest (c.if-not-same_place.ensures.0 refl) (c.if-not-same_bytes.ensures.0 refl);
    }

use Rattle.std.proofs.Common.{sym, rules, arith}
use Rattle.gw_er7.specs.View.{Held}
use Rattle.gw_er7.proofs.Finds.{text_here, text_none, text_past}
use Rattle.gw_er7.proofs.search.text_behind.Goals as goal

pub returns-then-at-len : goal.returns-then-at-len
returns-then-at-len c = sym (text_past c.args.place c.args.values.now c.args.at c.requires.sorted c.requires.bound c.requires.start (omega (arith, c.if-at-len.true, c.len.ensures)))

pub returns-then-ne : goal.returns-then-ne
returns-then-ne c =
    let h : Held = record { place = c.at-value.result.place; text = c.at-value.result.text.now } in
    sym (text_none c.args.place c.args.values.now c.args.at h c.requires.sorted c.requires.start (omega (arith, c.if-at-len.false, c.len.ensures)) (sym (c.at-value.ensures h)) (search rules))

pub returns : goal.returns
returns c =
    let h : Held = record { place = c.at-value.result.place; text = c.at-value.result.text.now } in
    sym (text_here c.args.place c.args.values.now c.args.at h c.requires.sorted c.requires.start (omega (arith, c.if-at-len.false, c.len.ensures)) (sym (c.at-value.ensures h)) (search rules))

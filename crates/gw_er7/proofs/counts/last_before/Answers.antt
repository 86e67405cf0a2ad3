use Rattle.std.proofs.Common.{rules, sym}
use Rattle.gw_er7.specs.View.{Held}
use Rattle.gw_er7.proofs.Under.{none_before, last_here, none_here}
use Rattle.gw_er7.proofs.counts.last_before.Goals as goal

pub returns-then-count-eq0 : goal.returns-then-count-eq0
returns-then-count-eq0 c = none_before c.args.prefix.now c.args.values.now c.args.count c.requires.values c.requires.end (search rules)

pub returns-then-is_eq : goal.returns-then-is_eq
returns-then-is_eq c =
    let h : Held = record { place = c.at.result.place; text = c.at.result.text.now } in
    last_here c.args.prefix.now c.args.values.now c.args.count h c.requires.values c.requires.bound c.requires.end (search rules) (sym (c.at.ensures h)) (search rules)

pub returns : goal.returns
returns c =
    let h : Held = record { place = c.at.result.place; text = c.at.result.text.now } in
    none_here c.args.prefix.now c.args.values.now c.args.count h c.requires.values c.requires.bound c.requires.end (search rules) (sym (c.at.ensures h)) (search rules)

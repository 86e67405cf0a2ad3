use Rattle.std.proofs.Common.{sym, ap, subst, ◌∙◌}
use Rattle.gw_leaves.specs.Texts.{rows_value}
use Rattle.gw_leaves.specs.own.Comparisons.{Adds, some_values, is_lacking, is_within}
use Rattle.gw_leaves.proofs.Ordered.{all_rowed, some_lack}
use Rattle.gw_leaves.proofs.comparison.of_looked_up.Goals as goal

pub returns-in_default : goal.returns-in_default
returns-in_default c =
    let rows = rows_value c.args.texts.rows in
    all_rowed c.args.texts.count c.args.to (some_values c.args.table) rows (some_values c.args.texts.listed) c.firsts_of.result.now c.firsts_of.ensures c.in_ok-made.made.keys
    (λ len. ap (is_within len) (sym c.in_default.is ∙ c.first_unrowed.ensures) ∙ c.requires (is_lacking rows) len) c.in_ok-made.ensures

pub returns : goal.returns
returns c =
    let rows = rows_value c.args.texts.rows in
    let values = some_values c.args.table in
    let old = c.in_ok-made.made.keys in
    let new = c.add.new.lengths.keys in
    some_lack c.args.texts.count c.args.to values rows (some_values c.args.texts.listed) c.firsts_of.result.now c.firsts_of.ensures old new c.in-Some.size
    (λ len. ap (is_within len) (sym c.in-Some.is ∙ c.first_unrowed.ensures) ∙ c.requires (is_lacking rows) len)
    (subst (λ t. Adds c.args.to values old new c.in-Some.size t) c.other_of.ensures c.in_ok-add.ensures) c.in_ok-made.ensures

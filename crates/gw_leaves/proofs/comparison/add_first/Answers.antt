use Rattle.std.proofs.Common.{sym, subst, ◌∙◌}
use Rattle.gw_profile.specs.Lengths.{measure}
use Rattle.gw_maplang.specs.Seen.{now}
use Rattle.gw_leaves.specs.Texts.{rows_value}
use Rattle.gw_leaves.specs.own.Comparisons.{Adds, some_values}
use Rattle.gw_leaves.proofs.Ordered.{unlisted_first, listed_first}
use Rattle.gw_leaves.proofs.comparison.add_first.Goals as goal

pub returns-then-not-is_listed : goal.returns-then-not-is_listed
returns-then-not-is_listed c =
    unlisted_first c.args.texts.count c.args.to (some_values c.args.table) (rows_value c.args.texts.rows) (some_values c.args.texts.listed) c.args.lengths.now.keys c.args.first.now (sym c.is_listed.ensures ∙ c.if-not-is_listed.true)

pub returns : goal.returns
returns c =
    let old = c.args.lengths.now.keys in
    let new = c.add.new.lengths.keys in
    listed_first c.args.texts.count c.args.to (some_values c.args.table) (rows_value c.args.texts.rows) (some_values c.args.texts.listed) old new c.args.first.now (sym c.is_listed.ensures ∙ c.if-not-is_listed.false)
    (subst (λ t. Adds c.args.to (some_values c.args.table) old new (measure c.args.texts.count c.args.first.now) t) c.given.ensures
    (subst (λ n. Adds c.args.to (some_values c.args.table) old new n (now c.given.result)) c.measure-size.ensures c.in_ok-add.ensures))

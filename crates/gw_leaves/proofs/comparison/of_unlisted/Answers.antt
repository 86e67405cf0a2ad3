use Rattle.std.proofs.Common.{sym, ap, ℕ, ◌∙◌}
use Rattle.std.specs.Prelude.{◌==◌, ◌&&◌}
use Rattle.indexmap.specs.IndexSet.{insert_key}
use Rattle.gw_leaves.specs.own.Comparisons.{some_values}
use Rattle.gw_leaves.proofs.Ordered.{none_missing, one_missing}
use Rattle.gw_leaves.proofs.comparison.of_unlisted.Goals as goal

pub returns-in_default : goal.returns-in_default
returns-in_default c = none_missing (some_values c.args.table) c.args.values.now c.new-made.result.keys c.new-made.ensures.empty (sym c.in_default.is ∙ c.first_unlisted.ensures)

pub returns : goal.returns
returns c =
    one_missing (some_values c.args.table) c.args.values.now c.insert.new.self.keys c.in-Some.size
    (c.in_ok-insert.ensures.keys ∙ ap (λ ks. insert_key (λ (a b : ℕ × ℕ). a.0 == b.0 && a.1 == b.1) ks (c.in-Some.size, 0)) c.new-made.ensures.empty) (sym c.in-Some.is ∙ c.first_unlisted.ensures)

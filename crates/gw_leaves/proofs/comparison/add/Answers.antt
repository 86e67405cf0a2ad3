use Rattle.std.proofs.Common.{ℕ, sym, ap, subst, ◌∙◌}
use Rattle.std.specs.Prelude.{◌==◌, ◌&&◌}
use Rattle.indexmap.specs.IndexSet.{insert_key}
use Rattle.gw_maplang.specs.Seen.{now}
use Rattle.gw_leaves.specs.own.Comparisons.{Adds, some_values}
use Rattle.gw_leaves.proofs.Comparing.{listed_added, one_added}
use Rattle.gw_leaves.proofs.comparison.add.Goals as goal

pub returns-then-is_listed : goal.returns-then-is_listed
returns-then-is_listed c =
    let keys = c.args.lengths.now.keys in
    subst (λ t. Adds c.args.to (some_values c.args.table) keys keys c.args.size (now t)) (sym c.in-Some.is)
    (listed_added c.args.to (some_values c.args.table) keys c.args.size c.in-Some.text.now (sym c.is_listed.ensures ∙ c.if-is_listed.true))

pub returns : goal.returns
returns c =
    let keys = c.args.lengths.now.keys in
    let new = c.insert.new.self.keys in
    subst (λ t. Adds c.args.to (some_values c.args.table) keys new c.args.size (now t)) (sym c.in-Some.is)
    (one_added c.args.to (some_values c.args.table) keys new c.args.size c.in-Some.text.now (sym c.is_listed.ensures ∙ c.if-is_listed.false) (c.in_ok-insert.ensures.keys ∙ ap (λ n. insert_key (λ (a b : ℕ × ℕ). a.0 == b.0 && a.1 == b.1) keys (c.args.size, n)) c.measure.ensures))

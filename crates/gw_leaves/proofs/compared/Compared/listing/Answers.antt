use Rattle.std.proofs.Common.{sym, subst, ◌∙◌}
use Rattle.std.specs.Arc.{arc_value}
use Rattle.std.specs.Global.{Vec}
use Rattle.gw_leaves.specs.Texts.{items_all}
use Rattle.gw_leaves.specs.own.Comparisons.{IsListed, Sized}
use Rattle.gw_maplang.specs.Seen.{now}
use Rattle.gw_leaves.proofs.Comparing.{listed_as, listed_more}
use Rattle.gw_leaves.proofs.compared.Compared.listing.Goals as goal

pub returns-clause-lists : goal.returns-clause-lists
returns-clause-lists c =
    let source = c.args.source.now in
    let name = now c.args.name in
    listed_more source c.in_ok-key.key c.in_ok-kept.kept c.args.self.now.lists.entries c.insert.new.self.entries c.in_ok-insert.ensures.updates.0
    (subst (λ n. IsListed source n (arc_value c.in_ok-kept.kept).items) (sym c.in_ok-key.ensures)
    (subst (λ (v : Vec Sized). IsListed source name v.items) (sym (c.in_ok-kept.ensures ∙ c.in_ok-made.ensures.ok))
    (listed_as source name c.count.result (items_all c.listed_in-texts.result.now) c.in_ok-values.values.items c.count.ensures c.listed_in-texts.ensures c.in_ok-values.ensures))) c.requires

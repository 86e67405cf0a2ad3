use Rattle.std.proofs.Common.{sym, subst}
use Rattle.gw_leaves.specs.Context.{ContextValue}
use Rattle.gw_leaves.specs.Texts.{items_all}
use Rattle.gw_leaves.specs.own.Comparisons.{IsListed}
use Rattle.gw_maplang.specs.Seen.{now}
use Rattle.gw_leaves.proofs.Comparing.{listed_as}
use Rattle.gw_leaves.proofs.context.MapContext.list_and_find.Goals as goal

pub find-requires : goal.find-requires
find-requires c =
    let name = now c.args.comparison.0.1 in
    let source = c.self.inside.source.now in
    subst (λ (s : ContextValue). IsListed s.source name c.as_slice.result.now) c.self.view_is
    (subst (IsListed source name) (sym c.as_slice.ensures.value) (listed_as source name c.count.result (items_all c.listed_in-texts.result.now) c.in_ok-all.all.items c.count.ensures c.listed_in-texts.ensures c.in_ok-all.ensures))

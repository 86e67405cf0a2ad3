use Rattle.std.proofs.Common.{IfOk, sym, subst}
use Rattle.gw_leaves.specs.Context.{ContextValue}
use Rattle.gw_leaves.specs.own.Comparisons.{IsFound, IsListed}
use Rattle.gw_maplang.specs.Seen.{now}
use Rattle.gw_leaves.proofs.context.MapContext.find.Goals as goal

pub compare-requires : goal.compare-requires
compare-requires c = subst (λ (s : ContextValue). IsListed s.source (now c.args.comparison.0.1) c.args.all.now) (sym c.self.view_is) c.requires

pub returns : goal.returns
returns c = subst (λ s. IfOk c.compare.result (IsFound s c.args.comparison)) c.self.view_is c.compare.ensures

use Rattle.std.proofs.Common.{IfOk, ap, sym, subst}
use Rattle.std.specs.Arc.{arc_value}
use Rattle.gw_leaves.specs.Context.{ContextValue}
use Rattle.gw_leaves.specs.own.Comparisons.{AreLists, IsListed}
use Rattle.gw_maplang.specs.Seen.{now}
use Rattle.gw_leaves.proofs.Comparing.{compared_as}
use Rattle.gw_leaves.proofs.context.MapContext.listing.Goals as goal

pub listing-requires : goal.listing-requires
listing-requires c = subst (λ (s : ContextValue). AreLists s.source c.args.compared.now.lists.entries) (sym c.self.view_is) c.requires.lists

pub returns-clause-compared : goal.returns-clause-compared
returns-clause-compared c =
    compared_as c.args.self.now.source c.self.inside.source.now c.args.self.now.target c.args.compared.now c.listing.new.self (ap (λ (s : ContextValue). s.source) c.self.view_is) c.listing.ensures.copies c.listing.ensures.lists c.requires

pub returns-clause-all : goal.returns-clause-all
returns-clause-all c = subst (λ (s : ContextValue). IfOk c.listing.result (λ all. IsListed s.source (now c.args.name) (arc_value all).items)) c.self.view_is c.listing.ensures.all

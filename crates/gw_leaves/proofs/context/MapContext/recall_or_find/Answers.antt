use Rattle.std.specs.Prelude.{IfSome}
use Rattle.std.specs.Arc.{arc_value}
use Rattle.std.proofs.Common.{sym, subst}
use Rattle.gw_leaves.specs.own.Comparisons.{IsFound}
use Rattle.gw_leaves.proofs.context.MapContext.recall_or_find.Goals as goal

pub returns-in_err-keep-clause-compared : goal.returns-in_err-keep-clause-compared
returns-in_err-keep-clause-compared c = c.keep.ensures c.args.self.now (subst (IsFound c.args.self.now c.args.comparison) (sym c.in_ok-found.ensures.ok) c.in_ok-find.ensures) c.listing.ensures.compared

pub returns-clause-compared : goal.returns-clause-compared
returns-clause-compared c = c.keep.ensures c.args.self.now (subst (IsFound c.args.self.now c.args.comparison) (sym c.in_ok-found.ensures.ok) c.in_ok-find.ensures) c.listing.ensures.compared

pub returns-in-Some-clause-found : goal.returns-in-Some-clause-found
returns-in-Some-clause-found c = subst (λ o. IfSome o (λ f. IsFound c.args.self.now c.args.comparison (arc_value f))) c.in-Some.is (c.in_ok-kept.ensures c.args.self.now c.requires)

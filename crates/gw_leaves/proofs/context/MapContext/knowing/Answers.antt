use Rattle.std.proofs.Common.{sym, subst}
use Rattle.gw_leaves.specs.own.Comparisons.{AreKept}
use Rattle.gw_leaves.proofs.Comparing.{kept_more, none_kept}
use Rattle.gw_leaves.proofs.context.MapContext.knowing.Goals as goal

pub loop-comparison-init : goal.loop-comparison-init
loop-comparison-init c = record { compared = c.requires; known = none_kept c.args.self.now _ c.in_ok-known.ensures.empty }

pub loop-comparison-preserved : goal.loop-comparison-preserved
loop-comparison-preserved c = record {
  compared = c.recall_or_find.ensures.compared;
  known = kept_more c.args.self.now c.in-Some.comparison c.in_ok-found.found c.loop-comparison.known.entries c.insert.new.self.entries c.in_ok-insert.ensures.updates.0 c.in_ok-found.ensures.found c.loop-comparison.invariant.known;
}

pub loop-comparison-preserved-in_ok-insert : goal.loop-comparison-preserved-in_ok-insert
loop-comparison-preserved-in_ok-insert c = record {
  compared = c.recall_or_find.ensures.compared;
  known = kept_more c.args.self.now c.in-Some.comparison c.in_ok-found.found c.loop-comparison.known.entries c.insert.new.self.entries c.in_ok-insert.ensures.updates.0 c.in_ok-found.ensures.found c.loop-comparison.invariant.known;
}

pub invariant_of-result : goal.invariant_of-result
invariant_of-result c = subst (λ s. AreKept s c.loop-comparison.known.entries) (sym c.self.view_is) c.loop-comparison.invariant.known

use Rattle.std.proofs.Common.{◌∙◌, sym, ap, subst, List, ℕ}
use Rattle.std.specs.Arc.{arc_value}
use Rattle.gw_profile.specs.declared.node.Node.{Node}
use Rattle.gw_profile.specs.Seen.{Contents, forest}
use Rattle.gw_validate.specs.own.Judging.{IsKept}
use Rattle.gw_validate.proofs.tree.Tree.root.Goals as goal

pub of-requires : goal.of-requires
of-requires c =
    subst (λ (l : List Node). IsKept (forest l) c.self.inside.message c.deref.result.now c.self.inside.found) (sym (c.nodes.ensures.value ∙ ap (λ (p : Contents). p.nodes) c.deref-2.ensures))
    (subst (λ (l : List ℕ). IsKept (forest (arc_value c.self.inside.profile).nodes) c.self.inside.message l c.self.inside.found) (sym c.deref.ensures.value) c.self.invariant.kept)

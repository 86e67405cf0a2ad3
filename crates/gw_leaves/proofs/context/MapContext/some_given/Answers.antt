use Rattle.std.proofs.Common.{ap, subst, ◌∙◌}
use Rattle.std.specs.Arc.{arc_value}
use Rattle.gw_leaves.specs.declared.comparison.Found.{Found}
use Rattle.gw_leaves.specs.own.Comparisons.{IsFound, some_length}
use Rattle.gw_leaves.proofs.context.MapContext.some_given.Goals as goal

pub returns-in-Some : goal.returns-in-Some
returns-in-Some c =
    let f = c.in-Some.found.now in
    let is = subst (λ s. IsFound s (c.args.origin, c.args.name) (arc_value f)) c.self.view_is (c.self.invariant (c.args.origin, c.args.name) f c.in-Some.ensures.value) in
    c.some_length.ensures
    ∙ ap (some_length c.args.len c.args.most) (c.as_slice.ensures.keys ∙ ap (λ (x : Found). x.lengths.keys) c.deref.ensures)
    ∙ is.lengths c.args.len c.args.most c.requires

pub returns : goal.returns
returns c = c.some_length-2.ensures ∙ ap (some_length c.args.len c.args.most) c.as_slice-2.ensures.keys ∙ c.in_ok-found.ensures.lengths c.args.len c.args.most c.requires

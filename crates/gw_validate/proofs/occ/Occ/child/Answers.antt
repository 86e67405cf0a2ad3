use Rattle.std.proofs.Common.{◌≡◌, ◌<◌, ◌∙◌, sym, ap, subst, arith}
use Rattle.gw_validate.specs.Fitting.{OccValue}
use Rattle.gw_validate.specs.Viewing.{width, count_at, occurrence_at}
use Rattle.gw_validate.specs.own.Lending.{shown_tree, IsOf}
use Rattle.gw_validate.specs.own.Occurring.{kept}
use Rattle.gw_validate.proofs.Viewing.{width_nodes}
use Rattle.gw_validate.proofs.occ.Occ.child.Goals as goal

pub child-requires-clause-child : goal.child-requires-clause-child
child-requires-clause-child c =
    let row = c.in-Group.row in
    subst (λ n. c.args.child < n)
    (ap (λ (o : OccValue). width o.tree) (sym c.self.view_is) ∙ ap (λ s. width (shown_tree s)) c.in-Group.is ∙ width_nodes row.listed.now (kept row.found.now) 0 row.nodes.now)
    c.requires.child

pub child-requires-clause-k : goal.child-requires-clause-k
child-requires-clause-k c =
    subst (λ n. c.args.k < n)
    (ap (λ (o : OccValue). count_at o.tree c.args.child) (sym c.self.view_is) ∙ ap (λ s. count_at (shown_tree s) c.args.child) c.in-Group.is)
    c.requires.k

pub child-requires-clause-ordered : goal.child-requires-clause-ordered
child-requires-clause-ordered c = (subst (IsOf c.self.inside.message.now) c.in-Group.is c.self.invariant).ordered

pub invariant_of-result : goal.invariant_of-result
invariant_of-result c = c.child.ensures.lawful c.self.inside.message.now (subst (IsOf c.self.inside.message.now) c.in-Group.is c.self.invariant).within

pub returns-in-Segment-clause-shows : goal.returns-in-Segment-clause-shows
returns-in-Segment-clause-shows c =
    let none : count_at c.args.self.now.tree c.args.child ≡ 0 = ap (λ (o : OccValue). count_at o.tree c.args.child) (sym c.self.view_is) ∙ ap (λ s. count_at (shown_tree s) c.args.child) c.in-Segment.is in
    absurd (omega (arith, c.requires.k, none))

pub returns-in-Group-clause-shows : goal.returns-in-Group-clause-shows
returns-in-Group-clause-shows c =
    ap (λ (o : OccValue). occurrence_at o.tree c.args.child c.args.k) (sym c.self.view_is) ∙ ap (λ s. occurrence_at (shown_tree s) c.args.child c.args.k) c.in-Group.is ∙ c.child.ensures.shows

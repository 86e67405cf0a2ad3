use Rattle.std.proofs.Common.{◌<◌, ◌∙◌, sym, ap, subst}
use Rattle.gw_validate.specs.Fitting.{OccValue}
use Rattle.gw_validate.specs.Viewing.{width, count_at}
use Rattle.gw_validate.specs.own.Lending.{shown_tree, IsOf}
use Rattle.gw_validate.specs.own.Occurring.{kept}
use Rattle.gw_validate.proofs.Viewing.{width_nodes}
use Rattle.gw_validate.proofs.occ.Occ.count.Goals as goal

pub count-requires-clause-child : goal.count-requires-clause-child
count-requires-clause-child c =
    let row = c.in-Group.row in
    subst (λ n. c.args.child < n)
    (ap (λ (o : OccValue). width o.tree) (sym c.self.view_is) ∙ ap (λ s. width (shown_tree s)) c.in-Group.is ∙ width_nodes row.listed.now (kept row.found.now) 0 row.nodes.now)
    c.requires

pub count-requires-clause-ordered : goal.count-requires-clause-ordered
count-requires-clause-ordered c = (subst (IsOf c.self.inside.message.now) c.in-Group.is c.self.invariant).ordered

pub returns-in-Segment : goal.returns-in-Segment
returns-in-Segment c = ap (λ s. count_at (shown_tree s) c.args.child) (sym c.in-Segment.is) ∙ ap (λ (o : OccValue). count_at o.tree c.args.child) c.self.view_is

pub returns-in-Group : goal.returns-in-Group
returns-in-Group c = c.count.ensures ∙ ap (λ s. count_at (shown_tree s) c.args.child) (sym c.in-Group.is) ∙ ap (λ (o : OccValue). count_at o.tree c.args.child) c.self.view_is

use Rattle.std.proofs.Common.{◌∙◌, sym, ap, subst}
use Rattle.gw_validate.specs.Fitting.{OccValue, IsLent}
use Rattle.gw_validate.specs.Viewing.{width}
use Rattle.gw_validate.specs.own.Lending.{shown_tree}
use Rattle.gw_validate.specs.own.Occurring.{kept}
use Rattle.gw_validate.proofs.Viewing.{width_nodes, lent}
use Rattle.gw_validate.proofs.occ.Occ.children.Goals as goal

pub returns-in-Segment-clause-count : goal.returns-in-Segment-clause-count
returns-in-Segment-clause-count c = ap (λ s. width (shown_tree s)) (sym c.in-Segment.is) ∙ ap (λ (o : OccValue). width o.tree) c.self.view_is

pub returns-in-Segment-clause-lent : goal.returns-in-Segment-clause-lent
returns-in-Segment-clause-lent c = subst IsLent c.self.view_is (lent c.self.inside.message.now c.self.inside.shown c.self.invariant)

pub returns-in-Group-clause-count : goal.returns-in-Group-clause-count
returns-in-Group-clause-count c =
    sym (width_nodes c.in-Group.row.listed.now (kept c.in-Group.row.found.now) 0 c.in-Group.row.nodes.now)
    ∙ ap (λ s. width (shown_tree s)) (sym c.in-Group.is) ∙ ap (λ (o : OccValue). width o.tree) c.self.view_is

pub returns-in-Group-clause-lent : goal.returns-in-Group-clause-lent
returns-in-Group-clause-lent c = subst IsLent c.self.view_is (lent c.self.inside.message.now c.self.inside.shown c.self.invariant)

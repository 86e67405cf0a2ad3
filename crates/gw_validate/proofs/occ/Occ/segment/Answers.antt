use Rattle.std.proofs.Common.{◌∙◌, sym, ap, subst}
use Rattle.gw_validate.specs.Fitting.{IsLent, numbered, segment_of}
use Rattle.gw_validate.specs.own.Lending.{shown_number}
use Rattle.gw_validate.proofs.Viewing.{lent}
use Rattle.gw_validate.proofs.occ.Occ.segment.Goals as goal

pub returns-in-Segment-clause-lent : goal.returns-in-Segment-clause-lent
returns-in-Segment-clause-lent c = subst IsLent c.self.view_is (lent c.self.inside.message.now c.self.inside.shown c.self.invariant)

pub returns-in-Group-clause-lent : goal.returns-in-Group-clause-lent
returns-in-Group-clause-lent c = subst IsLent c.self.view_is (lent c.self.inside.message.now c.self.inside.shown c.self.invariant)

pub returns-in-Group-clause-segment : goal.returns-in-Group-clause-segment
returns-in-Group-clause-segment c = ap (λ s. numbered c.self.inside.message.now (shown_number s)) (sym c.in-Group.is) ∙ ap segment_of c.self.view_is

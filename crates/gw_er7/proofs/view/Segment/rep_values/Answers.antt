use Rattle.gw_er7.proofs.Lent.{lent_start, rep_behind, rep_first}
use Rattle.gw_er7.proofs.view.Segment.rep_values.Goals as goal

pub returns-clause-first : goal.returns-clause-first
returns-clause-first c =
    lent_start _ c.self.inside.name c.self.inside.values c.args.self.now _ c.self.invariant c.self.view_is
    (rep_first c.args.field c.args.rep c.self.inside.values _ c.count_below.ensures.bound c.count_below.ensures.start)

pub returns-clause-behind : goal.returns-clause-behind
returns-clause-behind c =
    lent_start _ c.self.inside.name c.self.inside.values c.args.self.now _ c.self.invariant c.self.view_is
    (rep_behind c.args.field c.args.rep c.self.inside.values _ c.count_within.ensures.bound c.count_within.ensures.end)

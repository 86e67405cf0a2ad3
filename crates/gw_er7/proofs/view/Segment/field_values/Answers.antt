use Rattle.std.proofs.Common.{rules}
use Rattle.gw_er7.proofs.Lent.{lent_start, field_behind, field_first}
use Rattle.gw_er7.proofs.view.Segment.field_values.Goals as goal

pub returns-then-field-eq0-clause-behind : goal.returns-then-field-eq0-clause-behind
returns-then-field-eq0-clause-behind c =
    lent_start _ c.self.inside.name c.self.inside.values c.args.self.now _ c.self.invariant c.self.view_is
    (field_behind c.args.field c.self.inside.values _ c.count_within-behind.ensures.bound c.count_within-behind.ensures.end)

pub returns-clause-first : goal.returns-clause-first
returns-clause-first c =
    lent_start _ c.self.inside.name c.self.inside.values c.args.self.now _ c.self.invariant c.self.view_is
    (field_first c.args.field c.self.inside.values _ (search rules) c.count_within.ensures.bound c.count_within.ensures.end)

pub returns-clause-behind : goal.returns-clause-behind
returns-clause-behind c =
    lent_start _ c.self.inside.name c.self.inside.values c.args.self.now _ c.self.invariant c.self.view_is
    (field_behind c.args.field c.self.inside.values _ c.count_within-behind.ensures.bound c.count_within-behind.ensures.end)

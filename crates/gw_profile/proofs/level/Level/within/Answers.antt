use Rattle.std.proofs.Common.{ap, ◌∙◌, arith}
use Rattle.gw_profile.specs.Seen.{forest}
use Rattle.gw_profile.specs.Labels.{within}
use Rattle.gw_profile.proofs.Inner.{within_at, within_past}
use Rattle.gw_profile.proofs.level.Level.within.Goals as goal

pub returns-then-number-len : goal.returns-then-number-len
returns-then-number-len c =
    within_past c.self.inside.nodes.now c.self.inside.below.items c.args.number c.self.invariant.are_below (omega (arith, c.if-number-len.true, c.len.ensures)) ∙ ap (λ l. within (forest l) c.args.number) c.self.view_is

pub returns : goal.returns
returns c =
    within_at c.self.inside.nodes.now c.self.inside.below.items c.args.number c.index.result.now c.self.invariant.are_below (omega (arith, c.if-number-len.false, c.len.ensures)) c.index.ensures ∙ ap (λ l. within (forest l) c.args.number) c.self.view_is

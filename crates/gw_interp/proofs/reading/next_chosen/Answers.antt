use Rattle.std.proofs.Common.{Some, sym, ◌∙◌, arith}
use Rattle.gw_er7.specs.Presence.{RepAt}
use Rattle.gw_profile.proofs.Facts.{no_clash}
use Rattle.gw_maplang.specs.Seen.{condition}
use Rattle.gw_interp.specs.Meaning.{IsChosen}
use Rattle.gw_interp.proofs.Chosen.{chosen_there, none_yet, none_on, next_found, none_behind}
use Rattle.gw_interp.proofs.reading.next_chosen.Goals as goal

pub loop-rep-init : goal.loop-rep-init
loop-rep-init c = none_yet (IsChosen (Some (condition c.args.condition.now)) c.args.segment.now.at c.args.field) c.args.after

pub loop-rep-preserved : goal.loop-rep-preserved
loop-rep-preserved c =
    none_on (IsChosen (Some (condition c.args.condition.now)) c.args.segment.now.at c.args.field) (RepAt c.args.segment.now.at c.args.field) (chosen_there (Some (condition c.args.condition.now)) c.args.segment.now.at c.args.field)
    c.args.after c.loop-rep.rep c.next_rep-rep.result c.loop-rep.invariant c.next_rep-rep.ensures.after c.next_rep-rep.ensures.first
    (λ is. no_clash (sym is ∙ sym c.meets.ensures ∙ c.if-meets.false))

pub loop-rep-smaller : goal.loop-rep-smaller
loop-rep-smaller c = omega (arith, c.loop-rep-test.true, c.next_rep-rep.ensures.after)

pub returns-then-meets : goal.returns-then-meets
returns-then-meets c =
    next_found (IsChosen (Some (condition c.args.condition.now)) c.args.segment.now.at c.args.field) (RepAt c.args.segment.now.at c.args.field) (chosen_there (Some (condition c.args.condition.now)) c.args.segment.now.at c.args.field)
    c.args.after c.loop-rep.rep c.next_rep-rep.result c.loop-rep.invariant c.next_rep-rep.ensures.after c.next_rep-rep.ensures.first
    (sym c.meets.ensures ∙ c.if-meets.true)

pub returns : goal.returns
returns c =
    none_behind (IsChosen (Some (condition c.args.condition.now)) c.args.segment.now.at c.args.field) (RepAt c.args.segment.now.at c.args.field) (chosen_there (Some (condition c.args.condition.now)) c.args.segment.now.at c.args.field)
    c.args.after c.loop-rep.rep c.args.last c.requires c.loop-rep-test.false c.loop-rep.invariant

use Rattle.std.proofs.Common.{rules, ◌∙◌, refl, ap}
use Rattle.gw_crew.specs.Seen.{notes_seen}
use Rattle.gw_crew.proofs.Soloing.{kept, not_cut}
use Rattle.gw_run.specs.Passes.{PassSeen}
use Rattle.gw_run.proofs.Counting.{counts_on, replies}
use Rattle.gw_run.proofs.pass.PassDoor.call.Goals as goal

pub keep-requires : goal.keep-requires
keep-requires g c = λ some. c.room_for.ensures.room c.if-not-room_for.false (not_cut _ _ _ _ c.step-answer.ensures.step.step some)

pub returns-clause-reply : goal.returns-clause-reply
returns-clause-reply g c = replies _ _ _ c.step-answer.ensures.step c.keep.ensures.reply

pub returns-clause-calls : goal.returns-clause-calls
returns-clause-calls g c =
    let same = ap notes_seen c.room_for.ensures.same ∙ ap (λ (p : PassSeen). p.notes) c.self.view_is in
    (kept _ _ _ _ _ _ _ _ _ refl c.step-answer.ensures.step.step c.keep.ensures.reply same c.keep.ensures.notes).calls

pub returns-clause-counted : goal.returns-clause-counted
returns-clause-counted g c =
    counts_on _ _ _ _ _ _ c.self.invariant.counted c.step-answer.ensures.amount (ap notes_seen c.room_for.ensures.same) c.keep.ensures.notes

pub invariant_of-self-2 : goal.invariant_of-self-2
invariant_of-self-2 g c = record {
  counted = counts_on _ _ _ _ _ _ c.self.invariant.counted c.step-answer.ensures.amount (ap notes_seen c.room_for.ensures.same) c.keep.ensures.notes;
  part = search rules;
}

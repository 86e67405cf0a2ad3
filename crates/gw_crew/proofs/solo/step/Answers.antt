use Rattle.std.proofs.Common.{◌∙◌, ap, rules}
use Rattle.gw_gate.specs.Values.{reply_seen}
use Rattle.gw_crew.specs.Notes.{plain_by}
use Rattle.gw_crew.proofs.Soloing.{stepped_added, stepped_plain, stayed}
use Rattle.gw_crew.proofs.solo.step.Goals as goal

pub returns-in-Some : goal.returns-in-Some
returns-in-Some c =
    stepped_added _ _ _ _ _ _ c.journal.ensures.lawful (search rules)
    (rw c.in-Some.is at c.in-Ok.ensures)

pub returns-in-Ok-plain_note : goal.returns-in-Ok-plain_note
returns-in-Ok-plain_note c =
    let asked = c.in-Ok-plain_note.ensures.note ∙ ap (λ r. plain_by r (reply_seen c.in-Ok.reply)) c.asked_for-receiver.ensures in
    stepped_plain _ _ _ _ _ c.journal.ensures.lawful asked (rw c.in-None.is at c.in-Ok.ensures)

pub returns-in-Err-plain_note : goal.returns-in-Err-plain_note
returns-in-Err-plain_note c =
    stayed _ _ _ _ _ c.journal.ensures.lawful c.in-Err-plain_note.ensures.copied c.event_of.ensures (rw c.in-None.is at c.in-Ok.ensures)

-- A step under the lock.
use Rattle.std.specs.Prelude.{ℕ, length, Option, Result}
use Rattle.std.specs.Option.{option_to_list}
use Rattle.gw_gate.specs.Headline.{IsTranslated}
use Rattle.gw_gate.specs.Journal.{Journal}
use Rattle.gw_gate.specs.Lawful.{IsLawful}
use Rattle.gw_gate.specs.Meaning.{Makes}
use Rattle.gw_gate.specs.Replies.{EventSeen}
use Rattle.gw_gate.specs.declared.event.Event.{Event}
use Rattle.gw_gate.specs.declared.event.Reply.{Reply}
use Rattle.gw_crew.specs.declared.note.Note.{Note}
use Rattle.gw_crew.specs.Notes.{NoteSeen}
use Rattle.gw_crew.specs.Solos.{StepsOnce, note_in}
use Rattle.gw_run.specs.Passes.{receipts}

-- how many entries a step added, by its note
abbrev pub added_by : Option NoteSeen → ℕ
added_by note = length (receipts (option_to_list note))

abbrev pub counted_by : Result (Reply × Option Note) Event → ℕ
counted_by answer = added_by (note_in answer)

-- the gate made one step, whatever its lawful journal was
pub record StepsSomewhere (event : EventSeen) (result : Result (Reply × Option Note) Event) : Type 0 where
  pub before : Journal
  pub after : Journal
  pub lawful : IsLawful (IsTranslated Makes) before
  pub step : StepsOnce before event result after

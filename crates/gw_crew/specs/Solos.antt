-- A gate for one thread.
use Rattle.std.specs.Prelude.{◌≡◌, Bool, true, false, List, Option, None, Result, Ok, Err, MatchResult}
use Rattle.std.specs.Option.{option_map}
use Rattle.gw_gate.specs.Journal.{Journal, end}
use Rattle.gw_gate.specs.Replies.{EventSeen, Looks, Arrives, Replied, ReplySeen, IsCurrent, IsStale}
use Rattle.gw_gate.specs.Values.{event_seen, reply_seen}
use Rattle.gw_gate.specs.declared.event.Event.{Event}
use Rattle.gw_gate.specs.declared.event.Reply.{Reply}
use Rattle.gw_crew.specs.declared.note.Note.{Note}
use Rattle.gw_crew.specs.Notes.{NoteSeen, Answers, note_of}
use Rattle.gw_crew.specs.Seen.{note_seen}

-- its journal and its notes
pub record SoloSeen : Type 0 where
  pub gate : Journal
  pub notes : List NoteSeen

-- whether the note of a reply has a copy of what came with it
abbrev pub is_copied : ReplySeen → Bool
is_copied (IsCurrent version plan) = true
is_copied (IsStale version c) = true
is_copied given = false

-- the event that had such a reply
abbrev pub event_of : ReplySeen → EventSeen
event_of (IsStale version c) = Arrives c
event_of given = Looks

-- the gate made one step, which is noted with the number of its entry
pub record Stepped (before : Journal) (event : EventSeen) (given : ReplySeen) (note : Option NoteSeen) (after : Journal) : Type 0 where
  pub replied : Replied before event given after
  pub answers : Answers event given
  pub note_is : note ≡ note_of (end before) event given

-- the event came back, and the gate made no step
pub record Stayed (before : Journal) (event back : EventSeen) (after : Journal) : Type 0 where
  pub back_is : back ≡ event
  pub after_is : after ≡ before

abbrev pub StepsOnce : Journal → EventSeen → Result (Reply × Option Note) Event → Journal → Type 0
StepsOnce before event result after =
    MatchResult result (λ r. Stepped before event (reply_seen r.0) (option_map note_seen r.1) after) (λ back. Stayed before event (event_seen back) after)

-- ---- its note is kept

-- the reply of a step, or the event that came back
abbrev pub reply_in : Result (Reply × Option Note) Event → Result Reply Event
reply_in (Ok answer) = Ok answer.0
reply_in (Err event) = Err event

-- the note that it left
abbrev pub note_in : Result (Reply × Option Note) Event → Option NoteSeen
note_in (Ok answer) = option_map note_seen answer.1
note_in (Err event) = None

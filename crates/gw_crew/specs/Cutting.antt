-- What a cut answers.
use Rattle.std.specs.Prelude.{List, Option, None, Some, Result, Ok, Err}
use Rattle.std.specs.declared.alloc.AllocError.{AllocError}
use Rattle.gw_gate.specs.Journal.{Journal}
use Rattle.gw_gate.specs.Replies as event
use Rattle.gw_gate.specs.Replies.{EventSeen, IsPending, IsClosed}
use Rattle.gw_crew.specs.Notes.{NoteSeen, Calls}

-- One Cut was sent: the chapter that it closed is given, or none where something was pending, or the Cut came back after an allocation failure.
pub data Cuts (old : List NoteSeen) : Result (Option Journal) AllocError → List NoteSeen → Type 0 where
  closed : (chapter : Journal) (new : List NoteSeen) → Calls old event.Cuts (Ok (IsClosed chapter)) new → Cuts old (Ok (Some chapter)) new
  pending : (new : List NoteSeen) → Calls old event.Cuts (Ok IsPending) new → Cuts old (Ok None) new
  memory : (back : EventSeen) (error : AllocError) (new : List NoteSeen) → Calls old event.Cuts (Err back) new → Cuts old (Err error) new

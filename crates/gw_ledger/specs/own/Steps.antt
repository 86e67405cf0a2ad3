-- What is made or seen ahead of a step.
use Rattle.std.specs.Prelude.{◌≡◌, ℕ, List, Option, None, Some, IsFalse}
use mathlib.Core.List.{IsPrefix}
use Rattle.gw_due.specs.Events.{Event}
use Rattle.gw_due.specs.State.{State, after, is_naming}
use Rattle.gw_journal.specs.declared.event.Event as happened
use Rattle.gw_ledger.specs.Finding.{InJournal, IsNext}
use Rattle.gw_ledger.specs.Backlogs.{BacklogState, IsFirstLeft, IsLeftFrom, OnDisk}

-- the state after the event, where it takes memory to make it
abbrev pub IsAhead : Option State → State → Event → Type 0
IsAhead None s e = IsFalse (is_naming e)
IsAhead (Some next) s e = next ≡ after s e

-- In this journal, which goes on from what was seen of the backlog, what was found is the first that is left:
-- what is left begins where the backlog does, or from another place on, up to which nothing is due. It is the first by what is on the disk, too
pub record IsFirstFrom (before : List (List ℕ)) (b : BacklogState) (place from : ℕ) (history : List happened.Event) : Type 0 where
  pub later : IsPrefix b.history history
  pub left : InJournal (IsLeftFrom b.receiver b.from) before history
  pub next : InJournal (IsNext b.receiver from place) before history
  pub first : InJournal (IsFirstLeft b.receiver place) before history
  pub kept : OnDisk (IsFirstLeft b.receiver place) before history

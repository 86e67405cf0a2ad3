-- Journals that events lead to.
use Rattle.std.specs.Prelude.{◌≡◌, List, [], ◌∷◌, ◌++◌, Some, ⊤, Result}
use Rattle.std.specs.List.{AllByRecursion}
use Rattle.gw_gate.specs.Parts.{TranslatedSeen}
use Rattle.gw_gate.specs.Journal.{EntrySeen, Start, Journal}
use Rattle.gw_gate.specs.Meaning.{Admits}
use Rattle.gw_gate.specs.Replies.{EventSeen, Arrives, ReplySeen, Puts, reply, added, most, run, Steps}

-- Given: what holds of a translation by its type.
module _ (IsTranslated : TranslatedSeen → Type 0) where
  -- what arrives was admitted by its plan, and what is put is a translation
  abbrev pub IsEvent : EventSeen → Type 0
  IsEvent (Arrives c) = Admits c
  IsEvent (Puts n t) = IsTranslated t
  IsEvent event = ⊤

  -- A journal is lawful from its start: it is empty, or lawful but for one last entry, which the reply to some event added.
  pub data Lawful (start : Start) : List EntrySeen → Type 0 where
    empty : Lawful start []
    more : (h : List EntrySeen) → (event : EventSeen) → (e : EntrySeen) → Lawful start h → IsEvent event
        → added event (reply (record { start = start; entries = h }) event) ≡ Some e → Lawful start (h ++ e ∷ [])

  abbrev pub IsLawful : Journal → Type 0
  IsLawful j = Lawful j.start j.entries

  abbrev pub AreEvents : List EventSeen → Type 0
  AreEvents events = AllByRecursion IsEvent events

  -- events lead from a lawful journal to a lawful one
  abbrev pub RunsKeepLawful : Type 0
  RunsKeepLawful = (j : Journal) (events : List EventSeen) → AreEvents events → IsLawful j → IsLawful (run most j events)

  -- and so does each step
  abbrev pub StepsKeepLawful : Type 0
  StepsKeepLawful = (old new : Journal) (event : EventSeen) (result : Result ReplySeen EventSeen) → IsEvent event → Steps old event result new → IsLawful old → IsLawful new

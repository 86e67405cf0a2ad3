-- What waited when a lawful journal had its first entries: pairs to be taken, and translations at a receiver's desk.
use Rattle.std.specs.Prelude.{ℕ, ◌<◌, ◌==◌, ⊤, Bool, if◌then◌else◌, List, [], ◌∷◌, All, length, take, slice_get}
use Rattle.gw_reorder.specs.State.{DeskState, with_due}
use Rattle.gw_reorder.specs.Calls.{after_holding, after_giving, next_of}
use Rattle.gw_gate.specs.Headline.{IsTranslated}
use Rattle.gw_gate.specs.Journal.{EntrySeen, WasAccepted, WasKept, WasOut, Start, due, issued, jobs, released}
use Rattle.gw_gate.specs.Lawful.{Lawful}
use Rattle.gw_gate.specs.Meaning.{Makes}
use Rattle.gw_gate.specs.Parts.{TranslatedSeen, delivers}
use Rattle.gw_gate.specs.Replies.{job_of, out_of}
use Rattle.gw_audit.specs.Settled.{is_idle, is_nothing}

abbrev pub Desk : Type 0
Desk = DeskState TranslatedSeen

-- the entries of a lawful journal
pub record AreLawful (h : List EntrySeen) : Type 0 where
  pub start : Start
  pub lawful : Lawful (IsTranslated Makes) start h

-- whether there was no pair to be taken when there were k entries
abbrev pub waits_none : List EntrySeen → ℕ → Bool
waits_none h k = is_idle (job_of (take k h) (slice_get (issued (take k h)) (jobs (take k h))))

-- whether there was nothing to be given out for a receiver when there were k entries
abbrev pub gives_none : List EntrySeen → ℕ → ℕ → Bool
gives_none h r k = is_nothing (out_of (take k h) r (slice_get (due (take k h) r) (length (released (take k h) r))))

-- the receiver's desk after an entry
abbrev pub after_entry : EntrySeen → ℕ → Desk → Desk
after_entry (WasAccepted n arrival c) r s = if delivers c r then with_due s n else s
after_entry (WasKept n t) r s = if t.receiver == r then after_holding s n t else s
after_entry (WasOut n to t) r s = if to == r then after_giving s (next_of s) else s
after_entry e r s = s

-- what is accepted has a number above all that are due
abbrev pub MayEnter : EntrySeen → Desk → Type 0
MayEnter (WasAccepted n arrival c) s = All (λ m. m < n) s.due
MayEnter e s = ⊤

-- the receivers that an entry concerns
abbrev pub concerned : EntrySeen → List ℕ
concerned (WasAccepted n arrival c) = c.receivers
concerned (WasKept n t) = t.receiver ∷ []
concerned (WasOut n to t) = to ∷ []
concerned e = []

-- the desk of one of them after the entry
abbrev pub entered : EntrySeen → Desk → Desk
entered (WasAccepted n arrival c) s = with_due s n
entered (WasKept n t) s = after_holding s n t
entered (WasOut n to t) s = after_giving s (next_of s)
entered e s = s

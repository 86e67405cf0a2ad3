-- What the books of a gate are of its journal.
use Rattle.std.specs.Prelude.{◌≡◌, ℕ, ◌+◌, ◌≤◌, List, map, drop, length, slice_get, Option, None, Some}
use Rattle.gw_reorder.specs.State.{DeskState}
use Rattle.gw_reorder.specs.declared.desk.Status.{Status}
use Rattle.gw_reorder.specs.declared.desk.Status.TheVariants.{Waiting, Repeat, Stranger}
use Rattle.gw_reorder.specs.own.Standing.{Stands}
use Rattle.gw_gate.specs.Parts.{PlanSeen, ConformingSeen, TranslatedSeen}
use Rattle.gw_gate.specs.Journal.{EntrySeen, WasAccepted, Start, Journal, Acceptance, Pair, Release, current, accepted, arrivals, due, issued, jobs, kept, released}
use Rattle.gw_gate.specs.Replies.{ReplySeen, IsJob, IsIdle, IsKept, IsRepeat, IsStranger, IsIssued, IsDone, IsOut, IsNothing, most}
use Rattle.gw_gate.specs.Chapters.{CanStart}
use Rattle.gw_gate.specs.Headline.{CountFrom}

-- the version in force with its plan, the number of arrivals, the acceptances by the places of their entries, the pairs not yet taken, and the desks
pub record BooksSeen : Type 0 where
  pub version : ℕ
  pub plan : PlanSeen
  pub arrivals : ℕ
  pub places : List ℕ
  pub queue : List Pair
  pub desk : ℕ → DeskState TranslatedSeen

abbrev pub journal_of : Start → List EntrySeen → Journal
journal_of start h = record { start = start; entries = h }

-- a released translation with its number
abbrev pub given : Release → ℕ × TranslatedSeen
given out = (out.n, out.translated)

-- a receiver's desk is that of the journal
abbrev pub StandsAt : List EntrySeen → ℕ → DeskState TranslatedSeen → Type 0
StandsAt h r s = Stands s (due h r) (map given (released h r)) (λ n. kept h n r)

-- the version and the plan in force
pub record FitsPlan (start : Start) (h : List EntrySeen) (version : ℕ) (now : PlanSeen) : Type 0 where
  pub version_is : version ≡ (current (journal_of start h)).number
  pub plan_is : now ≡ (current (journal_of start h)).plan
  pub few : version ≤ start.entries + length h

-- the number of arrivals
pub record FitsArrivals (start : Start) (h : List EntrySeen) (count : ℕ) : Type 0 where
  pub count_is : count ≡ start.arrivals + arrivals h
  pub few : count ≤ start.entries + length h

-- what an entry accepts
abbrev pub accepted_by : EntrySeen → Option ConformingSeen
accepted_by (WasAccepted n arrival c) = Some c
accepted_by e = None

-- what the entry at a place accepts
abbrev pub accepted_in : Option EntrySeen → Option ConformingSeen
accepted_in None = None
accepted_in (Some e) = accepted_by e

abbrev pub accepted_at : List EntrySeen → ℕ → Option ConformingSeen
accepted_at h place = accepted_in (slice_get h place)

-- the places lead to what was accepted, under numbers that go on from the start; and the queue has the pairs not yet taken
pub record FitsQueue (start : Start) (h : List EntrySeen) (places : List ℕ) (queue : List Pair) : Type 0 where
  pub lead : map (accepted_at h) places ≡ map (λ a. Some a.conforming) (accepted h)
  pub numbered : CountFrom start.acceptances (map (λ a. a.n) (accepted h))
  pub queue_is : queue ≡ drop (jobs h) (issued h)
  pub taken : jobs h ≤ length (issued h)

-- a message under the number of its acceptance
abbrev pub under : ℕ → ConformingSeen → Acceptance
under n c = record { n = n; conforming = c }

-- the reply that gives a pair with what was accepted under its number
abbrev pub job_reply : Option (Pair × ConformingSeen) → ReplySeen
job_reply None = IsIdle
job_reply (Some job) = IsJob job.0.n job.0.receiver job.1

-- the reply to what is put, by what its pair is
abbrev pub put_reply : Status → TranslatedSeen → ReplySeen
put_reply Waiting t = IsKept
put_reply Repeat t = IsRepeat t
put_reply Stranger t = IsStranger (Some t)

-- the reply to a pair that is to be issued again, by what it is
abbrev pub issue_reply : Status → ReplySeen
issue_reply Waiting = IsIssued
issue_reply Repeat = IsDone
issue_reply Stranger = IsStranger None

-- the reply that gives out what is next for a receiver, where it is kept
abbrev pub release_reply : Option (ℕ × TranslatedSeen) → ReplySeen
release_reply None = IsNothing
release_reply (Some next) = IsOut next.0 next.1

-- the books of a gate whose journal starts so and has these entries
pub record Fits (start : Start) (h : List EntrySeen) (b : BooksSeen) : Type 0 where
  pub starts : CanStart start
  pub plans : FitsPlan start h b.version b.plan
  pub arrivals : FitsArrivals start h b.arrivals
  pub queue : FitsQueue start h b.places b.queue
  pub desks : (r : ℕ) → StandsAt h r (b.desk r)
  pub within : length h ≤ most

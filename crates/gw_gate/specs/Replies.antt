-- What a gate replies to an event, as a function of the journal before it.
use Rattle.std.specs.Prelude.{◌≡◌, ℕ, ◌+◌, nat_le, Bool, true, false, not, ◌&&◌, IsTrue, if◌then◌else◌, List, [], ◌∷◌, length, slice_get, Option, None, Some, is_some, Result, MatchResult}
use Rattle.gw_gate.specs.Parts.{PlanSeen, ConformingSeen, TranslatedSeen, is_under, same_receivers, same_source}
use Rattle.gw_gate.specs.Journal.{EntrySeen, WasAccepted, WasRefused, WasSwapped, WasTaken, WasKept, WasIssued, WasOut, Journal, Acceptance, Pair, from, start_after, with_entry, current, next_number, next_arrival, due, is_due, acceptance, issued, jobs, kept, released}
use Rattle.gw_gate.specs.Chapters.{is_pending}

-- an event
pub data EventSeen : Type 0 where
  Looks : EventSeen
  Arrives : (conforming : ConformingSeen) → EventSeen
  Refuses : (code : ℕ) → EventSeen
  Swaps : (plan : PlanSeen) → EventSeen
  Takes : EventSeen
  Puts : (n : ℕ) → (translated : TranslatedSeen) → EventSeen
  Reissues : (n receiver : ℕ) → EventSeen
  Releases : (receiver : ℕ) → EventSeen
  Cuts : EventSeen

-- a reply
pub data ReplySeen : Type 0 where
  IsCurrent : (version : ℕ) → (plan : PlanSeen) → ReplySeen
  IsAccepted : (n arrival : ℕ) → ReplySeen
  IsStale : (version : ℕ) → (conforming : ConformingSeen) → ReplySeen
  IsRefused : (arrival : ℕ) → ReplySeen
  IsSwapped : (version : ℕ) → ReplySeen
  IsUnlike : (plan : PlanSeen) → ReplySeen
  IsJob : (n receiver : ℕ) → (conforming : ConformingSeen) → ReplySeen
  IsIdle : ReplySeen
  IsKept : ReplySeen
  IsRepeat : (translated : TranslatedSeen) → ReplySeen
  IsStranger : (translated : Option TranslatedSeen) → ReplySeen
  IsIssued : ReplySeen
  IsDone : ReplySeen
  IsOut : (n : ℕ) → (translated : TranslatedSeen) → ReplySeen
  IsNothing : ReplySeen
  IsPending : ReplySeen
  IsClosed : (chapter : Journal) → ReplySeen
  IsFull : (event : EventSeen) → ReplySeen

-- ---- the rows of the table

-- a job is given with what was accepted under its number
abbrev pub job_with : Pair → Option Acceptance → ReplySeen
job_with next None = IsIdle
job_with next (Some a) = IsJob next.n next.receiver a.conforming

-- the reply to Take, by the next pair that was issued
abbrev pub job_of : List EntrySeen → Option Pair → ReplySeen
job_of h None = IsIdle
job_of h (Some next) = job_with next (acceptance h next.n)

-- whether a translation is of what was accepted
abbrev pub is_of : TranslatedSeen → Option Acceptance → Bool
is_of t None = false
is_of t (Some a) = same_source t.source a.conforming

-- whether a translation is not of what is due under this number
abbrev pub is_stranger : List EntrySeen → ℕ → TranslatedSeen → Bool
is_stranger h n t = not (is_due h n t.receiver && is_of t (acceptance h n))

abbrev pub is_kept : List EntrySeen → ℕ → ℕ → Bool
is_kept h n r = is_some (kept h n r)

-- the reply to Release, by what was kept for the next due number
abbrev pub out_with : ℕ → Option TranslatedSeen → ReplySeen
out_with n None = IsNothing
out_with n (Some t) = IsOut n t

-- the reply to Release, by the next due number
abbrev pub out_of : List EntrySeen → ℕ → Option ℕ → ReplySeen
out_of h r None = IsNothing
out_of h r (Some n) = out_with n (kept h n r)

-- the reply to each event, where the journal has room for one more entry
abbrev pub reply_to : Journal → EventSeen → ReplySeen
reply_to j Looks = IsCurrent (current j).number (current j).plan
reply_to j (Arrives c) = if is_under c (current j).number (current j).plan then IsAccepted (next_number j) (next_arrival j) else IsStale (current j).number c
reply_to j (Refuses code) = IsRefused (next_arrival j)
reply_to j (Swaps plan) = if same_receivers plan j.start.plan then IsSwapped ((current j).number + 1) else IsUnlike plan
reply_to j Takes = job_of j.entries (slice_get (issued j.entries) (jobs j.entries))
reply_to j (Puts n t) = if is_stranger j.entries n t then IsStranger (Some t) else if is_kept j.entries n t.receiver then IsRepeat t else IsKept
reply_to j (Reissues n r) = if not (is_due j.entries n r) then IsStranger None else if is_kept j.entries n r then IsDone else IsIssued
reply_to j Cuts = if is_pending j then IsPending else IsClosed j
reply_to j (Releases r) = out_of j.entries r (slice_get (due j.entries r) (length (released j.entries r)))

-- the entry that a reply to an event adds, if it adds one
abbrev pub added : EventSeen → ReplySeen → Option EntrySeen
added (Arrives c) (IsAccepted n arrival) = Some (WasAccepted n arrival c)
added (Refuses code) (IsRefused arrival) = Some (WasRefused arrival code)
added (Swaps plan) (IsSwapped v) = Some (WasSwapped v plan)
added Takes (IsJob n r c) = Some (WasTaken n r)
added (Puts n t) IsKept = Some (WasKept n t)
added (Reissues n r) IsIssued = Some (WasIssued n r)
added (Releases r) (IsOut n t) = Some (WasOut n r t)
added event reply = None

-- the most entries of a journal
abbrev pub most : ℕ
most = 262144

-- Full is given in place of a reply that would add an entry to a journal which has as many as it may have
abbrev pub limited : ℕ → Journal → EventSeen → ReplySeen → ReplySeen
limited limit j event reply = if is_some (added event reply) && nat_le limit (length j.entries) then IsFull event else reply

-- the reply of a gate whose journal may have this many entries
abbrev pub reply_within : ℕ → Journal → EventSeen → ReplySeen
reply_within limit j event = limited limit j event (reply_to j event)

-- the reply
abbrev pub reply : Journal → EventSeen → ReplySeen
reply j event = reply_within most j event

-- ---- steps and journals

-- the journal with the entry, if there is one
abbrev pub with_added : Journal → Option EntrySeen → Journal
with_added j None = j
with_added j (Some e) = with_entry j e

-- the journal that a reply closes, if it closes one
abbrev pub closed_by : ReplySeen → Option Journal
closed_by (IsClosed chapter) = Some chapter
closed_by given = None

-- where a journal was closed, an empty one takes its place whose numbers go on
abbrev pub or_next : Journal → Option Journal → Journal
or_next j None = j
or_next j (Some chapter) = from (start_after chapter)

-- the journal that a reply leaves
abbrev pub left_by : Journal → EventSeen → ReplySeen → Journal
left_by j event given = or_next (with_added j (added event given)) (closed_by given)

-- the journal after an event
abbrev pub after : ℕ → Journal → EventSeen → Journal
after limit j event = left_by j event (reply_within limit j event)

-- whether a reply may be refused after an allocation failure
abbrev pub takes_memory : EventSeen → ReplySeen → Bool
takes_memory event (IsCurrent version plan) = true
takes_memory event (IsClosed chapter) = true
takes_memory event given = is_some (added event given)

-- the stated reply was given, and its entry added
pub record Replied (old : Journal) (event : EventSeen) (given : ReplySeen) (new : Journal) : Type 0 where
  pub reply_is : given ≡ reply old event
  pub new_is : new ≡ after most old event

-- after an allocation failure the event came back, and nothing changed; only a reply that adds an entry, Current and Closed can be refused so
pub record Refused (old : Journal) (event back : EventSeen) (new : Journal) : Type 0 where
  pub back_is : back ≡ event
  pub new_is : new ≡ old
  pub short : IsTrue (takes_memory event (reply old event))

-- one step
abbrev pub Steps : Journal → EventSeen → Result ReplySeen EventSeen → Journal → Type 0
Steps old event result new = MatchResult result (λ given. Replied old event given new) (λ back. Refused old event back new)

-- the entry, where notes are taken
abbrev pub noted : Bool → Option EntrySeen → Option EntrySeen
noted takes o = if takes then o else None

-- a reply, with the note of its entry
pub record Noted (takes : Bool) (old : Journal) (event : EventSeen) (given : ReplySeen) (note : Option EntrySeen) (new : Journal) : Type 0 where
  pub replied : Replied old event given new
  pub note_is : note ≡ noted takes (added event (reply old event))

-- one step, of whose entry a note may be taken
abbrev pub StepsNoted : Bool → Journal → EventSeen → Result (ReplySeen × Option EntrySeen) EventSeen → Journal → Type 0
StepsNoted takes old event result new = MatchResult result (λ r. Noted takes old event r.0 r.1 new) (λ back. Refused old event back new)

-- the replies to these events, in order
abbrev pub replies : ℕ → Journal → List EventSeen → List ReplySeen
replies limit j [] = []
replies limit j (event ∷ events) = reply_within limit j event ∷ replies limit (after limit j event) events

-- the journal after these events
abbrev pub run : ℕ → Journal → List EventSeen → Journal
run limit j [] = j
run limit j (event ∷ events) = run limit (after limit j event) events

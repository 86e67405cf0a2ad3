-- How a session comes there: what each of its steps notes.
use Rattle.std.specs.Prelude.{◌≡◌, ◌↔◌, ℕ, ◌+◌, ◌≤◌, List, [], ◌∷◌, ◌++◌, Option, None, Some}
use Rattle.std.specs.Arc.{arc_value}
use Rattle.gw_ack.specs.declared.reply.Reply.{Reply}
use Rattle.gw_ack.specs.declared.reply.Reply.TheVariants.{Accept, Reject}
use Rattle.gw_er7.specs.Message.{SegmentValue}
use Rattle.gw_gate.specs.Journal.{WasAccepted, WasRefused}
use Rattle.gw_gate.specs.Parts.{PlanSeen, ConformingSeen}
use Rattle.gw_gate.specs.Replies.{ReplySeen, IsCurrent, IsAccepted, IsStale, IsRefused}
use Rattle.gw_gate.specs.Seen.{plan_seen}
use Rattle.gw_gate.specs.Values.{conforming_at}
use Rattle.gw_crew.specs.Notes.{NoteSeen, Looked, WasStale, WasFull, Added}
use Rattle.gw_session.specs.declared.doors.CurrentPlan.{CurrentPlan}
use Rattle.gw_session.specs.declared.doors.NumberedReply.{NumberedReply}
use Rattle.gw_session.specs.declared.doors.ArriveReply.{ArriveReply}
use Rattle.gw_session.specs.declared.doors.ArriveReply.TheVariants as replied
use Rattle.gw_session.specs.declared.arrival.Judgement.{Judgement}
use Rattle.gw_session.specs.declared.arrival.Judgement.TheVariants as judgement
use Rattle.gw_session.specs.declared.arrival.Attempt.{Attempt}
use Rattle.gw_session.specs.declared.arrival.Attempt.TheVariants as attempt
use Rattle.gw_session.specs.Sessions.{HasCode, IsArrival, IsCutShort, IsOutcome, Judged, Tries}

-- ---- what a door replies

-- the plan in force, in the reply to Look
abbrev pub current_of : ReplySeen → Option (ℕ × PlanSeen)
current_of (IsCurrent version plan) = Some (version, plan)
current_of given = None

abbrev pub current_seen : CurrentPlan → ℕ × PlanSeen
current_seen c = (c.version, plan_seen (arc_value c.plan))

-- what came of an arrival
pub data ArriveSeen : Type 0 where
  Taken : (arrival : ℕ) → ArriveSeen
  Back : (conforming : ConformingSeen) → ArriveSeen
  NoRoom : ArriveSeen

abbrev pub arrive_seen : ArriveReply → ArriveSeen
arrive_seen (replied.Accepted arrival) = Taken arrival
arrive_seen (replied.Stale c) = Back (conforming_at c)
arrive_seen replied.Full = NoRoom

abbrev pub arrive_of : ReplySeen → ArriveSeen
arrive_of (IsAccepted n arrival) = Taken arrival
arrive_of (IsStale version c) = Back c
arrive_of given = NoRoom

-- the number of an arrival, in the reply to Refuse
abbrev pub arrival_of : ReplySeen → Option ℕ
arrival_of (IsRefused arrival) = Some arrival
arrival_of given = None

-- ---- what is noted of it

-- it was accepted
pub record IsTaken (c : ConformingSeen) (arrival : ℕ) (notes : List NoteSeen) : Type 0 where
  pub at : ℕ
  pub n : ℕ
  pub is : notes ≡ Added at (WasAccepted n arrival c) ∷ []

-- it was stale, and comes back
pub record IsBack (c back : ConformingSeen) (notes : List NoteSeen) : Type 0 where
  pub same : back ≡ c
  pub version : ℕ
  pub is : notes ≡ WasStale version c ∷ []

-- what is noted of an arrival
abbrev pub ComesTo : ConformingSeen → ArriveSeen → List NoteSeen → Type 0
ComesTo c (Taken arrival) notes = IsTaken c arrival notes
ComesTo c (Back back) notes = IsBack c back notes
ComesTo c NoRoom notes = notes ≡ WasFull ∷ []

-- the note of a refusal, by what was to be said: its number, and what is said
pub data EndsIn (asked : Reply) : ℕ → Reply → List NoteSeen → Type 0 where
  refused : (at arrival code : ℕ) → HasCode asked code → EndsIn asked arrival asked (Added at (WasRefused arrival code) ∷ [])
  full : EndsIn asked 0 (Reject 207) (WasFull ∷ [])

-- ---- what a plan says of a message

pub data JudgementSeen : Type 0 where
  Admitted : (conforming : ConformingSeen) → JudgementSeen
  Refused : (reply : Reply) (code : ℕ) → JudgementSeen

abbrev pub judgement_seen : Judgement → JudgementSeen
judgement_seen (judgement.Admitted c) = Admitted (conforming_at c)
judgement_seen (judgement.Refused reply code) = Refused reply code

-- it is accepted, and may arrive
pub record IsAdmitted (m : List SegmentValue) (version : ℕ) (plan : PlanSeen) (c : ConformingSeen) : Type 0 where
  pub judged : Judged plan.text m Accept
  pub arrival : IsArrival m version plan c

-- what the plan says of the message
abbrev pub Judges : List SegmentValue → ℕ → PlanSeen → JudgementSeen → Type 0
Judges m version plan (Admitted c) = IsAdmitted m version plan c
Judges m version plan (Refused reply code) = Judged plan.text m reply × HasCode reply code

-- the plan was looked up, and says this of the message
pub record Asks (m : List SegmentValue) (judgement : JudgementSeen) (notes : List NoteSeen) : Type 0 where
  pub version : ℕ
  pub plan : PlanSeen
  pub is : notes ≡ Looked version plan ∷ []
  pub judges : Judges m version plan judgement

-- ---- how a message arrives

-- these notes are those of a block that was settled so
abbrev pub IsSettled : Option (List SegmentValue) → NumberedReply → List NoteSeen → Type 0
IsSettled what settled notes = IsOutcome what notes settled.number settled.reply

-- after three stale arrivals at most, it is settled with these notes
abbrev pub Settles : List SegmentValue → ℕ → Reply → List NoteSeen → Type 0
Settles m number said notes = (k : ℕ) (tried : List NoteSeen) → k ≤ 3 → Tries m k tried → IsOutcome (Some m) (tried ++ notes) number said

-- it was stale once more, and comes back
pub record OnceMore (m back : List SegmentValue) (notes : List NoteSeen) : Type 0 where
  pub same : back ≡ m
  pub tries : (k : ℕ) (tried : List NoteSeen) → Tries m k tried → Tries m (k + 1) (tried ++ notes)

abbrev pub Attempts : List SegmentValue → Attempt → List NoteSeen → Type 0
Attempts m (attempt.Done turn) notes = Settles m turn.number turn.reply notes
Attempts m (attempt.Stale back) notes = OnceMore m back notes

-- after three stale arrivals at most, it breaks off with these notes
abbrev pub CutsShort : List SegmentValue → List NoteSeen → Type 0
CutsShort m notes = (k : ℕ) (tried : List NoteSeen) → k ≤ 3 → Tries m k tried → IsCutShort (Some m) (tried ++ notes)

-- ---- a session

-- what gives stamps can give the same after as before
abbrev pub SameStamps : (List ℕ → Type 0) → (List ℕ → Type 0) → Type 0
SameStamps Before After = (stamp : List ℕ) → After stamp ↔ Before stamp

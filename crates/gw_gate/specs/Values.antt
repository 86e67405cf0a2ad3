-- Events, replies and entries, without where their parts lie in memory.
use Rattle.std.specs.Prelude.{List, map, Option, Result, Ok, Err, option_map}
use Rattle.std.specs.Arc.{arc_value}
use Rattle.gw_gate.specs.declared.event.Event as event
use Rattle.gw_gate.specs.declared.event.Reply as reply
use Rattle.gw_gate.specs.declared.event.Entry as entry
use Rattle.std.specs.declared.alloc.Global.{Global}
use Rattle.std.specs.declared.vec.Vec.{Vec}
use Rattle.gw_gate.specs.declared.replays.ReplayFault as fault
use Rattle.gw_gate.specs.declared.books.Pair as books
use denote.Ref.{Bor}
use Rattle.std.specs.declared.sync.Arc.{Arc}
use Rattle.gw_gate.specs.Parts.{ConformingSeen}
use Rattle.gw_gate.specs.Seen.{Conforming, plan_seen, conforming_seen, translated_seen}
use Rattle.gw_gate.specs.Entries.{entry_seen}
use Rattle.gw_gate.specs.Journal.{Journal, Pair, pair, EntrySeen}
use Rattle.gw_gate.specs.Replies.{EventSeen, Looks, Arrives, Refuses, Swaps, Takes, Puts, Reissues, Releases, Cuts, ReplySeen, IsCurrent, IsAccepted, IsStale, IsRefused, IsSwapped, IsUnlike, IsJob, IsIdle, IsKept, IsRepeat, IsStranger, IsIssued, IsDone, IsOut, IsNothing, IsPending, IsClosed, IsFull}

abbrev pub event_seen : event.Event → EventSeen
event_seen event.TheVariants.Look = Looks
event_seen (event.TheVariants.Arrive c) = Arrives (conforming_seen (arc_value c))
event_seen (event.TheVariants.Refuse code) = Refuses code
event_seen (event.TheVariants.Swap p) = Swaps (plan_seen (arc_value p))
event_seen event.TheVariants.Take = Takes
event_seen (event.TheVariants.Put n t) = Puts n (translated_seen (arc_value t))
event_seen (event.TheVariants.Reissue n r) = Reissues n r
event_seen (event.TheVariants.Release r) = Releases r
event_seen event.TheVariants.Cut = Cuts

abbrev pub reply_seen : reply.Reply → ReplySeen
reply_seen (reply.TheVariants.Current v p) = IsCurrent v (plan_seen (arc_value p))
reply_seen (reply.TheVariants.Accepted n arrival) = IsAccepted n arrival
reply_seen (reply.TheVariants.Stale v c) = IsStale v (conforming_seen (arc_value c))
reply_seen (reply.TheVariants.Refused arrival) = IsRefused arrival
reply_seen (reply.TheVariants.Swapped v) = IsSwapped v
reply_seen (reply.TheVariants.Unlike p) = IsUnlike (plan_seen (arc_value p))
reply_seen (reply.TheVariants.Job n r c) = IsJob n r (conforming_seen (arc_value c))
reply_seen reply.TheVariants.Idle = IsIdle
reply_seen reply.TheVariants.Kept = IsKept
reply_seen (reply.TheVariants.Repeat t) = IsRepeat (translated_seen (arc_value t))
reply_seen (reply.TheVariants.Stranger t) = IsStranger (option_map (λ x. translated_seen (arc_value x)) t)
reply_seen reply.TheVariants.Issued = IsIssued
reply_seen reply.TheVariants.Done = IsDone
reply_seen (reply.TheVariants.Out n t) = IsOut n (translated_seen (arc_value t))
reply_seen reply.TheVariants.Nothing = IsNothing
reply_seen reply.TheVariants.Pending = IsPending
reply_seen (reply.TheVariants.Closed chapter) = IsClosed chapter
reply_seen (reply.TheVariants.Full e) = IsFull (event_seen e)

abbrev pub note_seen : Option entry.Entry → Option EntrySeen
note_seen o = option_map entry_seen o

-- an admitted message that is shared
abbrev pub conforming_at : Arc Conforming Global → ConformingSeen
conforming_at c = conforming_seen (arc_value c)

abbrev pub pair_seen : books.Pair → Pair
pair_seen p = pair p.n p.receiver

-- one that is borrowed, if there is one
abbrev pub conforming_in : Option (Bor (Arc Conforming Global)) → Option ConformingSeen
conforming_in lent = option_map (λ c. conforming_at c.now) lent

-- a pair that is borrowed with what was accepted under its number
abbrev pub job_seen : books.Pair × Bor (Arc Conforming Global) → Pair × ConformingSeen
job_seen job = (pair_seen job.0, conforming_at job.1.now)

-- what a step answers
abbrev pub answer_seen : Result reply.Reply event.Event → Result ReplySeen EventSeen
answer_seen (Ok given) = Ok (reply_seen given)
answer_seen (Err back) = Err (event_seen back)

-- what a step answers, with the note of its entry
abbrev pub noted_seen : Result (reply.Reply × Option entry.Entry) event.Event → Result (ReplySeen × Option EntrySeen) EventSeen
noted_seen (Ok given) = Ok (reply_seen given.0, note_seen given.1)
noted_seen (Err back) = Err (event_seen back)

-- a gate's journal, with replies
abbrev pub answered_seen : Journal × List reply.Reply → Journal × List ReplySeen
answered_seen r = (r.0, map reply_seen r.1)

-- what a replay gives
abbrev pub replay_seen : Result (Journal × Vec reply.Reply Global) fault.ReplayFault → Result (Journal × List ReplySeen) fault.ReplayFault
replay_seen (Ok r) = Ok (answered_seen (r.0, r.1.items))
replay_seen (Err e) = Err e

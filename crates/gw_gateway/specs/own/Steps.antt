-- How a message comes to its outcome.
use Rattle.std.specs.Prelude.{◌≡◌, ◌≢◌, ℕ, List, Some}
use Rattle.std.specs.Arc.{arc_value}
use Rattle.gw_ack.specs.declared.reply.Reply.{Reply}
use Rattle.gw_ack.specs.declared.reply.Reply.TheVariants.{Accept, Reject}
use Rattle.gw_plan.specs.Admitted.{ConformingHeld}
use Rattle.gw_plan.specs.Shapes.{PlanValue}
use Rattle.gw_plan.specs.Whole.{spelled}
use Rattle.std.specs.Prelude.{Ok}
use Rattle.gw_stream.specs.Answers.{Message}
use Rattle.gw_stream.specs.Served.{Routed}
use Rattle.gw_gateway.specs.declared.judge.Attempt.{Attempt}
use Rattle.gw_gateway.specs.declared.judge.Attempt.TheVariants as attempt
use Rattle.gw_gateway.specs.declared.judge.Judgement.{Judgement}
use Rattle.gw_gateway.specs.declared.judge.Judgement.TheVariants as judgement
use Rattle.gw_gateway.specs.Plans.{PlanState}
use Rattle.gw_gateway.specs.Senders.{HasRecord, Settles}
use Rattle.gw_gateway.specs.Waiting.{GoesOn, IsAwaited, WaitState}

-- the plan of this text says this of the message
pub record Says (text : List ℕ) (m : Message) (reply : Reply) : Type 0 where
  pub plan : PlanValue
  pub spells : spelled text ≡ Ok plan
  pub says : Routed plan m reply

-- the plan accepts it, and it is admitted
pub record IsTaken (p : PlanState) (m : Message) (c : ConformingHeld) : Type 0 where
  pub says : Says p.plan.text m Accept
  pub plan : c.plan ≡ p.plan
  pub message : c.tree.message ≡ m

-- what the plan says of the message
abbrev pub Judges : PlanState → Message → Judgement → Type 0
Judges p m (judgement.Admitted c) = IsTaken p m (arc_value c)
Judges p m (judgement.Refused reply) = Says p.plan.text m reply × (reply ≢ Accept)

module _ (before : List (List ℕ)) (s t : WaitState) (m : Message) where
  -- it was accepted, and its answer waits for its record; or there was no room, or the log takes nothing; or it comes back
  pub data IsArrival : ℕ → Reply → Type 0 where
    accepted : (number : ℕ) → HasRecord (IsAwaited before t) m number → IsArrival number Accept
    unsettled : (number : ℕ) → IsArrival number (Reject 207)

  abbrev pub Arrives : Attempt → Type 0
  Arrives (attempt.Settled outcome) = GoesOn s t × IsArrival outcome.number outcome.reply
  Arrives (attempt.Stale back) = GoesOn s t × (back ≡ m)

  -- it was settled under the plan in force, or comes back
  abbrev pub Attempts : Attempt → Type 0
  Attempts (attempt.Settled outcome) = Settles before s t (Some m) outcome.number outcome.reply
  Attempts (attempt.Stale back) = GoesOn s t × (back ≡ m)

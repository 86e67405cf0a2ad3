-- How a message comes to its outcome.
use Rattle.std.proofs.Common.{◌≡◌, ◌⊎◌, inl, inr, ℕ, ◌<◌, List, Option, Some, refl, sym, ◌∙◌, subst}
use Rattle.std.specs.Prelude.{◌≢◌, Result, Ok, Err, IfOk, OnErr}
use mathlib.Core.List.{IsPrefix}
use Rattle.gw_ack.specs.declared.reply.Reply.{Reply}
use Rattle.gw_ack.specs.declared.reply.Reply.TheVariants.{Accept, Refuse, Reject}
use Rattle.gw_due.specs.Events.{Accepted}
use Rattle.gw_due.specs.Spelling as spelling
use Rattle.gw_er7.specs.Written.{written}
use Rattle.gw_journal.specs.declared.event.Event as happened
use Rattle.gw_journal.specs.Logs.{IsAt, TicketState, log_in}
use Rattle.gw_journal.proofs.Logging.{at_later, log_later}
use Rattle.gw_ledger.specs.Putting.{timed}
use Rattle.gw_plan.specs.Admitted.{BreaksSo, ConformingHeld, IsAdmitted}
use Rattle.gw_plan.specs.Held.{PlanHeld, plan_value}
use Rattle.gw_plan.specs.Routing.{routed}
use Rattle.gw_plan.specs.Whole.{spelled}
use Rattle.gw_stream.specs.declared.judge.Outcome.{Outcome}
use Rattle.gw_stream.specs.Answers.{Message}
use Rattle.gw_stream.specs.Served.{SaidBy}
use Rattle.gw_validate.specs.declared.breach.Breach.{Breach}
use Rattle.gw_gateway.specs.Plans.{IsPlan, PlanState}
use Rattle.gw_gateway.specs.Senders.{HasRecord, IsJudged, Settles}
use Rattle.gw_gateway.specs.Senders as senders
use Rattle.gw_gateway.specs.Waiting.{GoesOn, IsAwaited, WaitState}
use Rattle.gw_gateway.specs.declared.judge.Attempt.{Attempt}
use Rattle.gw_gateway.specs.declared.judge.Attempt.TheVariants as attempt
use Rattle.gw_gateway.specs.own.Steps.{Arrives, Attempts, IsArrival, Says}
use Rattle.gw_gateway.specs.own.Steps as steps
use Rattle.gw_gateway.proofs.Answering.{judged_later}
use Rattle.gw_gateway.proofs.Joining.{goes_both, stays}

-- ---- what a plan says

pub taken_so : (plan : PlanHeld) (version : ℕ) (m : Message) (c : ConformingHeld) → spelled plan.text ≡ Ok (plan_value plan) → IsAdmitted plan version m c → Says plan.text m Accept
taken_so plan version m c spells a = record {
  plan = plan_value plan;
  spells = spells;
  says = subst (λ r. SaidBy r m Accept) (sym a.routed_so) a.conforms;
}

pub nowhere_so : (plan : PlanHeld) (m : Message) (code : ℕ) → spelled plan.text ≡ Ok (plan_value plan) → routed (plan_value plan) m ≡ Err code → Says plan.text m (Reject code)
nowhere_so plan m code spells none = record { plan = plan_value plan; spells = spells; says = subst (λ r. SaidBy r m (Reject code)) (sym none) refl }

pub breaks_so : (plan : PlanHeld) (m : Message) (breach : Breach) → spelled plan.text ≡ Ok (plan_value plan) → BreaksSo plan m breach → Says plan.text m (Refuse breach)
breaks_so plan m breach spells b = record {
  plan = plan_value plan;
  spells = spells;
  says = subst (λ r. SaidBy r m (Refuse breach)) (sym b.routed_so) b.least;
}

pub reject_other : (code : ℕ) → Reject code ≢ Accept
reject_other code same = absurd (cc (same))

pub refuse_other : (breach : Breach) → Refuse breach ≢ Accept
refuse_other breach same = absurd (cc (same))

-- the plan in force says this of the message, in what was seen of the journal
pub judged_so : (before : List (List ℕ)) (p : PlanState) (history : List happened.Event) (m : Message) (reply : Reply) → IsPlan before p → IsPrefix p.history history
    → Says p.plan.text m reply → IsJudged before history m reply
judged_so before p history m reply is seen says =
    judged_later before p.history history m reply seen (record {
      place = p.place;
      text = p.plan.text;
      stands = λ faithful entries spells. (is.stands faithful entries spells).there;
      plan = says.plan;
      spells = says.spells;
      says = says.says;
    })

-- ---- what came of an arrival

-- its record stands in what was seen of the journal
pub record_put : (before : List (List ℕ)) (t : WaitState) (m : Message) (number time : ℕ) (to : List ℕ) (ticket : TicketState)
    → IsAt ticket.place (spelling.spelled (timed time (Accepted number to (written m)))) (log_in before ticket.history) → IsPrefix ticket.history t.history
    → ticket.place < t.upto → HasRecord (IsAwaited before t) m number
record_put before t m number time to ticket there seen below = record {
  place = ticket.place;
  time = time;
  to = to;
  stands = record {
    there = at_later ticket.place _ (log_in before ticket.history) (log_in before t.history) (log_later before ticket.history t.history seen) there;
    below = below;
  };
}

pub settles_taken : (before : List (List ℕ)) (s mid t : WaitState) (m : Message) (number : ℕ) (reply : Reply) → GoesOn s mid → GoesOn mid t
    → IsJudged before mid.history m Accept → IsArrival before mid t m number reply → Settles before s t (Some m) number reply
settles_taken before s mid t m number _ first on judged (steps.accepted _ record_) = record {
  on = goes_both s mid t first on;
  said = senders.accepted m number (judged_later before mid.history t.history m Accept on.history judged) record_;
}
settles_taken before s mid t m number _ first on judged (steps.unsettled _) = record { on = goes_both s mid t first on; said = senders.unsettled (Some m) number }

pub settles_refused : (before : List (List ℕ)) (s mid t : WaitState) (m : Message) (number : ℕ) (why reply : Reply) → GoesOn s mid → GoesOn mid t
    → IsJudged before mid.history m why → why ≢ Accept → (reply ≡ why) ⊎ (reply ≡ Reject 207) → Settles before s t (Some m) number reply
settles_refused before s mid t m number why reply first on judged other (inl same) =
    subst (λ r. Settles before s t (Some m) number r) (sym same) (record {
      on = goes_both s mid t first on;
      said = senders.judged m number why other (judged_later before mid.history t.history m why on.history judged);
    })
settles_refused before s mid t m number why reply first on judged other (inr same) =
    subst (λ r. Settles before s t (Some m) number r) (sym same) (record { on = goes_both s mid t first on; said = senders.unsettled (Some m) number })

-- it is rejected under 207
pub settles_unsettled : (before : List (List ℕ)) (s t : WaitState) (what : Option Message) (number : ℕ) (reply : Reply) → GoesOn s t → reply ≡ Reject 207
    → Settles before s t what number reply
settles_unsettled before s t what number reply on same =
    subst (λ r. Settles before s t what number r) (sym same) (record { on = on; said = senders.unsettled what number })

pub arrived_so : (before : List (List ℕ)) (s mid w t : WaitState) (m : Message) (n number time : ℕ) (reply : Reply) (to bytes : List ℕ) (ticket : TicketState)
    → mid ≡ s → GoesOn mid w → t ≡ w → IsPrefix ticket.history w.history → ticket.place < w.upto → bytes ≡ written m
    → IsAt ticket.place (spelling.spelled (timed time (Accepted n to bytes))) (log_in before ticket.history) → number ≡ n → reply ≡ Accept
    → GoesOn s t × IsArrival before s t m number reply
arrived_so before s mid w t m n number time reply to bytes ticket first on last seen below spells there same says =
    let goes : GoesOn s w = subst (λ x. GoesOn x w) first on in
    let mine : IsAt ticket.place (spelling.spelled (timed time (Accepted n to (written m)))) (log_in before ticket.history) =
    subst (λ b. IsAt ticket.place (spelling.spelled (timed time (Accepted n to b))) (log_in before ticket.history)) spells there in
    let arrival : IsArrival before s w m n Accept = steps.accepted n (record_put before w m n time to ticket mine seen below) in (
      subst (λ x. GoesOn s x) (sym last) goes,
      subst (λ x. IsArrival before s x m number reply) (sym last)
          (subst (λ k. IsArrival before s w m k reply) (sym same) (subst (λ r. IsArrival before s w m n r) (sym says) arrival)),
    )

pub unsettled_so : (before : List (List ℕ)) (s mid t : WaitState) (m : Message) (number : ℕ) (reply : Reply) → mid ≡ s → t ≡ mid → reply ≡ Reject 207
    → GoesOn s t × IsArrival before s t m number reply
unsettled_so before s mid t m number reply first last says =
    (subst (λ x. GoesOn s x) (sym (last ∙ first)) (stays s), subst (λ r. IsArrival before s t m number r) (sym says) (steps.unsettled number))

-- ---- by results

module _ {E : Type 0} (before : List (List ℕ)) (s mid t : WaitState) (first : GoesOn s mid) where
  pub attempts_of : (m n : Message) (result : Result Attempt E) → n ≡ m → IsJudged before mid.history m Accept → IfOk result (Arrives before mid t n) → IfOk result (Attempts before s t m)
  attempts_of m n (Err e) same judged arrives = tt
  attempts_of m n (Ok (attempt.Settled outcome)) same judged arrives =
      settles_taken before s mid t m outcome.number outcome.reply first arrives.0 judged
      (subst (λ k. IsArrival before mid t k outcome.number outcome.reply) same arrives.1)
  attempts_of m n (Ok (attempt.Stale back)) same judged arrives = (goes_both s mid t first arrives.0, arrives.1 ∙ same)

  pub on_err : {A : Type 0} (result : Result A E) → OnErr result (GoesOn mid t) → OnErr result (GoesOn s t)
  on_err (Ok a) on = tt
  on_err (Err e) on = goes_both s mid t first on

  pub unsettled_of : (what : Option Message) (result : Result Outcome E) → GoesOn mid t → IfOk result (λ outcome. (outcome.reply ≡ Reject 207) ⊎ (outcome.reply ≡ Reject 207))
      → IfOk result (λ outcome. Settles before s t what outcome.number outcome.reply)
  unsettled_of what (Err e) on said = tt
  unsettled_of what (Ok outcome) on (inl same) = settles_unsettled before s t what outcome.number outcome.reply (goes_both s mid t first on) same
  unsettled_of what (Ok outcome) on (inr same) = settles_unsettled before s t what outcome.number outcome.reply (goes_both s mid t first on) same

pub stays_so : (s t : WaitState) → t ≡ s → GoesOn s t
stays_so s t same = subst (λ w. GoesOn s w) (sym same) (stays s)

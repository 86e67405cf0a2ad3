-- How a message arrives.
use Rattle.std.proofs.Common.{◌≡◌, ◌≤◌, ◌+◌, ℕ, List, [], ◌∷◌, ◌++◌, Option, None, Some, Result, IfOk, OnErr, refl, sym, ap, subst, ◌∙◌, arith}
use Rattle.std.proofs.Common.{append_assoc, append-nil}
use Rattle.std.proofs.lemmas.Result.{IfOk-weaker, on_err_weaker}
use Rattle.gw_er7.specs.Message.{SegmentValue}
use Rattle.gw_gate.specs.Parts.{PlanSeen, ConformingSeen}
use Rattle.gw_gate.specs.Seen.{message_seen}
use Rattle.gw_gate.proofs.Asking.{same_messages}
use Rattle.gw_ack.specs.declared.reply.Reply.{Reply}
use Rattle.gw_ack.specs.declared.reply.Reply.TheVariants.{Accept, Reject}
use Rattle.gw_crew.specs.Notes.{NoteSeen, Looked, WasStale}
use Rattle.gw_crew.specs.own.Turns.{Adds}
use Rattle.gw_session.specs.declared.doors.NumberedReply.{NumberedReply}
use Rattle.gw_session.specs.Sessions.{Decides, IsCutShort, IsOutcome, Judged, Tries}
use Rattle.gw_session.specs.Sessions as sessions
use Rattle.gw_session.specs.own.Steps.{Asks, Taken, Back, NoRoom, ComesTo, CutsShort, EndsIn, JudgementSeen, OnceMore, Settles}
use Rattle.gw_session.specs.own.Steps as steps

abbrev Message : Type 0
Message = List SegmentValue

-- ---- notes, one after another

adds_both : (P Q R : List NoteSeen → Type 0) (old mid new : List NoteSeen) → ((more others : List NoteSeen) → P more → Q others → R (more ++ others))
    → Adds P old mid → Adds Q mid new → Adds R old new
adds_both P Q R old mid new to first then = record {
  more = first.more ++ then.more;
  holds = to first.more then.more first.holds then.holds;
  noted = then.noted ∙ ap (λ l. l ++ then.more) first.noted ∙ append_assoc old first.more then.more;
}

adds_same : (P R : List NoteSeen → Type 0) (old mid new : List NoteSeen) → ((more : List NoteSeen) → P more → R more) → Adds P old mid → new ≡ mid
    → Adds R old new
adds_same P R old mid new to adds same = record { more = adds.more; holds = to adds.more adds.holds; noted = same ∙ adds.noted }

pub adds_none : (P : List NoteSeen → Type 0) (old new : List NoteSeen) → P [] → new ≡ old → Adds P old new
adds_none P old new holds same = record { more = []; holds = holds; noted = same ∙ sym (append-nil old) }

-- what was to be said, and its last note
ends_outcome : (what : Option Message) (before last : List NoteSeen) (asked said : Reply) (number : ℕ) → Decides what before asked
    → EndsIn asked number said last → IsOutcome what (before ++ last) number said
ends_outcome what before last asked said number decides (steps.refused at arrival code has) =
    sessions.turned_away what before asked at arrival code decides has
ends_outcome what before last asked said number decides steps.full = sessions.no_room what before asked decides

-- ---- one arrival

module _ (m : Message) where
  -- what is to be said after three stale arrivals at most and this look
  decided : (k : ℕ) (tried notes : List NoteSeen) (asked : Reply) (version : ℕ) (plan : PlanSeen) → k ≤ 3 → Tries m k tried
      → notes ≡ Looked version plan ∷ [] → Judged plan.text m asked → Decides (Some m) (tried ++ notes) asked
  decided k tried notes asked version plan few tries is says =
      subst (λ l. Decides (Some m) (tried ++ l) asked) (sym is) (sessions.judged m k tried version plan asked few tries says)

  pub settles_refused : (asked said : Reply) (code number : ℕ) (old mid new : List NoteSeen) → Adds (Asks m (steps.Refused asked code)) old mid
      → Adds (EndsIn asked number said) mid new → Adds (Settles m number said) old new
  settles_refused asked said code number old mid new =
      adds_both (Asks m (steps.Refused asked code)) (EndsIn asked number said) (Settles m number said) old mid new (λ more others asks ends k tried few tries.
      subst (λ l. IsOutcome (Some m) l number said) (append_assoc tried more others)
      (ends_outcome (Some m) (tried ++ more) others asked said number
      (decided k tried more asked asks.version asks.plan few tries asks.is asks.judges.0) ends))

  -- a look and an acceptance
  pub settles_taken : (c : ConformingSeen) (arrival : ℕ) (old mid new : List NoteSeen) → Adds (Asks m (steps.Admitted c)) old mid
      → Adds (ComesTo c (Taken arrival)) mid new → Adds (Settles m arrival Accept) old new
  settles_taken c arrival old mid new =
      adds_both (Asks m (steps.Admitted c)) (ComesTo c (Taken arrival)) (Settles m arrival Accept) old mid new (λ more others asks came k tried few tries.
      subst (λ l. IsOutcome (Some m) (tried ++ l) arrival Accept)
      (sym (ap (λ l. l ++ others) asks.is ∙ ap (λ l. Looked asks.version asks.plan ∷ l) came.is))
      (sessions.taken m k tried asks.version asks.plan came.at came.n arrival c few tries asks.judges.judged asks.judges.arrival))

  pub settles_full : (c : ConformingSeen) (old mid new : List NoteSeen) → Adds (Asks m (steps.Admitted c)) old mid
      → Adds (ComesTo c NoRoom) mid new → Adds (Settles m 0 (Reject 207)) old new
  settles_full c old mid new =
      adds_both (Asks m (steps.Admitted c)) (ComesTo c NoRoom) (Settles m 0 (Reject 207)) old mid new (λ more others asks came k tried few tries.
      subst (λ l. IsOutcome (Some m) l 0 (Reject 207)) (append_assoc tried more others)
      (subst (λ l. IsOutcome (Some m) ((tried ++ more) ++ l) 0 (Reject 207)) (sym came)
      (sessions.no_room (Some m) (tried ++ more) Accept
      (decided k tried more Accept asks.version asks.plan few tries asks.is asks.judges.judged))))

  -- a look and a stale arrival
  stale_notes : (c back : ConformingSeen) (looks came : List NoteSeen) → Asks m (steps.Admitted c) looks → steps.IsBack c back came → (k : ℕ)
      (tried : List NoteSeen) → Tries m k tried → Tries m (k + 1) (tried ++ (looks ++ came))
  stale_notes c back looks came asks is k tried tries =
      let both : looks ++ came ≡ Looked asks.version asks.plan ∷ WasStale is.version c ∷ [] =
      ap (λ l. l ++ came) asks.is ∙ ap (λ l. Looked asks.version asks.plan ∷ l) is.is in
      subst (λ l. Tries m (k + 1) (tried ++ l)) (sym both)
      (sessions.stale k tried asks.version is.version asks.plan c tries asks.judges.arrival)

  pub once_more : (c d : ConformingSeen) (back : Message) (old mid new : List NoteSeen) → d.message ≡ message_seen back
      → Adds (Asks m (steps.Admitted c)) old mid → Adds (ComesTo c (Back d)) mid new → Adds (OnceMore m back) old new
  once_more c d back old mid new seen =
      adds_both (Asks m (steps.Admitted c)) (ComesTo c (Back d)) (OnceMore m back) old mid new (λ more others asks came. record {
        same = same_messages back m (sym seen ∙ ap (λ x. x.message) came.same ∙ asks.judges.arrival.message);
        tries = stale_notes c d more others asks came;
      })

  -- ---- one arrival that breaks off

  pub cuts_none : (old new : List NoteSeen) → new ≡ old → Adds (CutsShort m) old new
  cuts_none old new = adds_none (CutsShort m) old new (λ k tried few tries.
      subst (λ l. IsCutShort (Some m) l) (sym (append-nil tried)) (sessions.tried m k tried (omega arith) tries))

  pub cuts_looked : (version : ℕ) (plan : PlanSeen) (old new : List NoteSeen) → new ≡ old ++ Looked version plan ∷ [] → Adds (CutsShort m) old new
  cuts_looked version plan old new noted =
      record { more = Looked version plan ∷ []; holds = λ k tried few tries. sessions.looked m k tried version plan few tries; noted = noted }

  pub cuts_after_look : (judgement : JudgementSeen) (old mid new : List NoteSeen) → Adds (Asks m judgement) old mid → new ≡ mid
      → Adds (CutsShort m) old new
  cuts_after_look judgement old mid new =
      adds_same (Asks m judgement) (CutsShort m) old mid new (λ looks asks k tried few tries.
      subst (λ l. IsCutShort (Some m) (tried ++ l)) (sym asks.is) (sessions.looked m k tried asks.version asks.plan few tries))

  pub cuts_after_stale : (c d : ConformingSeen) (old mid new : List NoteSeen) → Adds (Asks m (steps.Admitted c)) old mid
      → Adds (ComesTo c (Back d)) mid new → Adds (CutsShort m) old new
  cuts_after_stale c d old mid new =
      adds_both (Asks m (steps.Admitted c)) (ComesTo c (Back d)) (CutsShort m) old mid new (λ more others asks came k tried few tries.
      sessions.tried m (k + 1) (tried ++ (more ++ others)) (omega arith) (stale_notes c d more others asks came k tried tries))

  -- ---- all arrivals

  pub tries_none : (old : List NoteSeen) → Adds (Tries m 0) old old
  tries_none old = adds_none (Tries m 0) old old sessions.untried refl

  pub if_gives_up : {E : Type 0} (r : Result NumberedReply E) (k : ℕ) (old mid new : List NoteSeen) → k ≡ 4 → Adds (Tries m k) old mid
      → IfOk r (λ settled. Adds (EndsIn (Reject 207) settled.number settled.reply) mid new)
      → IfOk r (λ settled. Adds (λ notes. IsOutcome (Some m) notes settled.number settled.reply) old new)
  if_gives_up r k old mid new four tries =
      IfOk-weaker r (λ settled. Adds (EndsIn (Reject 207) settled.number settled.reply) mid new)
      (λ settled. Adds (λ notes. IsOutcome (Some m) notes settled.number settled.reply) old new) (λ settled.
      adds_both (Tries m 4) (EndsIn (Reject 207) settled.number settled.reply) (λ notes. IsOutcome (Some m) notes settled.number settled.reply) old mid new
      (λ more others given ends.
      ends_outcome (Some m) more others (Reject 207) settled.reply settled.number (sessions.given_up m more given) ends)
      (subst (λ n. Adds (Tries m n) old mid) four tries))

  pub unless_gives_up : {T E : Type 0} (r : Result T E) (k : ℕ) (old mid new : List NoteSeen) → k ≡ 4 → Adds (Tries m k) old mid → OnErr r (new ≡ mid)
      → OnErr r (Adds (IsCutShort (Some m)) old new)
  unless_gives_up r k old mid new four tries =
      on_err_weaker r
      (adds_same (Tries m 4) (IsCutShort (Some m)) old mid new (λ more given. sessions.tried m 4 more (omega arith) given)
      (subst (λ n. Adds (Tries m n) old mid) four tries))

-- ---- what can't be read

-- it is refused at once
pub if_unreadable : {E : Type 0} (r : Result NumberedReply E) (old new : List NoteSeen)
    → IfOk r (λ settled. Adds (EndsIn (Reject 207) settled.number settled.reply) old new)
    → IfOk r (λ settled. Adds (λ notes. IsOutcome None notes settled.number settled.reply) old new)
if_unreadable r old new =
    IfOk-weaker r (λ settled. Adds (EndsIn (Reject 207) settled.number settled.reply) old new)
    (λ settled. Adds (λ notes. IsOutcome None notes settled.number settled.reply) old new) (λ settled given.
    adds_same (EndsIn (Reject 207) settled.number settled.reply) (λ notes. IsOutcome None notes settled.number settled.reply) old new new (λ more ends.
    ends_outcome None [] more (Reject 207) settled.reply settled.number sessions.no_message ends) given refl)

pub unless_unreadable : {T E : Type 0} (r : Result T E) (old new : List NoteSeen) → OnErr r (new ≡ old) → OnErr r (Adds (IsCutShort None) old new)
unless_unreadable r old new = on_err_weaker r (adds_none (IsCutShort None) old new (sessions.at_once None))

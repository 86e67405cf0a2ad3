-- A forwarder's records, as what was due to a receiver.
use Rattle.std.proofs.Common.{◌≡◌, ◌⊎◌, inl, inr, ℕ, Bool, true, false, List, [], ◌∷◌, ◌++◌, Option, None, Some, refl, ap, sym, subst, ◌∙◌, append_assoc}
use Rattle.std.proofs.lemmas.List.{append-nil}
use Rattle.std.specs.List.{AllByRecursion}
use Rattle.std.specs.Io.KnownBytes.{Appends}
use Rattle.std.specs.Prelude.{IsNone, IsSome, IfSome, IfOk, IfErr, OnOk, OnErr, Result, Ok, Err}
use mathlib.Core.List.{IsPrefix}
use Rattle.gw_ack.specs.declared.receipt.Ack.{Ack}
use Rattle.gw_due.specs.Due.{passed}
use Rattle.gw_due.specs.Events.{How}
use Rattle.gw_mllp.specs.Stream.{block}
use Rattle.gw_stream.specs.Sent as device
use Rattle.gw_forward.specs.declared.outbox.Outbox as outbox
use Rattle.gw_forward.specs.declared.fault.ForwardFault.{ForwardFault}
use Rattle.gw_forward.specs.declared.fault.OutboxFault.{OutboxFault}
use Rattle.gw_forward.specs.declared.forwarding.Ended.{Ended}
use Rattle.gw_forward.specs.Forwards.{Breaks, Finishes, Forwards, Sends, none_left, none_sent, not_given, not_made, not_settled, sent_last, sent_one, unsendable, unsent}
use Rattle.gw_journal.specs.declared.event.Event as happened
use Rattle.gw_ledger.specs.Backlogs.{BacklogState, BeginsWith, GoesOn, HasPassed, IsFirstLeft, OnDisk, WasFirst}
use Rattle.gw_ledger.specs.Finding.{InJournal}
use Rattle.gw_ledger.specs.Ledgers.{events_of}
use Rattle.gw_ledger.proofs.Remaining.{goes_same, goes_trans, parts, prefix_trans}
use Rattle.gw_delivery.specs.Delivering.{Delivers, EndsWith, HasDelivered, HasStopped, IsHandedOver, IsRunBetween, all_passed, at_once, later, none_yet, one_again, one_begun, one_more}
use Rattle.gw_delivery.specs.Made.{IsMadeAt}
use Rattle.gw_delivery.proofs.Making.{made_stays}
use Rattle.gw_delivery.proofs.Seeing.{later as seen_later}
use Rattle.gw_delivery.specs.Waiting.{Closes, Follows, Gives, IsHanded, IsNextFor, IsPassed, Keeps, NextState, PassesAs, PassesNext, Settles, Stays, WaitingState, how, reason_of}

-- ---- what is left, as it goes on

-- what was seen of what is left is still known
pub record Known (before : List (List ℕ)) (was : BacklogState) (new : Option BacklogState) : Type 0 where
  pub now : BacklogState
  pub is : new ≡ Some now
  pub on : GoesOn before was now []

known : (before : List (List ℕ)) (was : BacklogState) (old new : Option BacklogState) → old ≡ Some was → Follows before old new → Known before was new
known before was None new is follows = absurd (cc is)
known before was (Some other) None is follows = absurd follows
known before was (Some other) (Some now) is follows =
    let same : other ≡ was = cc is in
    record { now = now; is = refl; on = subst (λ b. GoesOn before b now []) same follows }

pub follows_same : (before : List (List ℕ)) (old new : Option BacklogState) → new ≡ old → Follows before old new
follows_same before None new same = tt
follows_same before (Some was) new same = subst (λ o. Follows before (Some was) o) (sym same) (goes_same before was)

pub follows_trans : (before : List (List ℕ)) (a b c : Option BacklogState) → Follows before a b → Follows before b c → Follows before a c
follows_trans before None b c f g = tt
follows_trans before (Some was) None c f g = absurd f
follows_trans before (Some was) (Some mid) None f g = absurd g
follows_trans before (Some was) (Some mid) (Some now) f g = goes_trans before was mid now [] [] f g

pub stays_trans : (before : List (List ℕ)) (a b c : WaitingState) → Stays before a b → Stays before b c → Stays before a c
stays_trans before a b c f g = record {
  receiver = g.receiver ∙ f.receiver;
  name = g.name ∙ f.name;
  backlog = follows_trans before a.backlog b.backlog c.backlog f.backlog g.backlog;
}

pub gives_behind : (before : List (List ℕ)) (a b c : WaitingState) (bytes : List ℕ) → Stays before a b → Gives before b c bytes → Gives before a c bytes
gives_behind before a b c bytes f g = record { stays = stays_trans before a b c f g.stays; given = g.given }

pub closes_behind : (before : List (List ℕ)) (a b c : WaitingState) → Stays before a b → Closes before b c → Closes before a c
closes_behind before a b c f g = record { receiver = g.receiver ∙ f.receiver; name = g.name ∙ f.name; backlog = by g.backlog } where
  by : IsNone c.backlog ⊎ Follows before b.backlog c.backlog → IsNone c.backlog ⊎ Follows before a.backlog c.backlog
  by (inl none) = inl none
  by (inr follows) = inr (follows_trans before a.backlog b.backlog c.backlog f.backlog follows)

-- what is left is the same
pub kept_stays : (before : List (List ℕ)) (a b : WaitingState) → b.receiver ≡ a.receiver → b.name ≡ a.name → b.backlog ≡ a.backlog → Stays before a b
kept_stays before a b receiver name same = record { receiver = receiver; name = name; backlog = follows_same before a.backlog b.backlog same }

pub kept : (before : List (List ℕ)) (a b : WaitingState) → Keeps a b → Stays before a b
kept before a b k = kept_stays before a b k.receiver k.name k.backlog

unchanged : (before : List (List ℕ)) (a b : WaitingState) → b ≡ a → Stays before a b
unchanged before a b same =
    kept_stays before a b (ap (λ (w : WaitingState). w.receiver) same) (ap (λ (w : WaitingState). w.name) same) (ap (λ (w : WaitingState). w.backlog) same)

-- it was looked up, where that wasn't done yet
pub begun_stays : (before : List (List ℕ)) (a b : WaitingState) → b.receiver ≡ a.receiver → b.name ≡ a.name → IfSome a.backlog (λ was. b.backlog ≡ Some was) → Stays before a b
begun_stays before a b receiver name same = record { receiver = receiver; name = name; backlog = by a.backlog same } where
  by : (o : Option BacklogState) → IfSome o (λ was. b.backlog ≡ Some was) → Follows before o b.backlog
  by None same = tt
  by (Some was) same = follows_same before (Some was) b.backlog same

-- ---- behind a step that passed nothing

pub any_err : {A E : Type 0} (r : Result A E) (P : Type 0) → P → IfErr r (λ fault. P)
any_err (Ok x) P holds = tt
any_err (Err fault) P holds = holds

module _ {V E : Type 0} (items : V → List ℕ) (before : List (List ℕ)) (a b c : WaitingState) (stays : Stays before a b) where
  pub given_behind : (r : Result (Option V) E) → IfOk r (λ found. IfSome found (λ x. Gives before b c (items x)))
      → IfOk r (λ found. IfSome found (λ x. Gives before a c (items x)))
  given_behind (Ok None) given = tt
  given_behind (Ok (Some x)) given = gives_behind before a b c (items x) stays given
  given_behind (Err fault) given = tt

  pub closed_behind : (r : Result (Option V) E) → IfOk r (λ found. IsNone found → Closes before b c) → IfOk r (λ found. IsNone found → Closes before a c)
  closed_behind (Ok found) closed = λ none. closes_behind before a b c stays (closed none)
  closed_behind (Err fault) closed = tt

  pub broken_behind : (r : Result (Option V) E) → OnErr r (Keeps b c) → IfErr r (λ fault. Stays before a c)
  broken_behind (Ok found) broken = tt
  broken_behind (Err fault) broken = stays_trans before a b c stays (kept before b c broken)

-- what is next was given
pub gives_by : (before : List (List ℕ)) (receiver : ℕ) (name : List ℕ) (old : Option BacklogState) (was now : BacklogState) (next : NextState) (nexts : Option NextState)
    (place : ℕ) (bytes : List ℕ) → old ≡ Some was → nexts ≡ Some next → was.receiver ≡ receiver → next.name ≡ name → BeginsWith before was now place
    → place ≡ next.place → IsNextFor before next → IsPrefix next.history now.history → bytes ≡ next.bytes
    → Gives before (record { receiver = receiver; name = name; backlog = old; next = nexts })
    (record { receiver = receiver; name = name; backlog = Some now; next = nexts }) bytes
gives_by before receiver name old was now next nexts place bytes is there of named first at made p are = record {
  stays = record { receiver = refl; name = refl; backlog = subst (λ o. Follows before o (Some now)) (sym is) first.on };
  given = record {
    backlog = now;
    left = refl;
    next = next;
    is = there;
    handed = record {
      of = first.on.receiver ∙ of;
      first = subst (λ k. InJournal (IsFirstLeft receiver k) before now.history) at
          (subst (λ r. InJournal (IsFirstLeft r place) before now.history) of first.first);
      kept = subst (λ k. OnDisk (IsFirstLeft receiver k) before now.history) at
          (subst (λ r. OnDisk (IsFirstLeft r place) before now.history) of first.kept);
      made = subst (λ b. InJournal (IsMadeAt name next.place b) before now.history) (sym are)
          (subst (λ n. InJournal (IsMadeAt n next.place next.bytes) before now.history) named
          (seen_later (IsMadeAt next.name next.place next.bytes) before next.history now.history (made_stays next.name next.place next.bytes) made.made p));
    };
  };
}

-- ---- runs

appends_none : (had : Option (List ℕ)) → Appends had had []
appends_none None = tt
appends_none (Some bytes) = sym (append-nil bytes)

appends_more : (a b c : Option (List ℕ)) (xs ys : List ℕ) → Appends a b xs → Appends b c ys → Appends a c (xs ++ ys)
appends_more None b c xs ys p q = tt
appends_more (Some a) None c xs ys p q = absurd p
appends_more (Some a) (Some b) None xs ys p q = absurd q
appends_more (Some a) (Some b) (Some c) xs ys p q = q ∙ ap (λ l. l ++ ys) p ∙ append_assoc a xs ys

-- what was the first that is left at a moment, was so at one before each later moment
all_later : (before : List (List ℕ)) (receiver : ℕ) (old new : List happened.Event) (places : List ℕ) → IsPrefix old new
    → AllByRecursion (λ place. WasFirst before receiver place old) places → AllByRecursion (λ place. WasFirst before receiver place new) places
all_later before receiver old new [] p kept = tt
all_later before receiver old new (place ∷ places) p kept =
    (record { at = kept.0.at; until = prefix_trans kept.0.at old new kept.0.until p; first = kept.0.first }, all_later before receiver old new places p kept.1)

all_more : (P : ℕ → Type 0) (places : List ℕ) (place : ℕ) → AllByRecursion P places → P place → AllByRecursion P (places ++ place ∷ [])
all_more P [] place kept one = (one, tt)
all_more P (first ∷ places) place kept one = (kept.0, all_more P places place kept.1 one)

module _ (before : List (List ℕ)) (receiver : ℕ) (name : List ℕ) where
  goes : (from to : BacklogState) (places sent : List ℕ) → Delivers before receiver name from places sent to → GoesOn before from to places
  goes from _ _ _ none_yet = goes_same before from
  goes from to _ _ (one_more places sent mid given _ place bytes passed history was on handed stored last) =
      let first = goes_trans before from mid given places [] (goes from mid places sent was) on in
      subst (λ l. GoesOn before from to l) (ap (λ l. l ++ place ∷ []) (append-nil places)) (goes_trans before from given to (places ++ []) (place ∷ []) first last)

  -- each was the first that is left by what was on the disk, when it was sent
  kept_of : (from to : BacklogState) (places sent : List ℕ) → Delivers before receiver name from places sent to
      → AllByRecursion (λ place. WasFirst before receiver place to.history) places
  kept_of from _ _ _ none_yet = tt
  kept_of from to _ _ (one_more places sent mid given _ place bytes passed history was on handed stored last) =
      all_more (λ place. WasFirst before receiver place to.history) places place
      (all_later before receiver mid.history to.history places (prefix_trans mid.history given.history to.history on.later last.later) (kept_of from mid places sent was))
      (record { at = given.history; until = last.later; first = handed.kept })

  -- those that were passed, and perhaps the first that is left then
  run_of : (start end : BacklogState) (passed last : List ℕ) → start.receiver ≡ receiver → GoesOn before start end passed
      → (last ≡ []) ⊎ ((place : ℕ) × (last ≡ place ∷ []) × InJournal (IsFirstLeft receiver place) before end.history)
      → IsRunBetween before receiver start.history end.history (passed ++ last)
  run_of start end done last is on sends faithful these those spells later_spells =
      let cut = parts before start.history end.history these those on.later spells later_spells in
      record {
        more = (events_of cut.rest, sym cut.is);
        taken = done;
        done = subst (λ r. HasPassed r done (events_of these) (events_of those)) is (on.passed faithful these those spells later_spells);
        sends = by sends;
      }
    where
      by : (last ≡ []) ⊎ ((place : ℕ) × (last ≡ place ∷ []) × InJournal (IsFirstLeft receiver place) before end.history)
          → (done ++ last ≡ done) ⊎ ((next : ℕ) × IsFirstLeft receiver next (events_of those) × (done ++ last ≡ done ++ next ∷ []))
      by (inl none) = inl (ap (λ l. done ++ l) none ∙ append-nil done)
      by (inr (place, one, first)) = inr (place, first faithful those later_spells, ap (λ l. done ++ l) one)

  over_none : (start mid : BacklogState) (places sent : List ℕ) → start.receiver ≡ receiver → Delivers before receiver name start places sent mid
      → IsHandedOver before receiver name start mid places sent
  over_none start mid places sent is delivers = record {
    passed = places;
    settled = sent;
    mid = mid;
    delivers = delivers;
    last = [];
    rest = [];
    ends = all_passed;
    places_are = sym (append-nil places);
    sent_is = sym (append-nil sent);
    run = subst (λ l. IsRunBetween before receiver start.history mid.history l) (append-nil places)
        (run_of start mid places [] is (goes start mid places sent delivers) (inl refl));
    kept = kept_of start mid places sent delivers;
  }

  over_one : (start mid given : BacklogState) (places sent rest : List ℕ) (place : ℕ) (bytes : List ℕ) → start.receiver ≡ receiver
      → Delivers before receiver name start places sent mid → GoesOn before mid given [] → IsHanded before receiver name place bytes given
      → EndsWith before receiver name mid (place ∷ []) rest given
      → IsHandedOver before receiver name start given (places ++ place ∷ []) (sent ++ rest)
  over_one start mid given places sent rest place bytes is delivers on handed ends =
      let whole : GoesOn before start given places = subst (λ l. GoesOn before start given l) (append-nil places)
      (goes_trans before start mid given places [] (goes start mid places sent delivers) on) in
      record {
        passed = places;
        settled = sent;
        mid = mid;
        delivers = delivers;
        last = place ∷ [];
        rest = rest;
        ends = ends;
        places_are = refl;
        sent_is = refl;
        run = run_of start given places (place ∷ []) is whole (inr (place, refl, handed.first));
        kept = all_more (λ place. WasFirst before receiver place given.history) places place
            (all_later before receiver mid.history given.history places on.later (kept_of start mid places sent delivers))
            (record { at = given.history; until = ([], append-nil given.history); first = handed.kept });
      }

-- ---- what a forwarder did

module _ {O : Type 0} (of : outbox.Ghosts O) (see : O → WaitingState) (before : List (List ℕ))
    (gives : (s t : O) (bytes : List ℕ) → of.gives s t bytes → Gives before (see s) (see t) bytes)
    (closes : (s t : O) → of.closes s t → Closes before (see s) (see t))
    (settles : (s t : O) (ack : Ack) (taken : Bool) → of.settles s t ack taken → Settles before (see s) (see t) ack taken)
    (start : BacklogState) where
  -- so much was sent and passed, and this is left
  record SoFar (from to : O) (sent : List ℕ) : Type 0 where
    receiver : (see to).receiver ≡ (see from).receiver
    name : (see to).name ≡ (see from).name
    mid : BacklogState
    is : (see to).backlog ≡ Some mid
    places : List ℕ
    delivers : Delivers before (see from).receiver (see from).name start places sent mid

  -- one more was given, which is the first that is left
  record Given (from mid given : O) (was : BacklogState) (bytes : List ℕ) : Type 0 where
    receiver : (see given).receiver ≡ (see from).receiver
    name : (see given).name ≡ (see from).name
    now : BacklogState
    is : (see given).backlog ≡ Some now
    on : GoesOn before was now []
    next : NextState
    next_is : (see given).next ≡ Some next
    handed : IsHanded before (see from).receiver (see from).name next.place bytes now

  given_so : (from mid to : O) (sent bytes : List ℕ) (s : SoFar from mid sent) (g : Gives before (see mid) (see to) bytes)
      (k : Known before s.mid (see to).backlog) → g.given.backlog ≡ k.now → Given from mid to s.mid bytes
  given_so from mid to sent bytes s g k same = record {
    receiver = g.stays.receiver ∙ s.receiver;
    name = g.stays.name ∙ s.name;
    now = k.now;
    is = k.is;
    on = k.on;
    next = g.given.next;
    next_is = g.given.is;
    handed = subst (λ b. IsHanded before (see from).receiver (see from).name g.given.next.place bytes b) same
        (subst (λ n. IsHanded before (see from).receiver n g.given.next.place bytes g.given.backlog) (g.stays.name ∙ s.name)
        (subst (λ r. IsHanded before r (see to).name g.given.next.place bytes g.given.backlog) (g.stays.receiver ∙ s.receiver) g.given.handed));
  }

  given_known : (from mid to : O) (sent bytes : List ℕ) (s : SoFar from mid sent) (g : Gives before (see mid) (see to) bytes)
      (k : Known before s.mid (see to).backlog) → Given from mid to s.mid bytes
  given_known from mid to sent bytes s g k = given_so from mid to sent bytes s g k (cc (g.given.left, k.is))

  given_by : (from mid to : O) (sent bytes : List ℕ) → (s : SoFar from mid sent) → of.gives mid to bytes → Given from mid to s.mid bytes
  given_by from mid to sent bytes s is =
      given_known from mid to sent bytes s (gives mid to bytes is) (known before s.mid (see mid).backlog (see to).backlog s.is (gives mid to bytes is).stays.backlog)

  -- that one was passed
  passed_by : (from mid given to : O) (sent bytes : List ℕ) (way : How) (w : SoFar from mid sent) (g : Given from mid given w.mid bytes)
      (p : PassesNext before (see given) (see to) way) → p.next ≡ g.next → p.passes.was ≡ g.now
      → IsPassed before p.passes.was.receiver p.next.place way p.passes.history → GoesOn before p.passes.was p.passes.now (p.next.place ∷ [])
      → SoFar from to (sent ++ block bytes)
  passed_by from mid given to sent bytes way w g p same_next same_left stored on = record {
    receiver = p.passes.receiver ∙ g.receiver;
    name = p.passes.name ∙ g.name;
    mid = p.passes.now;
    is = p.passes.left_now;
    places = w.places ++ g.next.place ∷ [];
    delivers = one_more w.places sent w.mid g.now p.passes.now g.next.place bytes way p.passes.history w.delivers g.on g.handed
        (subst (λ r. IsPassed before r g.next.place way p.passes.history) g.handed.of
        (subst (λ (b : BacklogState). IsPassed before b.receiver g.next.place way p.passes.history) same_left
        (subst (λ (n : NextState). IsPassed before p.passes.was.receiver n.place way p.passes.history) same_next stored)))
        (subst (λ b. GoesOn before b p.passes.now (g.next.place ∷ [])) same_left
        (subst (λ (n : NextState). GoesOn before p.passes.was p.passes.now (n.place ∷ [])) same_next on));
  }

  same_some : {A : Type 0} (o : Option A) (x y : A) → o ≡ Some x → o ≡ Some y → y ≡ x
  same_some o x y p q = cc (p, q)

  one_sent : (from mid given to : O) (sent bytes : List ℕ) (way : How) (w : SoFar from mid sent) (g : Given from mid given w.mid bytes)
      → PassesNext before (see given) (see to) way → SoFar from to (sent ++ block bytes)
  one_sent from mid given to sent bytes way w g p =
      passed_by from mid given to sent bytes way w g p (same_some (see given).next g.next p.next g.next_is p.was_next)
      (same_some (see given).backlog g.now p.passes.was g.is p.passes.left) p.passes.stored p.passes.on

  sent_more : (from mid given to : O) (sent bytes : List ℕ) (ack : Ack) → SoFar from mid sent → of.gives mid given bytes
      → of.settles given to ack true → SoFar from to (sent ++ block bytes)
  sent_more from mid given to sent bytes ack w gave settled =
      let was : PassesAs before (see given) (see to) ack = settles given to ack true settled in
      one_sent from mid given to sent bytes (how ack (reason_of was.answer)) w (given_by from mid given sent bytes w gave) was.passes

  so_far : (from : O) (records : List (List ℕ)) (sent : List ℕ) (blocks : List (List ℕ)) (to : O) → (see from).backlog ≡ Some start
      → Sends of from records sent blocks to → SoFar from to sent
  so_far from _ _ _ _ begins none_sent = record { receiver = refl; name = refl; mid = start; is = begins; places = []; delivers = none_yet }
  so_far from _ _ _ _ begins (sent_one records sent blocks mid given to bytes content ack was x settled) =
      sent_more from mid given to sent bytes ack (so_far from records sent blocks mid begins was) x.gives settled

  -- what is kept of it
  none_after : (from mid to : O) (sent : List ℕ) (had has : Option (List ℕ)) → (s : SoFar from mid sent) → Appends had has sent
      → IsNone (see to).backlog ⊎ Follows before (see mid).backlog (see to).backlog → (see from).backlog ≡ Some start → start.receiver ≡ (see from).receiver
      → HasDelivered before (see from) (see to) had has
  none_after from mid to sent had has s wrote kept begins is = record {
    start = start;
    begins = subst (λ o. IfSome o (λ was. start ≡ was)) (sym begins) refl;
    end = s.mid;
    places = s.places;
    sent = sent;
    over = over_none before (see from).receiver (see from).name start s.mid s.places sent is s.delivers;
    wrote = wrote;
    stays = subst (λ o. IsNone (see to).backlog ⊎ Follows before o (see to).backlog) s.is kept;
  }

  -- one more was given, and so much of it was sent
  one_after : (from mid given to : O) (sent part bytes : List ℕ) (had has : Option (List ℕ)) → (s : SoFar from mid sent) → (g : Given from mid given s.mid bytes)
      → EndsWith before (see from).receiver (see from).name s.mid (g.next.place ∷ []) part g.now → Appends had has (sent ++ part)
      → Stays before (see given) (see to) → (see from).backlog ≡ Some start → start.receiver ≡ (see from).receiver → HasDelivered before (see from) (see to) had has
  one_after from mid given to sent part bytes had has s g ends wrote kept begins is = record {
    start = start;
    begins = subst (λ o. IfSome o (λ was. start ≡ was)) (sym begins) refl;
    end = g.now;
    places = s.places ++ g.next.place ∷ [];
    sent = sent ++ part;
    over = over_one before (see from).receiver (see from).name start s.mid g.now s.places sent part g.next.place bytes is s.delivers g.on g.handed ends;
    wrote = wrote;
    stays = inr (subst (λ o. Follows before o (see to).backlog) g.is kept.backlog);
  }

  -- the last one was sent whole, or a beginning of it
  last_with : (from mid given to : O) (sent bytes : List ℕ) (had has : Option (List ℕ)) (s : SoFar from mid sent) → Given from mid given s.mid bytes
      → Appends had has (sent ++ block bytes) → Stays before (see given) (see to) → (see from).backlog ≡ Some start → start.receiver ≡ (see from).receiver
      → HasDelivered before (see from) (see to) had has
  last_with from mid given to sent bytes had has s g wrote kept begins is =
      one_after from mid given to sent (block bytes) bytes had has s g (one_again g.now g.next.place bytes g.on g.handed) wrote kept begins is

  last_after : (from mid given to : O) (sent bytes : List ℕ) (had has : Option (List ℕ)) → SoFar from mid sent → of.gives mid given bytes
      → Appends had has (sent ++ block bytes) → Stays before (see given) (see to) → (see from).backlog ≡ Some start → start.receiver ≡ (see from).receiver
      → HasDelivered before (see from) (see to) had has
  last_after from mid given to sent bytes had has s gave wrote kept begins is =
      last_with from mid given to sent bytes had has s (given_by from mid given sent bytes s gave) wrote kept begins is

  begun_with : (from mid given : O) (sent bytes part : List ℕ) (had has : Option (List ℕ)) (s : SoFar from mid sent) → Given from mid given s.mid bytes
      → device.BeginsWith (block bytes) part → Appends had has (sent ++ part) → (see from).backlog ≡ Some start → start.receiver ≡ (see from).receiver
      → HasDelivered before (see from) (see given) had has
  begun_with from mid given sent bytes part had has s g begin wrote begins is =
      one_after from mid given given sent part bytes had has s g (one_begun g.now g.next.place bytes part g.on g.handed begin) wrote
      (kept_stays before (see given) (see given) refl refl refl) begins is

  begun_after : (from mid given : O) (sent bytes part : List ℕ) (had has : Option (List ℕ)) → SoFar from mid sent → of.gives mid given bytes
      → device.BeginsWith (block bytes) part → Appends had has (sent ++ part) → (see from).backlog ≡ Some start → start.receiver ≡ (see from).receiver
      → HasDelivered before (see from) (see given) had has
  begun_after from mid given sent bytes part had has s gave begin wrote begins is =
      begun_with from mid given sent bytes part had has s (given_by from mid given sent bytes s gave) begin wrote begins is

  pub has_delivered : (stream had has : Option (List ℕ)) (from to : O) (ended : Ended) → (see from).backlog ≡ Some start → start.receiver ≡ (see from).receiver
      → Forwards of stream had has from to ended → HasDelivered before (see from) (see to) had has
  has_delivered stream had has from to ended begins is f = by f.records f.sent f.blocks ended f.finishes f.wrote
    where
      by : (records : List (List ℕ)) (sent : List ℕ) (blocks : List (List ℕ)) (ended : Ended) → Finishes of from records sent blocks to ended
          → Appends had has sent → HasDelivered before (see from) (see to) had has
      by _ _ _ _ (none_left records sent blocks mid _ was closed) wrote =
          none_after from mid to sent had has (so_far from records sent blocks mid begins was) wrote (closes mid to closed).backlog begins is
      by _ _ _ _ (sent_last records sent blocks mid given _ bytes content ack was x settled) wrote =
          last_after from mid given to sent bytes had has (so_far from records sent blocks mid begins was) x.gives wrote
          (unchanged before (see given) (see to) (settles given to ack false settled)) begins is

  module _ (breaks : (s t : O) → (fault : OutboxFault) → of.breaks s t fault → Stays before (see s) (see t))
      (fails : (s t : O) (ack : Ack) (fault : OutboxFault) → of.fails s t ack fault → Keeps (see s) (see t)) where
    pub has_broken : (writer reader : Bool) (first reads : ℕ) (stream had has : Option (List ℕ)) (from to : O) (fault : ForwardFault) → (see from).backlog ≡ Some start
        → start.receiver ≡ (see from).receiver → Breaks of writer reader first reads stream had has from to fault → HasDelivered before (see from) (see to) had has
    has_broken writer reader first reads stream had has from to _ begins is (not_given n records blocks mid fault w r s broken) =
        none_after from mid to s.sent had has (so_far from records s.sent blocks mid begins s.sends) s.wrote (inr (breaks mid to fault broken).backlog) begins is
    has_broken writer reader first reads stream had has from to _ begins is (not_settled n records blocks mid given between bytes content ack fault w r s x wrote failed) =
        last_after from mid given to s.sent bytes had has (so_far from records s.sent blocks mid begins s.sends) x.gives
        (appends_more had between has s.sent (block bytes) s.wrote wrote) (kept before (see given) (see to) (fails given to ack fault failed)) begins is
    has_broken writer reader first reads stream had has from to _ begins is (not_made records blocks mid bytes w r s given) =
        none_after from mid to s.sent had has (so_far from records s.sent blocks mid begins s.sends) s.wrote (inr (gives mid to bytes given).stays.backlog) begins is
    has_broken writer reader first reads stream had has from to _ begins is (unsendable n records blocks mid bytes w r s given none) =
        none_after from mid to s.sent had has (so_far from records s.sent blocks mid begins s.sends) s.wrote (inr (gives mid to bytes given).stays.backlog) begins is
    has_broken writer reader first reads stream had has from to _ begins is (unsent n records blocks mid bytes control between part fault s gave record_is begin wrote line) =
        begun_after from mid to s.sent bytes part had has (so_far from records s.sent blocks mid begins s.sends) gave begin
        (appends_more had between has s.sent part s.wrote wrote) begins is

-- ---- from what was known before what is left was looked up

some_of : (o : Option BacklogState) → IsSome o → (b : BacklogState) × (o ≡ Some b)
some_of None some = absurd (cc some)
some_of (Some b) some = (b, refl)

of_some : (o : Option BacklogState) (b : BacklogState) (r : ℕ) → o ≡ Some b → IfSome o (λ b. b.receiver ≡ r) → b.receiver ≡ r
of_some o b r is of = subst (λ o. IfSome o (λ b. b.receiver ≡ r)) is of

-- what is left was looked up, where that wasn't done yet
pub record IsBegun (old begun : WaitingState) : Type 0 where
  pub receiver : begun.receiver ≡ old.receiver
  pub name : begun.name ≡ old.name
  pub same : IfSome old.backlog (λ was. begun.backlog ≡ Some was)
  pub some : IsSome begun.backlog
  pub of : IfSome begun.backlog (λ b. b.receiver ≡ begun.receiver)

from_begun : (before : List (List ℕ)) (old begun new : WaitingState) (had has : Option (List ℕ)) → IsBegun old begun
    → HasDelivered before begun new had has → HasDelivered before old new had has
from_begun before old begun new had has is d = record {
  start = d.start;
  begins = by old.backlog is.same;
  end = d.end;
  places = d.places;
  sent = d.sent;
  over = subst (λ n. IsHandedOver before old.receiver n d.start d.end d.places d.sent) is.name
      (subst (λ r. IsHandedOver before r begun.name d.start d.end d.places d.sent) is.receiver d.over);
  wrote = d.wrote;
  stays = d.stays;
} where
  by : (o : Option BacklogState) → IfSome o (λ was. begun.backlog ≡ Some was) → IfSome o (λ was. d.start ≡ was)
  by None same = tt
  by (Some was) same = subst (λ o. IfSome o (λ was. d.start ≡ was)) same d.begins

pub stopped_at_once : (before : List (List ℕ)) (old new : WaitingState) (had : Option (List ℕ)) → HasStopped before old new had had
stopped_at_once before old new had = at_once (appends_none had)

module _ {O : Type 0} (of : outbox.Ghosts O) (see : O → WaitingState) (before : List (List ℕ))
    (gives : (s t : O) (bytes : List ℕ) → of.gives s t bytes → Gives before (see s) (see t) bytes)
    (closes : (s t : O) → of.closes s t → Closes before (see s) (see t))
    (settles : (s t : O) (ack : Ack) (taken : Bool) → of.settles s t ack taken → Settles before (see s) (see t) ack taken)
    (old : WaitingState) (begun new : O) (is : IsBegun old (see begun)) (stream had has : Option (List ℕ)) where
  pub on_delivered : (r : Result Ended ForwardFault) → IfOk r (Forwards of stream had has begun new) → OnOk r (HasDelivered before old (see new) had has)
  on_delivered (Ok ended) f =
      let s = some_of (see begun).backlog is.some in
      from_begun before old (see begun) (see new) had has is
      (has_delivered of see before gives closes settles s.0 stream had has begun new ended s.1 (of_some (see begun).backlog s.0 (see begun).receiver s.1 is.of) f)
  on_delivered (Err fault) f = tt

  pub on_stopped : ((s t : O) → (fault : OutboxFault) → of.breaks s t fault → Stays before (see s) (see t))
      → ((s t : O) (ack : Ack) (fault : OutboxFault) → of.fails s t ack fault → Keeps (see s) (see t))
      → (writer reader : Bool) (first reads : ℕ) (r : Result Ended ForwardFault) → IfErr r (Breaks of writer reader first reads stream had has begun new)
      → OnErr r (HasStopped before old (see new) had has)
  on_stopped breaks fails writer reader first reads (Ok ended) f = tt
  on_stopped breaks fails writer reader first reads (Err fault) f =
      let s = some_of (see begun).backlog is.some in
      later (from_begun before old (see begun) (see new) had has is
      (has_broken of see before gives closes settles s.0 breaks fails writer reader first reads stream had has begun new fault s.1
      (of_some (see begun).backlog s.0 (see begun).receiver s.1 is.of) f))

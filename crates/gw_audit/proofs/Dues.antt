-- The desk of a receiver, entry by entry.
use Rattle.std.proofs.Common.{◌≡◌, ◌≢◌, ℕ, ◌+◌, ◌<◌, ◌≤◌, ◌==◌, ◌⊎◌, inl, inr, Bool, true, false, if◌then◌else◌, List, [], ◌∷◌, ◌++◌, length, map, take}
use Rattle.std.proofs.Common.{get_or, slice_get, Option, None, Some, refl, sym, ap, subst, ◌∙◌, arith}
use Rattle.std.specs.Prelude.{is_some, nat_eq, not, ◌||◌, All}
use Rattle.std.specs.List.{IsDistinct}
use Rattle.std.proofs.Math.Bool.{or-false}
use Rattle.std.proofs.lemmas.Bool.{cases_eq, eq-eqb, eqb-true, false≢true, ne_eqb, or_parts, or_right}
use Rattle.std.proofs.lemmas.Grind.{common_steps}
use Rattle.std.proofs.lemmas.List.{length-take, take_all}
use Rattle.std.proofs.lemmas.List.Elements.{All-from_get_or}
use Rattle.std.proofs.lemmas.List.Folds.{list_any_more, list_any_none}
use Rattle.std.proofs.lemmas.Map.Keys.{IsDistinct-from_apart, apart_from_distinct}
use Rattle.std.proofs.lemmas.Option.{get_or_from_slice_get, slice_get_within}
use Rattle.gw_reorder.specs.State.{nothing_due, with_due}
use Rattle.gw_reorder.specs.Calls.{after_holding, after_giving, next_of}
use Rattle.gw_reorder.proofs.Steps.{none_due}
use Rattle.gw_gate.specs.Parts.{TranslatedSeen}
use Rattle.gw_gate.specs.Headline.{CountFrom}
use Rattle.gw_gate.specs.Journal.{EntrySeen, WasAccepted, WasKept, WasOut, Start, accepted, due, is_due, kept, released}
use Rattle.gw_gate.specs.Replies.{out_of, out_with}
use Rattle.gw_gate.specs.own.Books.{StandsAt, given, release_reply}
use Rattle.gw_gate.proofs.Accounts.{out_next, release_is}
use Rattle.gw_gate.proofs.Numbering.{n_of}
use Rattle.gw_gate.proofs.Releasing.{NextOut}
use Rattle.gw_gate.proofs.Standing.{desk_accepted, desk_kept, desk_kept_other, desk_out, desk_out_other, desk_same, due_below, stands_same}
use Rattle.gw_audit.specs.Owing.{AreLawful, Desk, MayEnter, concerned, entered, gives_none}
use Rattle.gw_audit.specs.Settled.{is_nothing}
use Rattle.gw_audit.specs.Turns.{TurnsAt, TurnsTo, is_even}
use Rattle.gw_audit.specs.own.Queues.{Advanced, ConcernsOnce, Moved, MovedIf, QueueSeen, among, no_queue, queue_at}
use Rattle.gw_audit.proofs.Prefixes.{Comes, comes, numbered}
use Rattle.gw_audit.proofs.Turning.{at_last, done, stay}

-- ---- an entry, by whether it concerns the receiver

module _ (start : Start) (h : List EntrySeen) (r : ℕ) (s : Desk) (counted : CountFrom start.acceptances (map n_of (accepted h))) (was : StandsAt h r s) where
  stands_entered : (e : EntrySeen) → Comes start h e → among (concerned e) r ≡ true → StandsAt (h ++ e ∷ []) r (entered e s)
  stands_entered (WasAccepted n arrival c) come goes =
      desk_accepted h start.acceptances n arrival r c s (with_due s n) counted come (sym (ap (λ b. if b then with_due s n else s) goes)) was
  stands_entered (WasKept n t) come goes =
      let to = eqb-true t.receiver r (sym (or-false (t.receiver == r)) ∙ goes) in
      desk_kept h start.acceptances n r t s (after_holding s n t) counted to (subst (λ q. is_due h n q ≡ true) to come) refl was
  stands_entered (WasOut n to t) come goes =
      let same = eqb-true to r (sym (or-false (to == r)) ∙ goes) in
      let is : NextOut h n r t = subst (λ q. NextOut h n q t) same come in
      let next = out_next start h n r t s was (ap (out_of h r) is.due ∙ ap (out_with n) is.kept) in
      subst (λ q. StandsAt (h ++ WasOut n q t ∷ []) r (after_giving s (next_of s))) (sym same)
      (desk_out h n r t s (after_giving s (next_of s)) next (record { due = refl; released = refl; kept = refl }) was)
  stands_entered e come goes = absurd (false≢true goes)

  stands_other : (e : EntrySeen) → Comes start h e → among (concerned e) r ≡ false → StandsAt (h ++ e ∷ []) r s
  stands_other (WasAccepted n arrival c) come stays =
      desk_accepted h start.acceptances n arrival r c s s counted come (sym (ap (λ b. if b then with_due s n else s) stays)) was
  stands_other (WasKept n t) come stays =
      let no = (or_parts (t.receiver == r) false stays).0 in
      desk_kept_other h n r t s s (λ e. false≢true (sym no ∙ eq-eqb t.receiver r e)) refl was
  stands_other (WasOut n to t) come stays =
      let no = (or_parts (to == r) false stays).0 in desk_out_other h n to r t s s (λ e. false≢true (sym no ∙ eq-eqb to r e)) refl was
  stands_other e come stays = desk_same h (e ∷ []) r s refl refl (λ n. refl) was

  may : (e : EntrySeen) → Comes start h e → MayEnter e s
  may (WasAccepted n arrival c) come = subst (λ l. All (λ m. m < n) l) (sym was.due_is) (due_below h start.acceptances r n counted come)
  may e come = tt

-- ---- when there is nothing to be given out

nothing_is : (start : Start) (h : List EntrySeen) (r k : ℕ) (s : Desk) → StandsAt (take k h) r s → gives_none h r k ≡ not (is_some (next_of s))
nothing_is start h r k s was = ap is_nothing (release_is start (take k h) r s (next_of s) was refl) ∙ by (next_of s)
  where
    by : (o : Option (ℕ × TranslatedSeen)) → is_nothing (release_reply o) ≡ not (is_some o)
    by None = refl
    by (Some next) = refl

pub turns_all : (h : List EntrySeen) (r : ℕ) (ats : List ℕ) → TurnsTo (gives_none h r) (length h) ats → TurnsAt (gives_none h r) ats
turns_all h r ats was =
    done (λ k i. gives_none h r k ≡ is_even i) (length h) ats was
    (λ k le is. ap (λ l. is_nothing (out_of l r (slice_get (due l r) (length (released l r))))) (take_all k h le ∙ sym (take_all (length h) h (omega arith))) ∙ is)

-- ---- the queues of all receivers

-- a queue tells of the first entries
pub record Owed (h : List EntrySeen) (k r : ℕ) (queue : QueueSeen) : Type 0 where
  pub stands : StandsAt (take k h) r queue.desk
  pub turns : TurnsTo (gives_none h r) k queue.turns

module _ (h : List EntrySeen) (lawful : AreLawful h) where
  pub owed_none : (r : ℕ) → Owed h 0 r no_queue
  owed_none r = record {
    stands = none h;
    turns = record {
      rising = λ k lt. absurd (omega arith);
      below = λ p lt. absurd (omega arith);
      tells = λ k i le there. (let few = there.few in
          let none_passed : 0 ≡ i = omega (arith, few) in
          let first : 0 ≡ k = omega (arith, le) in
          subst (λ j. gives_none h r k ≡ is_even j) none_passed
          (subst (λ n. gives_none h r n ≡ true) first (nothing_is lawful.start h r 0 nothing_due (none h))));
    };
  }
    where
      none : (g : List EntrySeen) → StandsAt (take 0 g) r nothing_due
      none [] = none_due
      none (e ∷ g) = none_due

  module _ (k : ℕ) (e : EntrySeen) (next : take (k + 1) h ≡ take k h ++ e ∷ []) (r : ℕ) where
    pub may_enter : (queue : QueueSeen) → Owed h k r queue → MayEnter e queue.desk
    may_enter queue was = may lawful.start (take k h) r queue.desk (numbered h lawful k) was.stands e (comes h lawful k e next)

    pub owed_next : (old new : QueueSeen) → MovedIf (concerned e) r e (k + 1) old new → Owed h k r old → Owed h (k + 1) r new
    owed_next old new moved was = by (among (concerned e) r) refl moved
      where
        by : (b : Bool) → among (concerned e) r ≡ b → Moved b e (k + 1) old new → Owed h (k + 1) r new
        by true goes moves =
            let g = take k h ++ e ∷ [] in
            let stands = subst (λ l. StandsAt l r new.desk) (sym next)
            (stands_same (entered e old.desk) new.desk (due g r) (map given (released g r)) (λ n. kept g n r) moves.desk
            (stands_entered lawful.start (take k h) r old.desk (numbered h lawful k) was.stands e (comes h lawful k e next) goes)) in
            record { stands = stands; turns = moves.turns (gives_none h r) k refl (nothing_is lawful.start h r (k + 1) new.desk stands) was.turns }
        by false stays same =
            let stands = subst (λ l. StandsAt l r old.desk) (sym next)
            (stands_other lawful.start (take k h) r old.desk (numbered h lawful k) was.stands e (comes h lawful k e next) stays) in
            let holds = nothing_is lawful.start h r (k + 1) old.desk stands ∙ sym (nothing_is lawful.start h r k old.desk was.stands)
            ∙ at_last (λ n i. gives_none h r n ≡ is_even i) k old.turns was.turns in
            subst (Owed h (k + 1) r) (sym same)
            (record { stands = stands; turns = stay (λ n i. gives_none h r n ≡ is_even i) k old.turns was.turns holds })

-- ---- one receiver that an entry concerns after another

few_once : (xs : List ℕ) → length xs ≤ 1 → IsDistinct nat_eq xs
few_once xs few = IsDistinct-from_apart nat_eq xs (λ i j d before within. absurd (omega (arith, few, before, within)))

pub once : (e : EntrySeen) → ConcernsOnce e → IsDistinct nat_eq (concerned e)
once (WasAccepted n arrival c) is = is
once (WasKept n t) is = few_once (t.receiver ∷ []) (omega arith)
once (WasOut n to t) is = few_once (to ∷ []) (omega arith)
once e is = few_once [] (omega arith)

module _ (to : List ℕ) (k r : ℕ) (at : slice_get to k ≡ Some r) where
  not_before : IsDistinct nat_eq to → among (take k to) r ≡ false
  not_before once =
      list_any_none (λ q. q == r) (take k to) (All-from_get_or (λ q. (q == r) ≡ false) (take k to) 0
      (λ i lt. (let l = length-take k to in
      let here : get_or (take k to) i 0 ≡ get_or to i 0 = grind (arith, common_steps) in
      let apart = apart_from_distinct nat_eq to i k 0 once (omega (arith, lt, l)) (slice_get_within to k r at) in
      subst (λ x. (x == r) ≡ false) (sym here) (subst (λ x. (get_or to i 0 == x) ≡ false) (get_or_from_slice_get to k r 0 at) apart))))

  more_among : (q : ℕ) → among (take (k + 1) to) q ≡ (among (take k to) q || (r == q))
  more_among q = list_any_more (λ x. x == q) to k 0 (slice_get_within to k r at) ∙ ap (λ x. among (take k to) q || (x == q)) (get_or_from_slice_get to k r 0 at)

  module _ (e : EntrySeen) (n : ℕ) where
    -- its queue is as it was
    pub unmoved : (old now : QueueSeen) → IsDistinct nat_eq to → MovedIf (take k to) r e n old now → now ≡ old
    unmoved old now once moved = subst (λ b. Moved b e n old now) (not_before once) moved

    pub moved_more : (start now wide new : List QueueSeen) → IsDistinct nat_eq to
        → ((q : ℕ) → MovedIf (take k to) q e n (queue_at start q) (queue_at now q)) → ((q : ℕ) → queue_at wide q ≡ queue_at now q)
        → Advanced e n (queue_at wide r) (queue_at new r) → ((q : ℕ) → q ≢ r → queue_at new q ≡ queue_at wide q)
        → (q : ℕ) → MovedIf (take (k + 1) to) q e n (queue_at start q) (queue_at new q)
    moved_more start now wide new once was same this others q = by (cases_eq q r)
      where
        by : (q ≡ r) ⊎ (q ≢ r) → MovedIf (take (k + 1) to) q e n (queue_at start q) (queue_at new q)
        by (inl here) =
            let old = same r ∙ unmoved (queue_at start r) (queue_at now r) once (was r) in
            let goes = more_among r ∙ or_right (among (take k to) r) (r == r) (eq-eqb r r refl) in
            subst (λ z. MovedIf (take (k + 1) to) z e n (queue_at start z) (queue_at new z)) (sym here)
            (subst (λ b. Moved b e n (queue_at start r) (queue_at new r)) (sym goes) (subst (λ s. Advanced e n s (queue_at new r)) old this))
        by (inr other) =
            let stays = more_among q ∙ ap (λ b. among (take k to) q || b) (ne_eqb r q (λ e. other (sym e))) ∙ or-false (among (take k to) q) in
            subst (λ b. Moved b e n (queue_at start q) (queue_at new q)) (sym stays)
            (subst (λ s. Moved (among (take k to) q) e n (queue_at start q) s) (sym (others q other ∙ same q)) (was q))

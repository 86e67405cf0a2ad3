-- Answers that were secured are kept.
use Rattle.std.proofs.Common.{◌≡◌, ℕ, zero, suc, ◌+◌, ◌≤◌, List, [], ◌∷◌, ◌++◌, length, map, take, drop, Option, None, Some, refl, ap, sym, ◌∙◌, subst, arith, append_assoc}
use Rattle.std.specs.Prelude.{IfSome, Result}
use Rattle.std.specs.List.{AllByRecursion}
use Rattle.std.proofs.lemmas.List.{map-append, take-append-drop}
use mathlib.Core.List.{IsPrefix}
use Rattle.gw_ack.specs.declared.reply.Reply.{Reply}
use Rattle.gw_journal.specs.declared.event.Event as happened
use Rattle.gw_journal.proofs.Logging.{get_front}
use Rattle.gw_mllp.specs.Stream.{Tail}
use Rattle.gw_stream.specs.declared.counts.Counts.{Counts}
use Rattle.gw_stream.specs.declared.fault.RunFault.{RunFault}
use Rattle.gw_stream.specs.declared.judge.Outcome.{Outcome}
use Rattle.gw_stream.specs.Answers.{Answer, IsSettled, Message}
use Rattle.gw_stream.specs.Exchanges as stream
use Rattle.gw_stream.specs.Exchanges.{Exchange, AllExchanged, Begins, Closes, Exchanges, SomeExchanged, EndsExchanged, content_of}
use Rattle.gw_stream.specs.Streams.{HasFirst}
use Rattle.gw_stream.specs.Streams as streams
use Rattle.gw_gateway.specs.Senders.{Answers, AnswersAll, AnswersFirst, AreKept, HasRecord, IsJudged, IsKept, IsPlanned, IsSaid, Secures, Settles}
use Rattle.gw_gateway.specs.Senders as senders
use Rattle.gw_gateway.specs.Waiting.{GoesOn, IsAwaited, WaitState}
use Rattle.gw_gateway.proofs.Joining.{awaited_later, awaited_stored, goes_both, journal_later, stays, stored_on}

-- ---- what is said stays said

pub judged_later : (before : List (List ℕ)) (old new : List happened.Event) (m : Message) (reply : Reply) → IsPrefix old new → IsJudged before old m reply → IsJudged before new m reply
judged_later before old new m reply p j = record {
  place = j.place;
  text = j.text;
  stands = journal_later (IsPlanned j.place j.text) before old new p (λ log more there. get_front log more j.place _ there) j.stands;
  plan = j.plan;
  spells = j.spells;
  says = j.says;
}

pub record_later : (P Q : ℕ → List ℕ → Type 0) (m : Message) (number : ℕ) → ((place : ℕ) (bytes : List ℕ) → P place bytes → Q place bytes) → HasRecord P m number → HasRecord Q m number
record_later P Q m number to r = record { place = r.place; time = r.time; to = r.to; stands = to r.place _ r.stands }

pub said_later : (P Q : ℕ → List ℕ → Type 0) (before : List (List ℕ)) (old new : List happened.Event) (what : Option Message) (number : ℕ) (reply : Reply)
    → IsPrefix old new → ((place : ℕ) (bytes : List ℕ) → P place bytes → Q place bytes) → IsSaid P before old what number reply → IsSaid Q before new what number reply
said_later P Q before old new what number reply p to (senders.accepted m n j r) =
    senders.accepted m n (judged_later before old new m _ p j) (record_later P Q m n to r)
said_later P Q before old new what number reply p to (senders.judged m n r not j) = senders.judged m n r not (judged_later before old new m r p j)
said_later P Q before old new what number reply p to (senders.unsettled w n) = senders.unsettled w n

-- an answer whose record is waited for
abbrev IsWaited : List (List ℕ) → WaitState → Exchange → Type 0
IsWaited before s e =
    IsSettled (λ what outcome. IsSaid (IsAwaited before s) before s.history what outcome.number outcome.reply) e.content e.answer

settled_by : (S T : Option Message → Outcome → Type 0) (content : List ℕ) (answer : Answer) → ((what : Option Message) (outcome : Outcome) → S what outcome → T what outcome)
    → IsSettled S content answer → IsSettled T content answer
settled_by S T content answer to s = record {
  what = s.what;
  is_read = s.is_read;
  outcome = s.outcome;
  settles = to s.what s.outcome s.settles;
  code = s.code;
  spelled = s.spelled;
}

all_by : {X : Type 0} (P Q : X → Type 0) (xs : List X) → ((x : X) → P x → Q x) → AllByRecursion P xs → AllByRecursion Q xs
all_by P Q [] to all = tt
all_by P Q (x ∷ xs) to all = (to x all.0, all_by P Q xs to all.1)

all_more : {X : Type 0} (P : X → Type 0) (xs : List X) (x : X) → AllByRecursion P xs → P x → AllByRecursion P (xs ++ x ∷ [])
all_more P [] x all here = (here, tt)
all_more P (y ∷ xs) x all here = (all.0, all_more P xs x all.1 here)

module _ (before : List (List ℕ)) where
  waited_later : (s t : WaitState) (done : List Exchange) → GoesOn s t → AllByRecursion (IsWaited before s) done → AllByRecursion (IsWaited before t) done
  waited_later s t done on = all_by (IsWaited before s) (IsWaited before t) done (λ e. settled_by _ _ e.content e.answer (λ what outcome.
      said_later (IsAwaited before s) (IsAwaited before t) before s.history t.history what outcome.number outcome.reply on.history
      (λ place bytes. awaited_later before s t place bytes on)))

  waited_stored : (s t : WaitState) (done : List Exchange) → Secures before s t → AllByRecursion (IsWaited before s) done → AreKept before t.history done
  waited_stored s t done secures = all_by (IsWaited before s) (IsKept before t.history) done (λ e. settled_by _ _ e.content e.answer (λ what outcome.
      said_later (IsAwaited before s) _ before s.history t.history what outcome.number outcome.reply secures.on.history
      (λ place bytes. awaited_stored before s t place bytes secures.on secures.stored)))

  kept_later : (old new : List happened.Event) (done : List Exchange) → IsPrefix old new → AreKept before old done → AreKept before new done
  kept_later old new done p = all_by (IsKept before old) (IsKept before new) done (λ e. settled_by _ _ e.content e.answer (λ what outcome.
      said_later _ _ before old new what outcome.number outcome.reply p (λ place bytes. stored_on before old new place bytes p)))

  -- all of these are waited for, and the first of them are kept
  record Stand (from to : WaitState) (kept : ℕ) (done : List Exchange) : Type 0 where
    on : GoesOn from to
    waited : AllByRecursion (IsWaited before to) done
    some : kept ≤ length done
    first : AreKept before to.history (take kept done)

  take_more : {X : Type 0} (k : ℕ) (xs : List X) (x : X) → k ≤ length xs → take k (xs ++ x ∷ []) ≡ take k xs
  take_more zero [] x le = refl
  take_more zero (y ∷ xs) x le = refl
  take_more (suc k) [] x le = absurd (omega arith)
  take_more (suc k) (y ∷ xs) x le = ap (λ l. y ∷ l) (take_more k xs x (omega arith))

  take_whole : {X : Type 0} (xs : List X) → take (length xs) xs ≡ xs
  take_whole [] = refl
  take_whole (x ∷ xs) = ap (λ l. x ∷ l) (take_whole xs)

  length_more : {X : Type 0} (xs : List X) (x : X) → length (xs ++ x ∷ []) ≡ length xs + 1
  length_more [] x = refl
  length_more (y ∷ xs) x = let e = length_more xs x in omega (arith, e)

  one_more : (from mid to : WaitState) (kept : ℕ) (done : List Exchange) (content : List ℕ) (answer : Answer) → Stand from mid kept done
      → IsSettled (λ what outcome. Settles before mid to what outcome.number outcome.reply) content answer
      → Stand from to kept (done ++ record { content = content; answer = answer } ∷ [])
  one_more from mid to kept done content answer so s =
      let on : GoesOn mid to = s.settles.on in record {
        on = goes_both from mid to so.on on;
        waited = all_more (IsWaited before to) done (record { content = content; answer = answer }) (waited_later mid to done on so.waited)
            (settled_by _ _ content answer (λ what outcome (k : Settles before mid to what outcome.number outcome.reply). k.said) s);
        some = let e = length_more done (record { content = content; answer = answer }) in omega (arith, e, so.some);
        first = subst (AreKept before to.history) (sym (take_more kept done (record { content = content; answer = answer }) so.some))
            (kept_later mid.history to.history (take kept done) on.history so.first);
      }

  all_kept : (from mid to : WaitState) (kept : ℕ) (done : List Exchange) → Stand from mid kept done → Secures before mid to → Stand from to (length done) done
  all_kept from mid to kept done so secures = record {
    on = goes_both from mid to so.on secures.on;
    waited = waited_later mid to done secures.on so.waited;
    some = omega arith;
    first = subst (AreKept before to.history) (sym (take_whole done)) (waited_stored mid to done secures so.waited);
  }

  goes_further : (from mid to : WaitState) (kept : ℕ) (done : List Exchange) → Stand from mid kept done → GoesOn mid to → Stand from to kept done
  goes_further from mid to kept done so on = record {
    on = goes_both from mid to so.on on;
    waited = waited_later mid to done on so.waited;
    some = so.some;
    first = kept_later mid.history to.history (take kept done) on.history so.first;
  }

  -- ---- a run of a judge whose state has this in it

  module _ {S : Type 0} (of : S → WaitState) where
    abbrev Settled : S → S → ℕ → Option Message → Outcome → Type 0
    Settled s t number what outcome = Settles before (of s) (of t) what outcome.number outcome.reply

    abbrev Secured : S → S → Type 0
    Secured s t = Secures before (of s) (of t)

    abbrev Broken : S → S → Option Message → Type 0
    Broken s t what = GoesOn (of s) (of t)

    abbrev Withheld : S → S → Type 0
    Withheld s t = GoesOn (of s) (of t)

    stand : (from : S) (kept : ℕ) (done : List Exchange) (to : S) → Exchanges Settled Secured from kept done to → Stand (of from) (of to) kept done
    stand from kept done to stream.none = record { on = stays (of from); waited = tt; some = omega arith; first = tt }
    stand from kept done to (stream.more mid _ _ done' content answer run s) =
        one_more (of from) (of mid) (of to) kept done' content answer (stand from kept done' mid run) s
    stand from kept done to (stream.secured mid _ kept' _ run secures) = all_kept (of from) (of mid) (of to) kept' done (stand from kept' done mid run) secures

    begun : (number : ℕ) (from : S) (others : List (List ℕ)) (to : S) → Begins Settled Broken number from others to → GoesOn (of from) (of to)
    begun number from others to (stream.not_yet _) = stays (of from)
    begun number from others to (stream.begun content more what _ is_read breaks) = breaks
    begun number from others to (stream.unanswered content more what outcome _ is_read settles) = settles.on

    closed : (start from : S) (kept : ℕ) (done : List Exchange) (to : S) (in_all : ℕ) → Stand (of start) (of from) kept done
        → Closes Secured Withheld kept (length done) from to in_all → Stand (of start) (of to) in_all done
    closed start from kept done to in_all so (stream.as_it_is same) = subst (λ t. Stand (of start) (of t) kept done) (sym same) so
    closed start from kept done to in_all so (stream.secured_last secures) = all_kept (of start) (of from) (of to) kept done so secures
    closed start from kept done to in_all so (stream.withheld on) = goes_further (of start) (of from) (of to) kept done so on

    all_so : (stream : Option (List ℕ)) (old new : S) (a b : Option (List ℕ)) (tail : Tail) (counts : Counts)
        → AllExchanged Settled Secured stream old new a b tail counts → AnswersAll before (of new).history stream a b tail counts
    all_so stream old new a b tail counts all =
        let so = stand old (length all.done) all.done new all.each in record {
          done = all.done;
          cut = all.cut;
          kept = subst (AreKept before (of new).history) (take_whole all.done) so.first;
          bytes = all.bytes;
          counted = all.counted;
        }

    first_cut : (bytes : List ℕ) (k : ℕ) (done : List Exchange) (others : List (List ℕ)) → HasFirst bytes (map content_of done ++ others)
        → HasFirst bytes (map content_of (take k done) ++ (map content_of (drop k done) ++ others))
    first_cut bytes k done others first =
        let whole : map content_of done ≡ map content_of (take k done) ++ map content_of (drop k done) =
        ap (map content_of) (sym (take-append-drop k done)) ∙ map-append content_of (take k done) (drop k done) in
        subst (HasFirst bytes) (ap (λ l. l ++ others) whole ∙ append_assoc (map content_of (take k done)) (map content_of (drop k done)) others) first

    cut_of : (stream : Option (List ℕ)) (k : ℕ) (done : List Exchange) (others : List (List ℕ)) → IfSome stream (λ bytes. HasFirst bytes (map content_of done ++ others))
        → IfSome stream (λ bytes. HasFirst bytes (map content_of (take k done) ++ (map content_of (drop k done) ++ others)))
    cut_of None k done others first = first
    cut_of (Some bytes) k done others first = first_cut bytes k done others first

    some_stand : (stream : Option (List ℕ)) (old new : S) (a b : Option (List ℕ)) (some : SomeExchanged Settled Secured Broken Withheld stream old new a b)
        → Stand (of old) (of new) some.secured_in_all some.done
    some_stand stream old new a b some =
        closed old some.last some.kept some.done new some.secured_in_all
        (goes_further (of old) (of some.mid) (of some.last) some.kept some.done (stand old some.kept some.done some.mid some.each)
        (begun (length some.done + 1) some.mid some.others some.last some.begins)) some.closes

    first_so : (stream : Option (List ℕ)) (old new : S) (a b : Option (List ℕ)) → SomeExchanged Settled Secured Broken Withheld stream old new a b
        → AnswersFirst before (of new).history stream a b
    first_so stream old new a b some = record {
      done = take some.secured_in_all some.done;
      others = map content_of (drop some.secured_in_all some.done) ++ some.others;
      first = cut_of stream some.secured_in_all some.done some.others some.first;
      kept = (some_stand stream old new a b some).first;
      bytes = some.bytes;
    }

    pub answered : (stream : Option (List ℕ)) (old new : S) (a b : Option (List ℕ)) (result : Result Counts RunFault)
        → EndsExchanged Settled Secured Broken Withheld stream old new a b result → Answers before (of new).history stream a b result
    answered stream old new a b result (streams.at_end counts all) = streams.at_end counts (all_so stream old new a b _ counts all)
    answered stream old new a b result (streams.truncated t counts all) = streams.truncated t counts (all_so stream old new a b _ counts all)
    answered stream old new a b result (streams.too_long counts all) = streams.too_long counts (all_so stream old new a b _ counts all)
    answered stream old new a b result (streams.memory some) = streams.memory (first_so stream old new a b some)
    answered stream old new a b result (streams.read some) = streams.read (first_so stream old new a b some)
    answered stream old new a b result (streams.write some) = streams.write (first_so stream old new a b some)
    answered stream old new a b result (streams.turns some) = streams.turns (first_so stream old new a b some)
    answered stream old new a b result (streams.withheld some) = streams.withheld (first_so stream old new a b some)

    all_on : (stream : Option (List ℕ)) (old new : S) (a b : Option (List ℕ)) (tail : Tail) (counts : Counts)
        → AllExchanged Settled Secured stream old new a b tail counts → GoesOn (of old) (of new)
    all_on stream old new a b tail counts all = (stand old (length all.done) all.done new all.each).on

    pub went_on : (stream : Option (List ℕ)) (old new : S) (a b : Option (List ℕ)) (result : Result Counts RunFault)
        → EndsExchanged Settled Secured Broken Withheld stream old new a b result → GoesOn (of old) (of new)
    went_on stream old new a b result (streams.at_end counts all) = all_on stream old new a b _ counts all
    went_on stream old new a b result (streams.truncated t counts all) = all_on stream old new a b _ counts all
    went_on stream old new a b result (streams.too_long counts all) = all_on stream old new a b _ counts all
    went_on stream old new a b result (streams.memory some) = (some_stand stream old new a b some).on
    went_on stream old new a b result (streams.read some) = (some_stand stream old new a b some).on
    went_on stream old new a b result (streams.write some) = (some_stand stream old new a b some).on
    went_on stream old new a b result (streams.turns some) = (some_stand stream old new a b some).on
    went_on stream old new a b result (streams.withheld some) = (some_stand stream old new a b some).on

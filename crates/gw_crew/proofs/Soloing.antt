-- A gate for one thread, step by step.
use Rattle.std.proofs.Common.{◌≡◌, ◌≢◌, ℕ, true, List, ◌++◌, Option, None, Some, refl, sym, ap, subst, ◌∙◌, append-nil}
use Rattle.std.specs.Prelude.{IsTrue, IfOk, OnErr, Result, Ok, Err, is_some}
use Rattle.std.specs.Option.{option_to_list}
use Rattle.std.proofs.lemmas.Bool.{false≢true}
use Rattle.gw_gate.specs.Journal.{EntrySeen, Journal, end}
use Rattle.gw_gate.specs.Replies.{EventSeen, Looks, Arrives, Cuts, ReplySeen, IsCurrent, IsStale, IsPending, IsClosed}
use Rattle.gw_gate.specs.Replies.{added, with_added, closed_by, or_next, reply, Noted, Replied}
use Rattle.gw_gate.specs.Lawful.{IsLawful}
use Rattle.gw_gate.specs.Headline.{IsTranslated}
use Rattle.gw_gate.specs.Meaning.{Makes}
use Rattle.gw_gate.specs.Values.{answer_seen, reply_seen}
use Rattle.gw_gate.specs.declared.event.Event.{Event}
use Rattle.gw_gate.specs.declared.event.Reply.{Reply}
use Rattle.gw_crew.specs.declared.note.Note.{Note}
use Rattle.gw_crew.specs.Notes.{NoteSeen, Added, Answers, Calls, NotesAt, asked_for, note_of, note_or, plain_by}
use Rattle.gw_crew.specs.Solos.{is_copied, event_of, note_in, reply_in, Stepped, Stayed, StepsOnce}
use Rattle.gw_crew.proofs.Rows.{answers}

-- an entry was added
pub stepped_added : (j j' : Journal) (event : EventSeen) (given : ReplySeen) (at : ℕ) (e : EntrySeen) → IsLawful (IsTranslated Makes) j → at ≡ end j
    → Noted true j event given (Some e) j' → Stepped j event given (Some (Added at e)) j'
stepped_added j j' event given at e lawful number step =
    let same : added event (reply j event) ≡ added event given = ap (added event) (sym step.replied.reply_is) in
    record {
      replied = step.replied;
      answers = subst (Answers event) (sym step.replied.reply_is) (answers Makes j event lawful);
      note_is = ap (λ k. Some (Added k e)) number ∙ ap (note_or (end j) (plain_by (asked_for event) given)) (step.note_is ∙ same);
    }

-- no entry was added
pub stepped_plain : (j j' : Journal) (event : EventSeen) (given : ReplySeen) (told : Option NoteSeen) → IsLawful (IsTranslated Makes) j
    → told ≡ plain_by (asked_for event) given
    → Noted true j event given None j' → Stepped j event given told j'
stepped_plain j j' event given told lawful is step =
    let same : added event (reply j event) ≡ added event given = ap (added event) (sym step.replied.reply_is) in
    record {
      replied = step.replied;
      answers = subst (Answers event) (sym step.replied.reply_is) (answers Makes j event lawful);
      note_is = is ∙ ap (note_or (end j) (plain_by (asked_for event) given)) (step.note_is ∙ same);
    }

-- a reply whose note has a copy is to this event
event_is : (event : EventSeen) (given : ReplySeen) → Answers event given → IsTrue (is_copied given) → event_of given ≡ event
event_is Looks (IsCurrent v p) row copied = refl
event_is event (IsCurrent v p) row copied = absurd row
event_is (Arrives c) (IsStale v back) row copied = ap Arrives row
event_is event (IsStale v back) row copied = absurd row
event_is event given row copied = absurd (false≢true copied)

-- and it closes no journal
closes_none : (given : ReplySeen) → IsTrue (is_copied given) → closed_by given ≡ None
closes_none (IsClosed chapter) copied = absurd (false≢true copied)
closes_none given copied = refl

-- no copy was to be had
pub stayed : (j j' : Journal) (event back : EventSeen) (given : ReplySeen) → IsLawful (IsTranslated Makes) j → IsTrue (is_copied given) → back ≡ event_of given
    → Noted true j event given None j' → Stayed j event back j'
stayed j j' event back given lawful copied is step =
    let row : Answers event given = subst (Answers event) (sym step.replied.reply_is) (answers Makes j event lawful) in
    record {
      back_is = is ∙ event_is event given row copied;
      after_is =
          step.replied.new_is
          ∙ ap (or_next (with_added j (added event (reply j event)))) (ap closed_by (sym step.replied.reply_is) ∙ closes_none given copied)
          ∙ ap (with_added j) (sym step.note_is);
    }

-- ---- a call that keeps the note of its step

-- a step that left a note wasn't one of a Cut
pub not_cut : (j j' : Journal) (event : EventSeen) (answer : Result (Reply × Option Note) Event) → StepsOnce j event answer j'
    → IsTrue (is_some (note_in answer)) → event ≢ Cuts
not_cut j j' event (Err back) step some is = false≢true some
not_cut j j' event (Ok r) step some is =
    by given (subst (λ e. Answers e given) is step.answers) (subst (λ o. IsTrue (is_some o)) (step.note_is ∙ ap (λ e. note_of (end j) e given) is) some)
  where
    given : ReplySeen
    given = reply_seen r.0

    by : (g : ReplySeen) → Answers Cuts g → IsTrue (is_some (note_of (end j) Cuts g)) → ⊥
    by IsPending row note = false≢true note
    by (IsClosed chapter) row note = false≢true note
    by g row note = row

-- what a call answers and notes
pub record Kept (j j' : Journal) (event : EventSeen) (result : Result Reply Event) (old new : List NoteSeen) : Type 0 where
  pub calls : Calls old event (answer_seen result) new
  pub noted : NotesAt j event (answer_seen result) old new
  pub step : IfOk result (λ given. Replied j event (reply_seen given) j')
  pub stays : OnErr result (j' ≡ j)

pub kept : (i j j' : Journal) (event : EventSeen) (answer : Result (Reply × Option Note) Event) (result : Result Reply Event) (old mid new : List NoteSeen)
    → i ≡ j → StepsOnce i event answer j' → result ≡ reply_in answer → mid ≡ old → new ≡ mid ++ option_to_list (note_in answer)
    → Kept j j' event result old new
kept i j j' event answer result old mid new at step is same more =
    subst (λ r. Kept j j' event r old new) (sym is)
    (by answer (subst (λ x. StepsOnce x event answer j') at step) (more ∙ ap (λ l. l ++ option_to_list (note_in answer)) same))
  where
    by : (answer : Result (Reply × Option Note) Event) → StepsOnce j event answer j' → new ≡ old ++ option_to_list (note_in answer)
        → Kept j j' event (reply_in answer) old new
    by (Ok r) step notes =
        let noted = notes ∙ ap (λ o. old ++ option_to_list o) step.note_is in
        record { calls = record { answers = step.answers; at = end j; notes = noted }; noted = noted; step = step.replied; stays = tt }
    by (Err back) step notes =
        let noted = notes ∙ append-nil old in
        record { calls = record { back_is = step.back_is; notes = noted }; noted = noted; step = tt; stays = step.after_is }

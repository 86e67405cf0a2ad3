-- Entries are counted as they are noted.
use Rattle.std.proofs.Common.{◌≡◌, ◌+◌, ℕ, Bool, true, false, if◌then◌else◌, List, [], ◌∷◌, ◌++◌, Option, None, Some, length, refl, sym, ap, ◌∙◌, arith}
use Rattle.std.proofs.Common.{length-append, subst}
use Rattle.std.specs.Prelude.{IfOk, Result, Ok, Err}
use Rattle.std.specs.Option.{option_to_list}
use Rattle.std.proofs.lemmas.List.Elements.{filter_map-append}
use Rattle.std.proofs.lemmas.Option.{none-some}
use Rattle.gw_gate.specs.Chapters.{is_pending}
use Rattle.gw_gate.specs.Journal.{EntrySeen, Journal, end}
use Rattle.gw_gate.specs.Replies.{EventSeen, Cuts, added, with_added, left_by, closed_by, limited, most, reply}
use Rattle.gw_gate.specs.Replies.{ReplySeen, IsCurrent, IsPending, IsClosed}
use Rattle.gw_gate.specs.Values.{reply_seen}
use Rattle.gw_gate.specs.declared.event.Event.{Event}
use Rattle.gw_gate.specs.declared.event.Reply.{Reply}
use Rattle.gw_crew.specs.declared.note.Note.{Note}
use Rattle.gw_crew.specs.Notes.{NoteSeen, Answers, asked_for, plain_by, note_or, receipt_of}
use Rattle.gw_crew.specs.Solos.{StepsOnce, Stepped, reply_in}
use Rattle.gw_run.specs.Passes.{IsReplyTo, receipts}
use Rattle.gw_run.specs.own.Steps.{StepsSomewhere, added_by, counted_by}
use Rattle.gw_gate.proofs.Releasing.{some_is}

plain_adds_none : (r : ℕ) (given : ReplySeen) → added_by (plain_by r given) ≡ 0
plain_adds_none r (IsCurrent v p) = refl
plain_adds_none r given = refl

-- ---- a step

-- the journal that a Cut closes is the one that it found
closes_this : (j c : Journal) → IsClosed c ≡ reply j Cuts → c ≡ j
closes_this j c is = by (is_pending j) (ap closed_by is)
  where
    by : (b : Bool) → Some c ≡ closed_by (limited most j Cuts (if b then IsPending else IsClosed j)) → c ≡ j
    by true e = absurd (none-some c (sym e))
    by false e = some_is c j e

-- a journal that was closed takes its entries with it, and all are counted on
ends_with : (j : Journal) (event : EventSeen) (given : ReplySeen) → Answers event given → given ≡ reply j event
    → end (left_by j event given) ≡ end (with_added j (added event given))
ends_with j Cuts (IsClosed chapter) row is =
    let same : end chapter ≡ end j = ap end (closes_this j chapter is) in
    omega (arith, same)
ends_with j event (IsClosed chapter) row is = absurd row
ends_with j event given row is = refl

grows : (j : Journal) (o : Option EntrySeen) (k : ℕ) (plain : Option NoteSeen) → added_by plain ≡ 0
    → end (with_added j o) ≡ end j + added_by (note_or k plain o)
grows j None k plain none = omega (arith, none)
grows j (Some e) k plain none = let long = length-append j.entries (e ∷ []) in omega (arith, long)

stepped_grows : (before after : Journal) (event : EventSeen) (given : ReplySeen) (left : Option NoteSeen) → Stepped before event given left after
    → end after ≡ end before + added_by left
stepped_grows before after event given left step =
    ap end (step.replied.new_is ∙ ap (left_by before event) (sym step.replied.reply_is))
    ∙ ends_with before event given step.answers step.replied.reply_is
    ∙ grows before (added event given) (end before) (plain_by (asked_for event) given) (plain_adds_none (asked_for event) given)
    ∙ ap (λ o. end before + added_by o) (sym step.note_is)

-- there are as many entries more in all as the step's note tells of
pub step_grows : (before after : Journal) (event : EventSeen) (result : Result (Reply × Option Note) Event) → StepsOnce before event result after
    → end after ≡ end before + counted_by result
step_grows before after event (Ok answer) step = stepped_grows before after event _ _ step
step_grows before after event (Err back) step = let same = ap end step.after_is in omega (arith, same)

-- a share that counted the notes counts those of a step too
pub counts_on : (old mid new : List NoteSeen) (left : Option NoteSeen) (was now : ℕ) → was ≡ length (receipts old) → now ≡ was + added_by left
    → mid ≡ old → new ≡ mid ++ option_to_list left → now ≡ length (receipts new)
counts_on old mid new left was now counted amount same more =
    let both = ap (λ l. length (receipts l)) (more ∙ ap (λ l. l ++ option_to_list left) same)
    ∙ ap length (filter_map-append receipt_of old (option_to_list left)) in
    omega (arith, both, length-append (receipts old) (receipts (option_to_list left)))

-- the reply of a step is that of a lawful journal
pub replies : (event : EventSeen) (answer : Result (Reply × Option Note) Event) (result : Result Reply Event) → StepsSomewhere event answer
    → result ≡ reply_in answer
    → IfOk result (λ given. IsReplyTo event (reply_seen given))
replies event answer result steps is = subst (λ r. IfOk r (λ given. IsReplyTo event (reply_seen given))) (sym is) (by answer steps)
  where
    by : (answer : Result (Reply × Option Note) Event) → StepsSomewhere event answer → IfOk (reply_in answer) (λ given. IsReplyTo event (reply_seen given))
    by (Ok r) steps = record { journal = steps.before; lawful = steps.lawful; reply_is = steps.step.replied.reply_is }
    by (Err back) steps = tt

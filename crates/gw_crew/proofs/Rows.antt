-- A gate's reply is one of its event's row.
use Rattle.std.proofs.Common.{◌≡◌, ◌+◌, ℕ, true, if◌then◌else◌, List, Option, None, Some, slice_get, length, refl}
use Rattle.std.specs.Prelude.{not, is_some, nat_le, ◌&&◌}
use Rattle.std.proofs.lemmas.Bool.{and_parts, cond_both, false≢true}
use Rattle.gw_gate.specs.Chapters.{is_pending}
use Rattle.gw_gate.specs.Parts.{MessageSeen, is_under, same_receivers}
use Rattle.gw_gate.specs.Journal.{EntrySeen, Journal, Acceptance, Pair, acceptance, current, due, is_due, issued, jobs, kept, next_arrival, next_number}
use Rattle.gw_gate.specs.Journal.{released}
use Rattle.gw_gate.specs.Replies.{EventSeen, Looks, Arrives, Refuses, Swaps, Takes, Puts, Reissues, Releases, Cuts, ReplySeen, IsAccepted, IsStale, IsSwapped}
use Rattle.gw_gate.specs.Replies.{IsUnlike, IsStranger, IsRepeat, IsKept, IsDone, IsIssued, IsPending, IsClosed, IsFull, job_with, job_of, is_stranger, is_kept}
use Rattle.gw_gate.specs.Replies.{out_with, out_of}
use Rattle.gw_gate.specs.Replies.{reply_to, reply, limited, added, most}
use Rattle.gw_gate.specs.Lawful.{IsLawful}
use Rattle.gw_gate.specs.Headline.{IsTranslated}
use Rattle.gw_crew.specs.Notes.{Answers}
use Rattle.gw_crew.proofs.Jobs.{job_goes}

-- Full comes only where an entry would be added
full_answers : (event : EventSeen) (given : ReplySeen) → is_some (added event given) ≡ true → Answers event (IsFull event)
full_answers Looks given is = absurd (false≢true is)
full_answers Cuts given is = absurd (false≢true is)
full_answers event given is = refl

limited_answers : (limit : ℕ) (j : Journal) (event : EventSeen) (given : ReplySeen) → Answers event given → Answers event (limited limit j event given)
limited_answers limit j event given row =
    cond_both (is_some (added event given) && nat_le limit (length j.entries)) _ _ (Answers event) (λ is. full_answers event given (and_parts _ _ is).0)
    (λ is. row)

gives_out : (h : List EntrySeen) (r : ℕ) (o : Option ℕ) → Answers (Releases r) (out_of h r o)
gives_out h r None = tt
gives_out h r (Some n) = elim (kept h n r) as (λ o. Answers (Releases r) (out_with n o)) [ None ↦ tt | Some t ↦ tt ]

module _ (Means : List ℕ → MessageSeen → ℕ → MessageSeen → Type 0) where
  gives_job : (j : Journal) (k : ℕ) → IsLawful (IsTranslated Means) j → (o : Option Pair) → slice_get (issued j.entries) k ≡ o
      → Answers Takes (job_of j.entries o)
  gives_job j k lawful None is = tt
  gives_job j k lawful (Some p) is = with_found (acceptance j.entries p.n) refl
    where
      with_found : (a : Option Acceptance) → acceptance j.entries p.n ≡ a → Answers Takes (job_with p a)
      with_found None e = tt
      with_found (Some a) e = job_goes Means j k p a lawful is e

  row : (j : Journal) (event : EventSeen) → IsLawful (IsTranslated Means) j → Answers event (reply_to j event)
  row j Looks lawful = tt
  row j (Arrives c) lawful =
      let v = (current j).number in
      cond_both (is_under c v (current j).plan) (IsAccepted (next_number j) (next_arrival j)) (IsStale v c) (Answers (Arrives c)) (λ is. tt) (λ is. refl)
  row j (Refuses code) lawful = tt
  row j (Swaps p) lawful =
      cond_both (same_receivers p j.start.plan) (IsSwapped ((current j).number + 1)) (IsUnlike p) (Answers (Swaps p)) (λ is. tt) (λ is. refl)
  row j Takes lawful = gives_job j (jobs j.entries) lawful (slice_get (issued j.entries) (jobs j.entries)) refl
  row j (Puts n t) lawful =
      let kept = is_kept j.entries n t.receiver in
      cond_both (is_stranger j.entries n t) (IsStranger (Some t)) (if kept then IsRepeat t else IsKept) (Answers (Puts n t)) (λ is. refl)
      (λ is. cond_both kept (IsRepeat t) IsKept (Answers (Puts n t)) (λ is. refl) (λ is. tt))
  row j (Reissues n r) lawful =
      let kept = is_kept j.entries n r in
      cond_both (not (is_due j.entries n r)) (IsStranger None) (if kept then IsDone else IsIssued) (Answers (Reissues n r)) (λ is. refl)
      (λ is. cond_both kept IsDone IsIssued (Answers (Reissues n r)) (λ is. tt) (λ is. tt))
  row j (Releases r) lawful = gives_out j.entries r (slice_get (due j.entries r) (length (released j.entries r)))
  row j Cuts lawful = cond_both (is_pending j) IsPending (IsClosed j) (Answers Cuts) (λ is. tt) (λ is. tt)

  -- the reply of a lawful journal
  pub answers : (j : Journal) (event : EventSeen) → IsLawful (IsTranslated Means) j → Answers event (reply j event)
  answers j event lawful = limited_answers most j event (reply_to j event) (row j event lawful)

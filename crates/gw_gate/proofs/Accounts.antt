-- What the books tell of the replies.
use Rattle.std.proofs.Common.{◌≡◌, ◌≢◌, ℕ, ◌+◌, ◌<◌, Bool, true, false, if◌then◌else◌, List, Option, None, Some, option_map, slice_get, length, map, refl, sym, ap, ◌∙◌, arith}
use Rattle.std.specs.Prelude.{not, ◌&&◌}
use Rattle.std.proofs.lemmas.List.{length-map}
use Rattle.std.proofs.lemmas.Bool.{false≢true}
use Rattle.gw_reorder.specs.State.{DeskState}
use Rattle.gw_reorder.specs.Calls.{status_of, next_of}
use Rattle.gw_reorder.specs.Runs.{with_its_value}
use Rattle.gw_reorder.specs.declared.desk.Status.{Status}
use Rattle.gw_reorder.specs.declared.desk.Status.TheVariants.{Waiting}
use Rattle.gw_reorder.proofs.Steps.{more_given}
use Rattle.gw_gate.specs.Parts.{ConformingSeen, TranslatedSeen, is_under, same_source}
use Rattle.gw_gate.specs.Journal.{EntrySeen, Journal, Acceptance, accepted, acceptance, due, is_due, kept, released, current, next_number, next_arrival, Start}
use Rattle.gw_gate.specs.Replies.{ReplySeen, Arrives, IsAccepted, IsStale, most, Puts, Reissues, Releases, IsStranger, IsRepeat, IsKept, IsDone, IsIssued, IsOut, IsNothing, is_of, is_kept, out_with, out_of, reply_to}
use Rattle.gw_gate.specs.own.Books.{given, StandsAt, BooksSeen, Fits, journal_of, put_reply, issue_reply, release_reply}
pub use Rattle.gw_gate.specs.own.Books.{under}
use Rattle.gw_gate.specs.declared.event.Entry.{Entry}
use Rattle.gw_gate.specs.Entries.{entries_seen}
use Rattle.gw_gate.proofs.Entering.{as_long}
use Rattle.gw_gate.proofs.Standing.{status_by, status_stands}

-- what a pair is to the books
status_pair : (h : List EntrySeen) (n r : ℕ) (s : DeskState TranslatedSeen) → StandsAt h r s → status_of s n ≡ status_by (is_due h n r) (is_kept h n r)
status_pair h n r s stands = status_stands s (due h r) (map given (released h r)) (λ m. kept h m r) n stands

pub reissue_is : (p : Start) (h : List EntrySeen) (n r : ℕ) (s : DeskState TranslatedSeen) (told : Status) → StandsAt h r s → told ≡ status_of s n → reply_to (journal_of p h) (Reissues n r) ≡ issue_reply told
reissue_is p h n r s told stands is = by (is_due h n r) (is_kept h n r) ∙ ap issue_reply (sym (is ∙ status_pair h n r s stands))
  where
    by : (due kept : Bool) → (if not due then IsStranger None else if kept then IsDone else IsIssued) ≡ issue_reply (status_by due kept)
    by false kept = refl
    by true false = refl
    by true true = refl

put_by : (t : TranslatedSeen) (due of kept : Bool) → of ≡ true → (if not (due && of) then IsStranger (Some t) else if kept then IsRepeat t else IsKept) ≡ put_reply (status_by due kept) t
put_by t false of kept is = refl
put_by t true true false is = refl
put_by t true true true is = refl
put_by t true false kept is = absurd (false≢true is)

stranger_by : (t : TranslatedSeen) (due of : Bool) (other : ReplySeen) → of ≡ false → (if not (due && of) then IsStranger (Some t) else other) ≡ IsStranger (Some t)
stranger_by t false of other is = refl
stranger_by t true false other is = refl
stranger_by t true true other is = absurd (false≢true (sym is))

-- a translation of what was accepted under the number
pub put_is : (p : Start) (h : List EntrySeen) (n : ℕ) (t : TranslatedSeen) (c : ConformingSeen) (s : DeskState TranslatedSeen) (told : Status) → StandsAt h t.receiver s → acceptance h n ≡ Some (under n c) → same_source t.source c ≡ true → told ≡ status_of s n
    → reply_to (journal_of p h) (Puts n t) ≡ put_reply told t
put_is p h n t c s told stands is same told_is =
    put_by t (is_due h n t.receiver) (is_of t (acceptance h n)) (is_kept h n t.receiver) (ap (is_of t) is ∙ same)
    ∙ ap (λ s. put_reply s t) (sym (told_is ∙ status_pair h n t.receiver s stands))

-- a translation of something else, or under a number that nothing was accepted under
pub put_other : (j : Journal) (n : ℕ) (t : TranslatedSeen) (o : Option Acceptance) → acceptance j.entries n ≡ o → is_of t o ≡ false → reply_to j (Puts n t) ≡ IsStranger (Some t)
put_other j n t o is other =
    stranger_by t (is_due j.entries n t.receiver) (is_of t (acceptance j.entries n)) (if is_kept j.entries n t.receiver then IsRepeat t else IsKept) (ap (is_of t) is ∙ other)

-- what is kept waited for it
pub kept_waits : (p : Start) (h : List EntrySeen) (n : ℕ) (t : TranslatedSeen) (s : DeskState TranslatedSeen) → StandsAt h t.receiver s → reply_to (journal_of p h) (Puts n t) ≡ IsKept → (is_due h n t.receiver ≡ true) × (status_of s n ≡ Waiting)
kept_waits p h n t s stands row =
    let two = by (is_due h n t.receiver) (is_of t (acceptance h n)) (is_kept h n t.receiver) row in
    (two.0, status_pair h n t.receiver s stands ∙ ap (λ b. status_by b (is_kept h n t.receiver)) two.0 ∙ ap (status_by true) two.1)
  where
    by : (due of kept : Bool) → (if not (due && of) then IsStranger (Some t) else if kept then IsRepeat t else IsKept) ≡ IsKept → (due ≡ true) × (kept ≡ false)
    by false of kept e = absurd (cc)
    by true false kept e = absurd (cc)
    by true true false e = (refl, refl)
    by true true true e = absurd (cc)

pub release_is : (p : Start) (h : List EntrySeen) (r : ℕ) (s : DeskState TranslatedSeen) (o : Option (ℕ × TranslatedSeen)) → StandsAt h r s → o ≡ next_of s → reply_to (journal_of p h) (Releases r) ≡ release_reply o
release_is p h r s o stands is =
    by (slice_get (due h r) (length (released h r)))
    ∙ ap release_reply (sym (is ∙ more_given s (due h r) (map given (released h r)) (λ m. kept h m r) stands ∙ ap (λ k. with_its_value (λ m. kept h m r) (slice_get (due h r) k)) (length-map (released h r) given)))
  where
    value : (n : ℕ) (k : Option TranslatedSeen) → out_with n k ≡ release_reply (option_map (λ x. (n, x)) k)
    value n None = refl
    value n (Some t) = refl

    by : (d : Option ℕ) → out_of h r d ≡ release_reply (with_its_value (λ m. kept h m r) d)
    by None = refl
    by (Some n) = value n (kept h n r)

abbrev out_number : ℕ → ReplySeen → ℕ
out_number d (IsOut n t) = n
out_number d given = d

abbrev out_value : TranslatedSeen → ReplySeen → TranslatedSeen
out_value d (IsOut n t) = t
out_value d given = d

abbrev is_out : ReplySeen → Bool
is_out (IsOut n t) = true
is_out given = false

nothing_out : (n : ℕ) (t : TranslatedSeen) → IsNothing ≡ IsOut n t → ⊥
nothing_out n t e = false≢true (ap is_out e)

-- what is given out was next
pub out_next : (p : Start) (h : List EntrySeen) (n r : ℕ) (t : TranslatedSeen) (s : DeskState TranslatedSeen) → StandsAt h r s → reply_to (journal_of p h) (Releases r) ≡ IsOut n t → next_of s ≡ Some (n, t)
out_next p h n r t s stands row = by (next_of s) (sym (release_is p h r s (next_of s) stands refl) ∙ row)
  where
    by : (o : Option (ℕ × TranslatedSeen)) → release_reply o ≡ IsOut n t → o ≡ Some (n, t)
    by None e = absurd (nothing_out n t e)
    by (Some next) e = let a : next.0 ≡ n = ap (out_number n) e in let b : next.1 ≡ t = ap (out_value t) e in λ i. Some (a i, b i)

-- ---- what is accepted

pub accept_is : (p : Start) (h : List EntrySeen) (b : BooksSeen) (n arrival : ℕ) (c : ConformingSeen) → Fits p h b → n ≡ p.acceptances + length (accepted h) → arrival ≡ b.arrivals + 1 → is_under c (current (journal_of p h)).number (current (journal_of p h)).plan ≡ true
    → reply_to (journal_of p h) (Arrives c) ≡ IsAccepted n arrival
accept_is p h b n arrival c was is next under =
    let number : next_number (journal_of p h) ≡ n = omega (arith, is) in
    let k = was.arrivals.count_is in
    let count : next_arrival (journal_of p h) ≡ arrival = omega (arith, next, k) in
    ap (λ b. if b then IsAccepted (next_number (journal_of p h)) (next_arrival (journal_of p h)) else IsStale (current (journal_of p h)).number c) under
    ∙ ap (λ m. IsAccepted m (next_arrival (journal_of p h))) number ∙ ap (IsAccepted n) count

pub room_left : (p : Start) (items : List Entry) (b : BooksSeen) → Fits p (entries_seen items) b → length items ≢ most → length items < most
room_left p items b was other = let w = was.within in let l = as_long items in omega arith

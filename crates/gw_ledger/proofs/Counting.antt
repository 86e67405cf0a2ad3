-- The number of the next answer, and the margin that it is below.
use Rattle.std.proofs.Common.{◌≡◌, ℕ, ◌<◌, max, List, Option, None, Some, sym, subst, arith}
use Rattle.std.specs.Prelude.{IfSome}
use Rattle.gw_due.specs.Events.{Event, Planned, Accepted, Again, Passed, Named, Margin, Retired}
use Rattle.gw_due.specs.Due.{last_by, margin_by}
use Rattle.gw_due.specs.State.{State, after}
use Rattle.gw_due.specs.Spelling.{Entry, spelled}
use Rattle.gw_journal.specs.Logs.{IsAt, TicketState, log_in}
use Rattle.gw_ledger.specs.Ledgers.{IsMargin}
use Rattle.gw_ledger.specs.Putting.{margin_at, number_by}

-- ---- an event more

above : (last : Option ℕ) (e : Event) (n : ℕ) → IfSome last (λ m. m < n) → IfSome (last_by last e) (λ m. m < number_by n e)
above last (Accepted number to bytes) n is = omega arith
above last (Planned text) n is = is
above last (Again receiver place) n is = is
above last (Passed receiver place how) n is = is
above last (Named receiver name address) n is = is
above last (Margin number) n is = is
above last (Retired segment) n is = is

pub number_above : (old new : State) (e : Event) (n k : ℕ) → new ≡ after old e → k ≡ number_by n e → IfSome old.last (λ m. m < n) → IfSome new.last (λ m. m < k)
number_above old new e n k moved counted is =
    subst (λ (s : State). IfSome s.last (λ m. m < k)) (sym moved) (subst (λ j. IfSome (last_by old.last e) (λ m. m < j)) (sym counted) (above old.last e n is))

kept : (before : List (List ℕ)) (margin time : ℕ) (e : Event) (last : Option TicketState) (t : TicketState)
    → IsAt t.place (spelled (record { time = time; event = e })) (log_in before t.history)
    → IfSome last (IsMargin before margin) → IfSome (margin_at last t e) (IsMargin before (margin_by margin e))
kept before margin time (Margin number) last t there is = record { time = time; there = there }
kept before margin time (Accepted number to bytes) last t there is = is
kept before margin time (Planned text) last t there is = is
kept before margin time (Again receiver place) last t there is = is
kept before margin time (Passed receiver place how) last t there is = is
kept before margin time (Named receiver name address) last t there is = is
kept before margin time (Retired segment) last t there is = is

pub margin_kept : (before : List (List ℕ)) (old new : State) (e : Entry) (bytes : List ℕ) (last at : Option TicketState) (t : TicketState)
    → new ≡ after old e.event → at ≡ margin_at last t e.event → bytes ≡ spelled e → IsAt t.place bytes (log_in before t.history)
    → IfSome last (IsMargin before old.margin) → IfSome at (IsMargin before new.margin)
margin_kept before old new e bytes last at t moved marked spells there is =
    subst (λ (s : State). IfSome at (IsMargin before s.margin)) (sym moved) (subst (λ o. IfSome o (IsMargin before (margin_by old.margin e.event))) (sym marked)
    (kept before old.margin e.time e.event last t (subst (λ b. IsAt t.place b (log_in before t.history)) spells there) is))

-- the number of the first answer is above that of the last message, which is below the margin
pub first_number : (last : Option ℕ) (margin n : ℕ) → n ≡ max 1 margin → IfSome last (λ m. m < margin) → IfSome last (λ m. m < n)
first_number None margin n number is = tt
first_number (Some m) margin n number is = omega (arith, is, number)

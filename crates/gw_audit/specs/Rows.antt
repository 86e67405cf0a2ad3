-- Notes about a toy's journals, and what waits for its receivers.
use Rattle.std.specs.Prelude.{ℕ, List, [], ◌∷◌, Option, fold}
use Rattle.gw_gate.specs.Journal.{EntrySeen, Journal, WasAccepted, WasSwapped, WasTaken, WasKept, WasOut, opening, start_after}
use Rattle.gw_gate.specs.Parts.{TranslatedSeen}
use Rattle.gw_gate.specs.Replies.{Arrives, Swaps, Takes, Puts, Releases, run, most}
use Rattle.gw_gate.specs.Toy.{first_plan, second_plan, message, made, opened}
use Rattle.gw_reorder.specs.State.{nothing_due}
use Rattle.gw_audit.specs.Owing.{Desk, after_entry}
use Rattle.gw_crew.specs.Notes.{NoteSeen, Looked, WasStale, WasFull, WasIdle, WasNothing, Added}

-- ---- two workers, beside the session that brought two messages

abbrev pub session : List NoteSeen
session = Looked 0 first_plan ∷ Added 0 (WasAccepted 0 1 (message 10)) ∷ Looked 0 first_plan ∷ Added 1 (WasAccepted 1 2 (message 11)) ∷ []

abbrev pub one_worker : List NoteSeen
one_worker = Added 2 (WasTaken 0 0) ∷ Added 5 (WasKept 0 (made 10)) ∷ WasIdle ∷ []

abbrev pub other_worker : List NoteSeen
other_worker = Added 3 (WasTaken 1 0) ∷ WasIdle ∷ Added 4 (WasKept 1 (made 11)) ∷ []

-- it found no pair to be taken, and then took one that was there since before
abbrev pub idle_worker : List NoteSeen
idle_worker = WasIdle ∷ Added 3 (WasTaken 1 0) ∷ Added 4 (WasKept 1 (made 11)) ∷ []

-- it has a receipt of what the other one did too
abbrev pub boasting_worker : List NoteSeen
boasting_worker = Added 3 (WasTaken 1 0) ∷ WasIdle ∷ Added 4 (WasKept 1 (made 11)) ∷ Added 5 (WasKept 0 (made 10)) ∷ []

-- it has a receipt of another result
abbrev pub lying_worker : List NoteSeen
lying_worker = Added 3 (WasTaken 1 0) ∷ WasIdle ∷ Added 4 (WasKept 1 (made 12)) ∷ []

-- ---- a swap in traffic

abbrev pub swapped : Journal
swapped = run most opened (Arrives (message 10) ∷ Swaps second_plan ∷ Takes ∷ Puts 0 (made 10) ∷ Releases 0 ∷ [])

abbrev pub through_swap : List NoteSeen
through_swap =
    Looked 0 first_plan ∷ Added 0 (WasAccepted 0 1 (message 10)) ∷ Added 1 (WasSwapped 1 second_plan) ∷ WasStale 1 (message 11) ∷ Looked 1 second_plan
    ∷ Added 2 (WasTaken 0 0) ∷ WasIdle ∷ WasNothing 0 ∷ Added 3 (WasKept 0 (made 10)) ∷ Added 4 (WasOut 0 0 (made 10)) ∷ WasNothing 0 ∷ []

-- the opening plan is noted though another was swapped in
abbrev pub late_look : List NoteSeen
late_look = Added 1 (WasSwapped 1 second_plan) ∷ Looked 0 first_plan ∷ []

-- nothing was to be given out though a result was kept
abbrev pub late_nothing : List NoteSeen
late_nothing = Added 3 (WasKept 0 (made 10)) ∷ WasNothing 0 ∷ Added 4 (WasOut 0 0 (made 10)) ∷ []

-- a message was stale though its plan was in force
abbrev pub false_stale : List NoteSeen
false_stale = WasStale 0 (message 10) ∷ Added 0 (WasAccepted 0 1 (message 10)) ∷ []

-- ---- notes that cross a cut

-- one message is worked on and given out, and the journal closed; then a second one arrives
abbrev pub first_chapter : Journal
first_chapter = record { start = opening first_plan; entries = WasAccepted 0 1 (message 10) ∷ WasTaken 0 0 ∷ WasKept 0 (made 10) ∷ WasOut 0 0 (made 10) ∷ [] }

abbrev pub open_chapter : Journal
open_chapter = record { start = start_after first_chapter; entries = WasAccepted 1 2 (message 11) ∷ WasTaken 1 0 ∷ [] }

abbrev pub long_session : List NoteSeen
long_session = Looked 0 first_plan ∷ Added 0 (WasAccepted 0 1 (message 10)) ∷ Looked 0 first_plan ∷ Added 4 (WasAccepted 1 2 (message 11)) ∷ []

-- it found nothing to do after its job, and a job again in the next chapter
abbrev pub long_worker : List NoteSeen
long_worker = Added 1 (WasTaken 0 0) ∷ Added 2 (WasKept 0 (made 10)) ∷ WasIdle ∷ Added 5 (WasTaken 1 0) ∷ []

abbrev pub courier : List NoteSeen
courier = Added 3 (WasOut 0 0 (made 10)) ∷ WasNothing 0 ∷ []

-- the number counts from the chapter's start, as if no entry had been made before it
abbrev pub counting_anew : List NoteSeen
counting_anew = Looked 0 first_plan ∷ Added 0 (WasAccepted 0 1 (message 10)) ∷ Looked 0 first_plan ∷ Added 0 (WasAccepted 1 2 (message 11)) ∷ []

-- the open chapter was full, though it had room
abbrev pub denying : List NoteSeen
denying = Added 5 (WasTaken 1 0) ∷ WasFull ∷ []

-- ---- what is due to a receiver and waits

abbrev pub owing : List ℕ → ℕ → List (Option TranslatedSeen) → Desk
owing due given kept = record { due = due; released = given; kept = kept; room = 0 }

-- the receiver's desk after these entries
abbrev pub desk_by : List EntrySeen → ℕ → Desk
desk_by h r = fold (λ s e. after_entry e r s) nothing_due h

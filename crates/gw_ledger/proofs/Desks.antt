-- What a desk does, and the state beside it.
use Rattle.std.proofs.Common.{◌≡◌, ◌≤◌, ◌⊎◌, ◌↔◌, inl, inr, ℕ, Bool, true, false, List, [], ◌∷◌, ◌++◌, length, Option, None, Some, refl, ap, sym, ◌∙◌, subst}
use Rattle.std.proofs.lemmas.Bool.{false≢true}
use Rattle.std.specs.Prelude.{is_some, IfSome, IsNone, IsTrue}
use Rattle.gw_due.specs.Due.{Name}
use Rattle.gw_due.specs.State.{State, after, allows}
use Rattle.gw_due.specs.Spelling.{Entry, Fits, spelled}
use Rattle.gw_due.specs.Checkpoint.{checkpoint, StateFits}
use Rattle.gw_journal.specs.declared.event.Event as happened
use Rattle.gw_journal.specs.declared.event.Event.TheVariants.{Put, Synced, Read}
use Rattle.gw_journal.specs.Logs.{DeskState, IsAt, IsIdle, JobState, Log, AreFaithful, TicketState, log_in, next}
use Rattle.gw_journal.proofs.Logging.{log_more}
use Rattle.gw_ledger.specs.Ledgers.{IsInState, IsSeenIn, LedgerState, Spares, Tells, needed_from}
use Rattle.gw_ledger.specs.Putting.{IsPut, margin_at, number_by}
use Rattle.gw_ledger.proofs.Ledging.{faithful_part, next_is, state_more, state_stays, told}
use Rattle.gw_ledger.proofs.Needing.{spared_by}

module _ {S : Type 0} (Routes : (names : List Name) (plan to bytes : List ℕ) → Type 0) (before : List (List ℕ)) where
  abbrev pub Right : DeskState S → State → Type 0
  Right desk s = is_some desk.fault ≡ false → IsInState Routes (AreFaithful before desk.history) (log_in before desk.history).records s

  -- one event more that changes no record
  stays : (old new : DeskState S) (s : State) (e : happened.Event) → ((log : Log) → (next log e).records ≡ log.records)
      → new.history ≡ old.history ++ e ∷ [] → is_some old.fault ≡ false → Right old s
      → IsInState Routes (AreFaithful before new.history) (log_in before new.history).records s
  stays old new s e same history was right =
      let log : (log_in before new.history).records ≡ (log_in before old.history).records =
      ap (λ (l : Log). l.records) (log_more before old.history new.history e history) ∙ same (log_in before old.history) in
      state_stays Routes (AreFaithful before old.history) (AreFaithful before new.history) (log_in before old.history).records (log_in before new.history).records s
      (faithful_part before old.history new.history (e ∷ [], sym history)) log (right was)

  pub right_back : (old new : DeskState S) (s : State) (storage : S) (settled : ℕ) → Right old s
      → (is_some new.fault ≡ false → new ≡ record old { storage = Some storage; settled = settled; history = old.history ++ Synced settled ∷ [] })
      → Right new s
  right_back old new s storage settled right back well =
      let is = back well in
      stays old new s (Synced settled) (λ log. refl) (ap (λ (d : DeskState S). d.history) is) (ap (λ (d : DeskState S). is_some d.fault) (sym is) ∙ well) right

  pub right_unchanged : (old new : DeskState S) (s : State) → Right old s → (new ≡ old) ⊎ (is_some new.fault ≡ true) → Right new s
  right_unchanged old new s right (inl same) = subst (λ d. Right d s) (sym same) right
  right_unchanged old new s right (inr faulty) = λ well. absurd (false≢true (sym well ∙ faulty))

  pub right_noted : (old new : DeskState S) (s : State) (place : ℕ) (bytes : List ℕ) (b : Bool) → Right old s
      → (b ≡ true → new ≡ record old { history = old.history ++ Read place bytes ∷ [] }) → (b ≡ false → (new ≡ old) ⊎ (is_some new.fault ≡ true))
      → Right new s
  right_noted old new s place bytes true right noted failed = λ well.
      let is = noted refl in
      stays old new s (Read place bytes) (λ log. refl) (ap (λ (d : DeskState S). d.history) is) (ap (λ (d : DeskState S). is_some d.fault) (sym is) ∙ well) right
  right_noted old new s place bytes false right noted failed = right_unchanged old new s right (failed refl)

  -- a record is put that spells an entry
  pub right_put : (old new : DeskState S) (s : State) (e : Entry) (bytes : List ℕ) → Right old s → is_some old.fault ≡ false → bytes ≡ spelled e
      → new ≡ record old { batch = old.batch ++ bytes ∷ []; history = old.history ++ Put bytes ∷ [] }
      → Fits e → IsTrue (allows s e.event) → IsSeenIn Routes (AreFaithful before old.history) (log_in before old.history).records e.event
      → Right new (after s e.event)
  right_put old new s e bytes right was spells is fits allowed seen well =
      let history : new.history ≡ old.history ++ Put bytes ∷ [] = ap (λ (d : DeskState S). d.history) is in
      let log : (log_in before new.history).records ≡ (log_in before old.history).records ++ spelled e ∷ [] =
      ap (λ (l : Log). l.records) (log_more before old.history new.history (Put bytes) history) ∙ ap (λ b. (log_in before old.history).records ++ b ∷ []) spells in
      state_more Routes (AreFaithful before old.history) (AreFaithful before new.history) (log_in before old.history).records (log_in before new.history).records s e
      (faithful_part before old.history new.history (Put bytes ∷ [], sym history)) log fits allowed seen (right was)

  -- its state tells of all records
  pub right_tells : (desk : DeskState S) (s : State) (history : List happened.Event) (bytes : List ℕ) → Right desk s → is_some desk.fault ≡ false
      → history ≡ desk.history → bytes ≡ checkpoint s → StateFits s → Tells (log_in before history).records bytes
  right_tells desk s history bytes right well same spells fits =
      subst (λ h. Tells (log_in before h).records bytes) (sym same)
      (told Routes (AreFaithful before desk.history) (log_in before desk.history).records s bytes (right well) spells fits)

  -- and by its state so much is needed no more
  pub right_spares : (desk : DeskState S) (s : State) (history : List happened.Event) (place : ℕ) → Right desk s → is_some desk.fault ≡ false
      → history ≡ desk.history → place ≤ needed_from s → Spares (log_in before history).records place
  right_spares desk s history place right well same le =
      subst (λ h. Spares (log_in before h).records place) (sym same)
      (spared_by Routes (AreFaithful before desk.history) (log_in before desk.history).records s place (right well) le)

-- where there is something to do, there was no fault
pub not_idle : {S X : Type 0} (desk : DeskState S) (r : Option X) → (IsNone r ↔ IsIdle desk) → is_some r ≡ true → is_some desk.fault ≡ false
not_idle desk r idle some = at (is_some desk.fault) refl where
  at : (b : Bool) → is_some desk.fault ≡ b → is_some desk.fault ≡ false
  at true faulty = absurd (false≢true (sym (idle.1 (inl faulty)) ∙ some))
  at false well = well

-- ---- what is answered

pub is_put : {S : Type 0} (Routes : (names : List Name) (plan to bytes : List ℕ) → Type 0) (before : List (List ℕ)) (old : LedgerState S) (desk : DeskState S) (s : State)
    (number : ℕ) (margin : Option TicketState) (e : Entry) (bytes : List ℕ) (t : TicketState) → Right Routes before old.desk old.state → is_some old.desk.fault ≡ false → bytes ≡ spelled e
    → IsAt t.place bytes (log_in before t.history) → t.history ≡ desk.history → t.place ≡ length (log_in before old.desk.history).records
    → desk ≡ record old.desk { batch = old.desk.batch ++ bytes ∷ []; history = old.desk.history ++ Put bytes ∷ [] }
    → s ≡ after old.state e.event → number ≡ number_by old.number e.event → margin ≡ margin_at old.margin_at t e.event
    → Fits e → IsTrue (allows old.state e.event)
    → IsPut before old (record old { desk = desk; state = s; number = number; margin_at = margin }) e t
is_put {S = S} Routes before old desk s number margin e bytes t right well spells there seen place is moved counted marked fits allowed =
    let now : desk ≡ record old.desk { batch = old.desk.batch ++ spelled e ∷ []; history = old.desk.history ++ Put (spelled e) ∷ [] } =
    is ∙ ap (λ b. record old.desk { batch = old.desk.batch ++ b ∷ []; history = old.desk.history ++ Put b ∷ [] }) spells in
    let at : t.place ≡ old.state.next = place ∙ sym (next_is Routes (AreFaithful before old.desk.history) (log_in before old.desk.history).records old.state (right well)) in
    let all : t.history ≡ old.desk.history ++ Put (spelled e) ∷ [] = seen ∙ ap (λ (d : DeskState S). d.history) now in
    let mark : margin ≡ margin_at old.margin_at (record { history = old.desk.history ++ Put (spelled e) ∷ []; place = old.state.next }) e.event =
    marked ∙ ap (λ h. margin_at old.margin_at (record { history = h; place = t.place }) e.event) all
    ∙ ap (λ p. margin_at old.margin_at (record { history = old.desk.history ++ Put (spelled e) ∷ []; place = p }) e.event) at in
    record {
      place = at;
      there = subst (λ b. IsAt t.place b (log_in before t.history)) spells there;
      seen = seen;
      is = cc (now, moved, counted, mark);
      allowed = allowed;
      fits = fits;
    }

pub turned : {S : Type 0} (P : List ℕ → Type 0) (r : Option (JobState S)) (job : JobState S) (bytes : List ℕ) → r ≡ Some job → job.next ≡ Some bytes → P bytes
    → IfSome r (λ job. IfSome job.next P)
turned P r job bytes is next told = subst (λ (o : Option (JobState _)). IfSome o (λ job. IfSome job.next P)) (sym is) (subst (λ o. IfSome o P) (sym next) told)

pub kept : {S : Type 0} (P : List ℕ → Type 0) (r : Option (JobState S)) (job : JobState S) → r ≡ Some job → IsNone job.next → IfSome r (λ job. IfSome job.next P)
kept P r job is none = subst (λ (o : Option (JobState _)). IfSome o (λ job. IfSome job.next P)) (sym is) (at job.next none) where
  at : (o : Option (List ℕ)) → IsNone o → IfSome o P
  at None none = tt
  at (Some bytes) none = absurd (false≢true (sym none))

-- the same of what a job that begins the next file says of its place
pub turned_at : {S : Type 0} (P : ℕ → Type 0) (r : Option (JobState S)) (job old : JobState S) (bytes : List ℕ) (place : ℕ) → r ≡ Some job
    → job ≡ record old { next = Some bytes; keep = place } → P place → IfSome r (λ job. IfSome job.next (λ _. P job.keep))
turned_at P r job old bytes place is now holds =
    subst (λ (o : Option (JobState _)). IfSome o (λ job. IfSome job.next (λ _. P job.keep))) (sym is)
    (subst (λ (j : JobState _). IfSome j.next (λ _. P j.keep)) (sym now) holds)

pub kept_at : {S : Type 0} (P : ℕ → Type 0) (r : Option (JobState S)) (job : JobState S) → r ≡ Some job → IsNone job.next
    → IfSome r (λ job. IfSome job.next (λ _. P job.keep))
kept_at P r job is none = subst (λ (o : Option (JobState _)). IfSome o (λ job. IfSome job.next (λ _. P job.keep))) (sym is) (at job.next none) where
  at : (o : Option (List ℕ)) → IsNone o → IfSome o (λ _. P job.keep)
  at None none = tt
  at (Some bytes) none = absurd (false≢true (sym none))

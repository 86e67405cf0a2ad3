-- What was found is the first that is left.
use Rattle.std.proofs.Common.{◌≡◌, ◌⊎◌, inl, inr, ℕ, zero, suc, ◌+◌, ◌-◌, ◌≤◌, Bool, true, false, nat_eq, List, [], ◌∷◌, ◌++◌, length, take, drop, Some, slice_get, refl, ap, sym, ◌∙◌, subst, arith, append_assoc, length-append, cond}
use Rattle.std.specs.List.{AllByRecursion}
use Rattle.std.proofs.lemmas.List.{append-nil, map-append}
use Rattle.std.proofs.lemmas.Bool.Decides.{nat_tests}
use mathlib.Core.List.{IsPrefix}
use Rattle.gw_due.specs.Events.{Event, How, Planned, Accepted, Again, Passed, Named, Margin, Retired}
use Rattle.gw_due.specs.Due.{Name, due_by, due_from, left}
use Rattle.gw_due.specs.Lawful.{IsAccepted}
use Rattle.gw_due.specs.Says.{Says, SaysOf}
use Rattle.gw_due.specs.State.{Receiver, State}
use Rattle.gw_due.specs.Spelling.{Entry, Fits, spelled}
use Rattle.gw_due.proofs.EventForms.{one_record}
use Rattle.gw_due.proofs.Growing.{due_append}
use Rattle.gw_due.proofs.Stating.{stands}
use Rattle.gw_journal.specs.declared.event.Event as happened
use Rattle.gw_journal.specs.declared.event.Event.TheVariants.{Put, Synced, Read}
use Rattle.gw_journal.specs.Logs.{Log, AreFaithful, AreFaithfulFrom, IsAt, after, log_in, next, opened}
use Rattle.gw_journal.proofs.Logging.{log_later, log_read}
use Rattle.gw_ledger.specs.Ledgers.{IsInState, IsSeenIn, Spells, events_of}
use Rattle.gw_ledger.specs.Finding.{FoundState, InJournal, IsFound, IsMessage, IsNext, IsQuiet, IsScan, MessageState, ScanState, from_of, is_acceptance, makes_due}
use Rattle.gw_ledger.proofs.Ledging.{faithful_part, front_spelled}

-- ---- lists

take_front : {A : Type 0} (n : ℕ) (xs ys : List A) → n ≤ length xs → take n (xs ++ ys) ≡ take n xs
take_front zero [] ys le = refl
take_front zero (x ∷ xs) ys le = refl
take_front (suc n) [] ys le = absurd (omega arith)
take_front (suc n) (x ∷ xs) ys le = ap (λ l. x ∷ l) (take_front n xs ys (omega arith))

drop_front : {A : Type 0} (n : ℕ) (xs ys : List A) → n ≤ length xs → drop n (xs ++ ys) ≡ drop n xs ++ ys
drop_front zero xs ys le = refl
drop_front (suc n) [] ys le = absurd (omega arith)
drop_front (suc n) (x ∷ xs) ys le = drop_front n xs ys (omega arith)

drop_past : {A : Type 0} (n : ℕ) (xs : List A) → length xs ≤ n → drop n xs ≡ []
drop_past zero [] le = refl
drop_past zero (x ∷ xs) le = absurd (omega arith)
drop_past (suc n) [] le = refl
drop_past (suc n) (x ∷ xs) le = drop_past n xs (omega arith)

none_past : {A : Type 0} (n : ℕ) (xs : List A) → drop n (take n xs) ≡ []
none_past zero [] = refl
none_past zero (x ∷ xs) = refl
none_past (suc n) [] = refl
none_past (suc n) (x ∷ xs) = none_past n xs

length_drop : {A : Type 0} (n : ℕ) (xs : List A) → length (drop n xs) ≡ length xs - n
length_drop zero xs = omega arith
length_drop (suc n) [] = omega arith
length_drop (suc n) (x ∷ xs) = let e = length_drop n xs in omega (arith, e)

-- a list at a place of it: what stands before, the one there, what stands behind
pub record Cut {A : Type 0} (xs : List A) (k : ℕ) (x : A) : Type 0 where
  pub more : List A
  pub is : xs ≡ take k xs ++ x ∷ more
  pub size : length (take k xs) ≡ k
  pub next : take (suc k) xs ≡ take k xs ++ x ∷ []

first_only : {A : Type 0} (z : A) (xs : List A) → z ∷ take zero xs ≡ z ∷ []
first_only z [] = refl
first_only z (y ∷ ys) = refl

cut_at : {A : Type 0} (xs : List A) (k : ℕ) (x : A) → slice_get xs k ≡ Some x → Cut xs k x
cut_at [] k x e = absurd (cc)
cut_at (z ∷ xs) zero x e =
    let same : z ≡ x = cc (e) in
    record { more = xs; is = ap (λ y. y ∷ xs) same; size = refl; next = first_only z xs ∙ ap (λ y. y ∷ []) same }
cut_at (z ∷ xs) (suc k) x e =
    let below = cut_at xs k x e in
    record { more = below.more; is = ap (λ l. z ∷ l) below.is; size = ap suc below.size; next = ap (λ l. z ∷ l) below.next }

pub get_front : {A : Type 0} (xs ys : List A) (k : ℕ) (x : A) → slice_get xs k ≡ Some x → slice_get (xs ++ ys) k ≡ Some x
get_front [] ys k x e = absurd (cc)
get_front (z ∷ xs) ys zero x e = e
get_front (z ∷ xs) ys (suc k) x e = get_front xs ys k x e

-- ---- the record that was read

faithful_last : (log : Log) (old : List happened.Event) (place : ℕ) (bytes : List ℕ) → AreFaithfulFrom log (old ++ Read place bytes ∷ []) → IsAt place bytes (after log old)
faithful_last log [] place bytes all = all.0
faithful_last log (Put b ∷ old) place bytes all = faithful_last (next log (Put b)) old place bytes all
faithful_last log (Synced count ∷ old) place bytes all = faithful_last (next log (Synced count)) old place bytes all
faithful_last log (Read p b ∷ old) place bytes all = faithful_last log old place bytes all.1

entry_at : (records : List (List ℕ)) (entries : List Entry) (place : ℕ) (e : Entry) → Spells records entries → Fits e
    → slice_get records place ≡ Some (spelled e) → slice_get (events_of entries) place ≡ Some e.event
entry_at [] entries place e s fits at = absurd (cc)
entry_at (r ∷ records) [] place e s fits at = absurd (cc (s.are))
entry_at (r ∷ records) (x ∷ entries) zero e s fits at =
    let same : x ≡ e = one_record x e s.fit.0 fits (cc (s.are, at)) in ap (λ (y : Entry). Some y.event) same
entry_at (r ∷ records) (x ∷ entries) (suc place) e s fits at =
    entry_at records entries place e (record { are = cc (s.are); fit = s.fit.1 }) fits at

-- ---- what is due

due_made : (r at : ℕ) (e : Event) → makes_due r e ≡ true → due_by r at e ≡ at ∷ []
due_made r at (Planned text) made = absurd (cc)
due_made r at (Accepted number to bytes) made = ap (λ b. cond b (at ∷ []) []) made
due_made r at (Again receiver place) made = ap (λ b. cond b (at ∷ []) []) made
due_made r at (Passed receiver place how) made = absurd (cc)
due_made r at (Named receiver name address) made = absurd (cc)
due_made r at (Margin number) made = absurd (cc)
due_made r at (Retired segment) made = absurd (cc)

due_not : (r at : ℕ) (e : Event) → makes_due r e ≡ false → due_by r at e ≡ []
due_not r at (Planned text) made = refl
due_not r at (Accepted number to bytes) made = ap (λ b. cond b (at ∷ []) []) made
due_not r at (Again receiver place) made = ap (λ b. cond b (at ∷ []) []) made
due_not r at (Passed receiver place how) made = refl
due_not r at (Named receiver name address) made = refl
due_not r at (Margin number) made = refl
due_not r at (Retired segment) made = refl

-- a front in which nothing was due, seen in the whole
quiet_before : (before : List (List ℕ)) (scan : ScanState) (history : List happened.Event) (entries : List Entry)
    → IsScan before scan → IsPrefix scan.history history → AreFaithful before history → Spells (log_in before history).records entries
    → due_from scan.receiver scan.from (drop scan.from (take scan.at (events_of entries))) ≡ []
quiet_before before scan history entries is p faithful spells = either is.quiet where
  log : List Event
  log = events_of entries

  either : (scan.at ≡ scan.from) ⊎ InJournal (IsQuiet scan.receiver scan.from scan.at) before scan.history
      → due_from scan.receiver scan.from (drop scan.from (take scan.at log)) ≡ []
  either (inl same) =
      ap (λ n. due_from scan.receiver scan.from (drop scan.from (take n log))) same ∙ ap (due_from scan.receiver scan.from) (none_past scan.from log)
  either (inr quiet) =
      let later = log_later before scan.history history p in
      let cut = front_spelled (log_in before scan.history).records later.more entries (subst (λ rs. Spells rs entries) later.records spells) in
      let here = quiet (faithful_part before scan.history history p faithful) cut.front cut.spells in
      let whole : log ≡ events_of cut.front ++ events_of cut.rest = ap events_of cut.is ∙ map-append (λ (e : Entry). e.event) cut.front cut.rest in
      let front : take scan.at log ≡ take scan.at (events_of cut.front) = ap (take scan.at) whole ∙ take_front scan.at (events_of cut.front) (events_of cut.rest) here.within in
      ap (λ l. due_from scan.receiver scan.from (drop scan.from l)) front ∙ here.none

-- one record more, at the place up to which nothing was due
module _ (before : List (List ℕ)) (scan : ScanState) (old history : List happened.Event) (e : Entry) (is : IsScan before scan)
    (p : IsPrefix scan.history old) (read : history ≡ old ++ Read scan.at (spelled e) ∷ []) (fits : Fits e) where
  record There (log : List Event) : Type 0 where
    cut : Cut log scan.at e.event
    quiet : due_from scan.receiver scan.from (drop scan.from (take scan.at log)) ≡ []
    within : scan.from ≤ length (take scan.at log)
    count : scan.from + length (drop scan.from (take scan.at log)) ≡ scan.at

  there : AreFaithful before history → (entries : List Entry) → Spells (log_in before history).records entries → There (events_of entries)
  there faithful entries spells =
      let q : IsPrefix scan.history history = (p.0 ++ Read scan.at (spelled e) ∷ [], sym (append_assoc scan.history p.0 (Read scan.at (spelled e) ∷ [])) ∙ ap (λ l. l ++ Read scan.at (spelled e) ∷ []) p.1 ∙ sym read) in
      let stood : IsAt scan.at (spelled e) (log_in before old) = faithful_last (opened before) old scan.at (spelled e) (subst (λ h. AreFaithful before h) read faithful) in
      let same = log_read before old history scan.at (spelled e) read in
      let stands_here : slice_get (log_in before history).records scan.at ≡ Some (spelled e) = ap (λ (l : Log). slice_get l.records scan.at) same ∙ stood in
      let cut = cut_at (events_of entries) scan.at e.event (entry_at (log_in before history).records entries scan.at e spells fits stands_here) in
      let size = length_drop scan.from (take scan.at (events_of entries)) in
      let order : scan.from ≤ scan.at = is.order in
      let whole : length (take scan.at (events_of entries)) ≡ scan.at = cut.size in
      record {
        cut = cut;
        quiet = quiet_before before scan history entries is q faithful spells;
        within = omega (arith, order, whole);
        count = omega (arith, size, whole, order);
      }

  pub found : makes_due scan.receiver e.event ≡ true → IsFound before (record { receiver = scan.receiver; from = scan.from; place = scan.at; history = history })
  found made faithful entries spells =
      let log = events_of entries in
      let t = there faithful entries spells in
      let front = drop scan.from (take scan.at log) in
      let split : drop scan.from log ≡ front ++ e.event ∷ t.cut.more = ap (drop scan.from) t.cut.is ∙ drop_front scan.from (take scan.at log) (e.event ∷ t.cut.more) t.within in
      let due : due_from scan.receiver scan.from (drop scan.from log) ≡ scan.at ∷ due_from scan.receiver (scan.at + 1) t.cut.more =
      ap (due_from scan.receiver scan.from) split ∙ due_append scan.receiver scan.from front (e.event ∷ t.cut.more)
      ∙ ap (λ l. l ++ due_from scan.receiver (scan.from + length front) (e.event ∷ t.cut.more)) t.quiet
      ∙ ap (λ n. due_from scan.receiver n (e.event ∷ t.cut.more)) t.count
      ∙ ap (λ l. l ++ due_from scan.receiver (scan.at + 1) t.cut.more) (due_made scan.receiver scan.at e.event made) in
      ap (λ l. slice_get l 0) due

  pub passed_over : (at : ℕ) → at ≡ scan.at + 1 → makes_due scan.receiver e.event ≡ false
      → IsScan before (record { receiver = scan.receiver; from = scan.from; at = at; history = history })
  passed_over at is_next made =
      let order : scan.from ≤ scan.at = is.order in
      record { order = omega (arith, order, is_next); quiet = inr (λ faithful entries spells. step (there faithful entries spells)) }
    where
      step : {log : List Event} → There log → IsQuiet scan.receiver scan.from at log
      step {log} t =
          let whole : length (take scan.at log) ≡ scan.at = t.cut.size in
          let size : length log ≡ scan.at + suc (length t.cut.more) = ap length t.cut.is ∙ length-append (take scan.at log) (e.event ∷ t.cut.more) ∙ ap (λ n. n + suc (length t.cut.more)) whole in
          let n : at ≡ suc scan.at = omega (arith, is_next) in
          let front = drop scan.from (take scan.at log) in
          let split : drop scan.from (take at log) ≡ front ++ e.event ∷ [] =
          ap (λ n. drop scan.from (take n log)) n ∙ ap (drop scan.from) t.cut.next ∙ drop_front scan.from (take scan.at log) (e.event ∷ []) t.within in
          record {
            within = omega (arith, size, is_next);
            none = ap (due_from scan.receiver scan.from) split ∙ due_append scan.receiver scan.from front (e.event ∷ [])
                ∙ ap (λ l. l ++ due_from scan.receiver (scan.from + length front) (e.event ∷ [])) t.quiet
                ∙ append-nil (due_by scan.receiver (scan.from + length front) e.event) ∙ due_not scan.receiver (scan.from + length front) e.event made;
          }

-- the same of bytes that spell the entry
pub over_found : (before : List (List ℕ)) (scan : ScanState) (old history : List happened.Event) (bytes : List ℕ) (e : Entry) → IsScan before scan
    → IsPrefix scan.history old → history ≡ old ++ Read scan.at bytes ∷ [] → Fits e × (bytes ≡ spelled e) → makes_due scan.receiver e.event ≡ true
    → IsFound before (record { receiver = scan.receiver; from = scan.from; place = scan.at; history = history })
over_found before scan old history bytes e is p read spells made =
    found before scan old history e is p (read ∙ ap (λ b. old ++ Read scan.at b ∷ []) spells.1) spells.0 made

pub over_none : (before : List (List ℕ)) (scan : ScanState) (old history : List happened.Event) (bytes : List ℕ) (e : Entry) → IsScan before scan
    → IsPrefix scan.history old → history ≡ old ++ Read scan.at bytes ∷ [] → Fits e × (bytes ≡ spelled e) → makes_due scan.receiver e.event ≡ false
    → IsScan before (record { receiver = scan.receiver; from = scan.from; at = scan.at + 1; history = history })
over_none before scan old history bytes e is p read spells made =
    passed_over before scan old history e is p (read ∙ ap (λ b. old ++ Read scan.at b ∷ []) spells.1) spells.0 (scan.at + 1) refl made

-- ---- passing

of_receiver : (log : List Event) (n from : ℕ) (rs : List Receiver) → AllByRecursion (SaysOf log) rs → from_of n rs ≡ Some from
    → left n log ≡ due_from n from (drop from log)
of_receiver log n from [] says is = absurd (cc)
of_receiver log n from (r ∷ rs) says is = at (nat_eq r.number n) refl is (λ other. of_receiver log n from rs says.1 other) where
  at : (b : Bool) → nat_eq r.number n ≡ b → cond b (Some r.from) (from_of n rs) ≡ Some from
      → (from_of n rs ≡ Some from → left n log ≡ due_from n from (drop from log)) → left n log ≡ due_from n from (drop from log)
  at true same is rest =
      let number : r.number ≡ n = grind (arith, nat_tests) in
      let begins : r.from ≡ from = cc (is) in
      subst (λ k. left n log ≡ due_from n k (drop k log)) begins (subst (λ m. left m log ≡ due_from m r.from (drop r.from log)) number says.0.behind)
  at false other is rest = rest is

in_order : (a b : ℕ) → (a ≤ b) ⊎ (b ≤ a)
in_order zero b = inl (omega arith)
in_order (suc a) zero = inr (omega arith)
in_order (suc a) (suc b) = step (in_order a b) where
  step : (a ≤ b) ⊎ (b ≤ a) → (suc a ≤ suc b) ⊎ (suc b ≤ suc a)
  step (inl le) = inl (omega (arith, le))
  step (inr le) = inr (omega (arith, le))

pub next_stays : (n from place : ℕ) (log more : List Event) → IsNext n from place log → IsNext n from place (log ++ more)
next_stays n from place log more next = by_order (in_order from (length log)) where
  by_order : (from ≤ length log) ⊎ (length log ≤ from) → IsNext n from place (log ++ more)
  by_order (inl le) =
      ap (λ l. slice_get (due_from n from l) 0) (drop_front from log more le)
      ∙ ap (λ l. slice_get l 0) (due_append n from (drop from log) more)
      ∙ get_front (due_from n from (drop from log)) (due_from n (from + length (drop from log)) more) 0 place next
  by_order (inr le) = absurd (cc (next, ap (due_from n from) (drop_past from log le)))

pub seen_passed : (Routes : (names : List Name) (plan to bytes : List ℕ) → Type 0) (before : List (List ℕ)) (found : FoundState) (history : List happened.Event)
    (s : State) (how : How) → IsFound before found → IsPrefix found.history history → from_of found.receiver s.receivers ≡ Some found.from
    → IsInState Routes (AreFaithful before history) (log_in before history).records s
    → IsSeenIn Routes (AreFaithful before history) (log_in before history).records (Passed found.receiver found.place how)
seen_passed Routes before found history s how is p begins state entries spells faithful =
    let log = events_of entries in
    let says : Says log s = subst (Says log) (sym (state.is entries spells)) (stands Routes log (state.lawful faithful entries spells)).says in
    let behind = of_receiver log found.receiver found.from s.receivers says.receivers begins in
    let later = log_later before found.history history p in
    let cut = front_spelled (log_in before found.history).records later.more entries (subst (λ rs. Spells rs entries) later.records spells) in
    let whole : log ≡ events_of cut.front ++ events_of cut.rest = ap events_of cut.is ∙ map-append (λ (e : Entry). e.event) cut.front cut.rest in
    let next = is (faithful_part before found.history history p faithful) cut.front cut.spells in
    let here : IsNext found.receiver found.from found.place log = subst (IsNext found.receiver found.from found.place) (sym whole)
    (next_stays found.receiver found.from found.place (events_of cut.front) (events_of cut.rest) next) in
    ap (λ l. slice_get l 0) behind ∙ here

-- ---- once more

is_accepted : (log : List Event) (place : ℕ) (e : Event) → is_acceptance e ≡ true → slice_get log place ≡ Some e → IsAccepted place log
is_accepted log place (Planned text) is at = absurd (cc)
is_accepted log place (Accepted number to bytes) is at = record { number = number; to = to; bytes = bytes; there = at }
is_accepted log place (Again receiver on) is at = absurd (cc)
is_accepted log place (Passed receiver on how) is at = absurd (cc)
is_accepted log place (Named receiver name address) is at = absurd (cc)
is_accepted log place (Margin number) is at = absurd (cc)
is_accepted log place (Retired segment) is at = absurd (cc)

pub message_read : (before : List (List ℕ)) (place : ℕ) (old history : List happened.Event) (bytes : List ℕ) (e : Entry)
    → history ≡ old ++ Read place bytes ∷ [] → Fits e × (bytes ≡ spelled e) → is_acceptance e.event ≡ true
    → IsMessage before (record { place = place; history = history })
message_read before place old history bytes e read spells is faithful entries reads =
    let now : history ≡ old ++ Read place (spelled e) ∷ [] = read ∙ ap (λ b. old ++ Read place b ∷ []) spells.1 in
    let stood : IsAt place (spelled e) (log_in before old) = faithful_last (opened before) old place (spelled e) (subst (λ h. AreFaithful before h) now faithful) in
    let here : slice_get (log_in before history).records place ≡ Some (spelled e) = ap (λ (l : Log). slice_get l.records place) (log_read before old history place (spelled e) now) ∙ stood in
    is_accepted (events_of entries) place e.event is (entry_at (log_in before history).records entries place e reads spells.0 here)

pub seen_again : (Routes : (names : List Name) (plan to bytes : List ℕ) → Type 0) (before : List (List ℕ)) (message : MessageState) (history : List happened.Event)
    (receiver : ℕ) → IsMessage before message → IsPrefix message.history history
    → IsSeenIn Routes (AreFaithful before history) (log_in before history).records (Again receiver message.place)
seen_again Routes before message history receiver is p entries spells faithful =
    let later = log_later before message.history history p in
    let cut = front_spelled (log_in before message.history).records later.more entries (subst (λ rs. Spells rs entries) later.records spells) in
    let whole : events_of entries ≡ events_of cut.front ++ events_of cut.rest = ap events_of cut.is ∙ map-append (λ (e : Entry). e.event) cut.front cut.rest in
    let there = is (faithful_part before message.history history p faithful) cut.front cut.spells in
    record {
      number = there.number;
      to = there.to;
      bytes = there.bytes;
      there = ap (λ log. slice_get log message.place) whole
          ∙ get_front (events_of cut.front) (events_of cut.rest) message.place (Accepted there.number there.to there.bytes) there.there;
    }

-- What is left for a receiver, by a state and as it goes on.
use Rattle.std.proofs.Common.{◌≡◌, ℕ, ◌+◌, ◌-◌, ◌≤◌, ◌<◌, Bool, true, false, nat_eq, cond, List, [], ◌∷◌, ◌++◌, length, take, drop, Option, Some, None, slice_get, refl, ap, sym, ◌∙◌, subst, arith, rules, append_assoc, length-append}
use Rattle.std.specs.Prelude.{◌&&◌, ◌||◌, nat_le, IfSome}
use Rattle.std.specs.List.{AllByRecursion}
use Rattle.std.proofs.lemmas.Bool.{and_parts, eqb-true, leb-true}
use Rattle.std.proofs.lemmas.List.{append-nil, map-append, length-drop, drop-append-le, drop-drop, take-append-drop, length-take-le, nil_from_length}
use mathlib.Core.List.{IsPrefix}
use Rattle.gw_due.specs.Events.{Event, How, Passed}
use Rattle.gw_due.specs.Due.{Name, due, due_from, left, names, passed, passed_by}
use Rattle.gw_due.specs.Lawful.{Lawful, is_named}
use Rattle.gw_due.specs.Says.{SaysOf}
use Rattle.gw_due.specs.State.{Receiver, State, is_known, state_of}
use Rattle.gw_due.specs.Spelling.{Entry, Fits, spelled}
use Rattle.gw_due.proofs.Growing.{due_append, drop_front, ordered, passed_append}
use Rattle.gw_due.proofs.Standing.{first_due}
use Rattle.gw_due.proofs.Stating.{Stands, stands}
use Rattle.gw_due.proofs.Telling.{stranger}
use Rattle.gw_journal.specs.declared.event.Event as happened
use Rattle.gw_journal.specs.declared.event.Event.TheVariants.{Put}
use Rattle.gw_journal.specs.Logs.{AreFaithful, Log, TicketState, log_in}
use Rattle.gw_journal.proofs.Logging.{log_later, log_more}
use Rattle.gw_ledger.specs.Ledgers.{IsInState, LedgerState, Spells, events_of}
use Rattle.gw_ledger.specs.Putting.{IsPut, timed}
use Rattle.gw_ledger.specs.Finding.{FoundState, InJournal, IsFound, IsNext, from_of, was_passed}
use Rattle.gw_ledger.specs.Backlogs.{BacklogState, BeginsWith, Between, GoesOn, HasPassed, HasPassedWithin, IsBacklog, IsFirstLeft, IsLeftFrom, OnDisk, WasFirst, is_at_rest, left_from}
use Rattle.gw_ledger.specs.own.Steps.{IsFirstFrom}
use Rattle.gw_ledger.proofs.Keeping.{first_stored, within_now}
use Rattle.gw_ledger.proofs.Ledging.{cut_one, events_more, faithful_part, front_spelled, one_reading}
use Rattle.gw_ledger.proofs.Passing.{next_stays}

-- ---- what is due from a place on, in two parts

record IsParted (r a b : ℕ) (log : List Event) : Type 0 where
  front : List ℕ
  is : due_from r a (drop a log) ≡ front ++ due_from r b (drop b log)
  below : (x : ℕ) (rest : List ℕ) → front ≡ x ∷ rest → x < b

parted : (r a b : ℕ) (log : List Event) → a ≤ b → b ≤ length log → IsParted r a b log
parted r a b log order within =
    let k : ℕ = b - a in
    let part : List Event = take k (drop a log) in
    let up : a + k ≡ b = omega arith in
    let size : length part ≡ k = length-take-le k (drop a log) (omega (arith, length-drop a log)) in
    let end : a + length part ≡ b = omega (arith, size, up) in
    record {
      front = due_from r a part;
      is = ap (due_from r a) (sym (take-append-drop k (drop a log))) ∙ due_append r a part (drop k (drop a log))
          ∙ ap (λ n. due_from r a part ++ due_from r n (drop k (drop a log))) end
          ∙ ap (λ l. due_from r a part ++ due_from r b l) (drop-drop k a log ∙ ap (λ n. drop n log) up);
      below = λ x rest is. let first = first_due r a x part rest is in let below = first.below in omega (arith, below, end);
    }

-- nothing is due before the first
same_first : (r a b place : ℕ) (log : List Event) → a ≤ b → b ≤ length log → b ≤ place → IsNext r a place log
    → due_from r a (drop a log) ≡ due_from r b (drop b log)
same_first r a b place log order within behind next =
    let p = parted r a b log order within in
    by p.front p.is p.below
  where
    by : (front : List ℕ) → due_from r a (drop a log) ≡ front ++ due_from r b (drop b log)
        → ((x : ℕ) (rest : List ℕ) → front ≡ x ∷ rest → x < b) → due_from r a (drop a log) ≡ due_from r b (drop b log)
    by [] is below = is
    by (x ∷ front) is below =
        let same : x ≡ place = cc (sym (ap (λ l. slice_get l 0) is) ∙ next) in
        let less = below x front refl in
        absurd (omega (arith, same, less, behind))

no_more : (xs ys : List ℕ) → xs ++ ys ≡ [] → ys ≡ []
no_more [] ys is = is
no_more (x ∷ xs) ys is = absurd (cc is)

none_behind : (r a b : ℕ) (log : List Event) → a ≤ b → b ≤ length log → due_from r a (drop a log) ≡ [] → due_from r b (drop b log) ≡ []
none_behind r a b log order within none =
    let p = parted r a b log order within in
    no_more p.front (due_from r b (drop b log)) (sym p.is ∙ none)

-- ---- by a state

all_due : (r : ℕ) (log : List Event) → IsPrefix (passed r log) (due r log) → passed r log ++ left r log ≡ due r log
all_due r log p = ap (λ l. passed r log ++ drop (length (passed r log)) l) (sym p.1) ∙ ap (λ l. passed r log ++ l) (drop_front (passed r log) p.0) ∙ p.1

-- what a state's receivers say of the one of this number
data Looked (log : List Event) (n next place : ℕ) (rs : List Receiver) : Type 0 where
  there : (r : Receiver) → SaysOf log r → r.number ≡ n → from_of n rs ≡ Some r.from → left_from n next rs ≡ cond (nat_eq r.left 0) next r.from
      → is_at_rest n place rs ≡ (nat_eq r.left 0 && nat_le r.from place) → Looked log n next place rs
  nowhere : is_known rs n ≡ false → from_of n rs ≡ None → left_from n next rs ≡ next → Looked log n next place rs

look : (log : List Event) (n next place : ℕ) (rs : List Receiver) → AllByRecursion (SaysOf log) rs → Looked log n next place rs
look log n next place [] says = nowhere refl refl refl
look log n next place (r ∷ rs) says = by (nat_eq r.number n) refl (look log n next place rs says.1) where
  by : (b : Bool) → nat_eq r.number n ≡ b → Looked log n next place rs → Looked log n next place (r ∷ rs)
  by true is more = there r says.0 (eqb-true r.number n is) (ap (λ b. cond b (Some r.from) (from_of n rs)) is)
      (ap (λ b. cond b (cond (nat_eq r.left 0) next r.from) (left_from n next rs)) is)
      (ap (λ b. cond b (nat_eq r.left 0 && nat_le r.from place) (is_at_rest n place rs)) is)
  by false is (there s of number from begins rests) = there s of number (ap (λ b. cond b (Some r.from) (from_of n rs)) is ∙ from)
      (ap (λ b. cond b (cond (nat_eq r.left 0) next r.from) (left_from n next rs)) is ∙ begins)
      (ap (λ b. cond b (nat_eq r.left 0 && nat_le r.from place) (is_at_rest n place rs)) is ∙ rests)
  by false is (nowhere unknown from begins) = nowhere (ap (λ b. b || is_known rs n) is ∙ unknown)
      (ap (λ b. cond b (Some r.from) (from_of n rs)) is ∙ from) (ap (λ b. cond b (cond (nat_eq r.left 0) next r.from) (left_from n next rs)) is ∙ begins)

-- where nothing is left, nothing is due from any place on that isn't before the last that was passed
resting : (n from place : ℕ) (log : List Event) → IsLeftFrom n from log → left n log ≡ [] → from ≤ place → place ≤ length log → IsLeftFrom n place log
resting n from place log is none order within = record {
  within = within;
  behind = none ∙ sym (none_behind n from place log order within (sym is.behind ∙ none));
  order = is.order;
}

-- what is left begins at an earlier place, if nothing is due up to the first that is left
earlier : (n from at place : ℕ) (log : List Event) → IsLeftFrom n at log → from ≤ at → at ≤ place → IsNext n from place log → IsLeftFrom n from log
earlier n from at place log is order behind next = record {
  within = let within = is.within in omega (arith, order, within);
  behind = is.behind ∙ sym (same_first n from at place log order is.within behind next);
  order = is.order;
}

module _ (Routes : (names : List Name) (plan to bytes : List ℕ) → Type 0) (log : List Event) (lawful : Lawful Routes log) where
  of_one : (n : ℕ) (r : Receiver) → SaysOf log r → r.number ≡ n → IsLeftFrom n r.from log
  of_one n r says number = subst (λ m. IsLeftFrom m r.from log) number
      (record { within = says.within; behind = says.behind; order = all_due r.number log (ordered Routes log lawful r.number) })

  none_left : (n : ℕ) (r : Receiver) → SaysOf log r → r.number ≡ n → nat_eq r.left 0 ≡ true → left n log ≡ []
  none_left n r says number is = subst (λ m. left m log ≡ []) number (nil_from_length (left r.number log) (sym says.left ∙ eqb-true r.left 0 is))

  -- nothing is due to a receiver without a name
  of_none : (n place : ℕ) → is_named (names log) n ≡ false → place ≤ length log → IsLeftFrom n place log
  of_none n place unnamed within =
      let is = stranger Routes n log lawful unnamed in
      let none : left n log ≡ [] = ap (λ l. drop (length l) (due n log)) is.passed ∙ is.due in
      resting n 0 place log (record { within = omega arith; behind = ap (λ l. drop (length l) (due n log)) is.passed; order = all_due n log (ordered Routes log lawful n) })
      none (omega arith) within

  by_choice : (n next : ℕ) (r : Receiver) → SaysOf log r → r.number ≡ n → next ≡ length log → (b : Bool) → nat_eq r.left 0 ≡ b
      → IsLeftFrom n (cond b next r.from) log
  by_choice n next r says number end true is =
      let one = of_one n r says number in
      let within = one.within in
      resting n r.from next log one (none_left n r says number is) (omega (arith, within, end)) (omega (arith, end))
  by_choice n next r says number end false is = of_one n r says number

  abbrev S : State
  S = state_of log

  state_stands : Stands Routes log S
  state_stands = stands Routes log lawful

  unnamed_by : (n : ℕ) → is_known S.receivers n ≡ false → is_named (names log) n ≡ false
  unnamed_by n unknown = sym (state_stands.has.known n) ∙ unknown

  pub begins_at : (n : ℕ) → IsLeftFrom n (left_from n S.next S.receivers) log
  begins_at n = by (look log n S.next 0 S.receivers state_stands.says.receivers) where
    by : Looked log n S.next 0 S.receivers → IsLeftFrom n (left_from n S.next S.receivers) log
    by (there r says number from begins rests) = subst (λ k. IsLeftFrom n k log) (sym begins)
        (by_choice n S.next r says number state_stands.says.next (nat_eq r.left 0) refl)
    by (nowhere unknown from begins) = let end = state_stands.says.next in
        subst (λ k. IsLeftFrom n k log) (sym begins) (of_none n S.next (unnamed_by n unknown) (omega (arith, end)))

  pub left_of : (n from : ℕ) → from_of n S.receivers ≡ Some from → IsLeftFrom n from log
  left_of n from is = by (look log n S.next 0 S.receivers state_stands.says.receivers) where
    by : Looked log n S.next 0 S.receivers → IsLeftFrom n from log
    by (there r says number here begins rests) = subst (λ k. IsLeftFrom n k log) (cc (here, is)) (of_one n r says number)
    by (nowhere unknown here begins) = absurd (cc (here, is))

  pub rests_at : (n place : ℕ) → place ≤ length log → is_at_rest n place S.receivers ≡ true → IsLeftFrom n place log
  rests_at n place within is = by (look log n S.next place S.receivers state_stands.says.receivers) where
    by : Looked log n S.next place S.receivers → IsLeftFrom n place log
    by (there r says number from begins rests) =
        let both = and_parts (nat_eq r.left 0) (nat_le r.from place) (sym rests ∙ is) in
        resting n r.from place log (of_one n r says number) (none_left n r says number both.0) (leb-true r.from place both.1) within
    by (nowhere unknown from begins) = of_none n place (unnamed_by n unknown) within

-- ---- in a journal

-- the entries of an earlier moment stand before the later ones
pub record Parts (before : List (List ℕ)) (old : List happened.Event) (these those : List Entry) : Type 0 where
  pub rest : List Entry
  pub is : events_of those ≡ events_of these ++ events_of rest

pub parts : (before : List (List ℕ)) (old new : List happened.Event) (these those : List Entry) → IsPrefix old new
    → Spells (log_in before old).records these → Spells (log_in before new).records those → Parts before old these those
parts before old new these those p spells later_spells =
    let later = log_later before old new p in
    let cut = front_spelled (log_in before old).records later.more those (subst (λ rs. Spells rs those) later.records later_spells) in
    let same : cut.front ≡ these = one_reading (log_in before old).records cut.front these cut.spells spells in
    record {
      rest = cut.rest;
      is = ap events_of cut.is ∙ map-append (λ (e : Entry). e.event) cut.front cut.rest ∙ ap (λ es. events_of es ++ events_of cut.rest) same;
    }

-- what holds of a log that grows from a moment on
later_in : (P : List Event → Type 0) (before : List (List ℕ)) (old new : List happened.Event)
    → ((log more : List Event) → P log → P (log ++ more)) → InJournal P before old → IsPrefix old new → InJournal P before new
later_in P before old new stays holds p faithful entries spells =
    let later = log_later before old new p in
    let cut = front_spelled (log_in before old).records later.more entries (subst (λ rs. Spells rs entries) later.records spells) in
    let whole : events_of entries ≡ events_of cut.front ++ events_of cut.rest = ap events_of cut.is ∙ map-append (λ (e : Entry). e.event) cut.front cut.rest in
    subst P (sym whole) (stays (events_of cut.front) (events_of cut.rest) (holds (faithful_part before old new p faithful) cut.front cut.spells))

-- where what is left begins at the same place as before, nothing was passed
same_passed : (r from : ℕ) (log more : List Event) → IsLeftFrom r from log → IsLeftFrom r from (log ++ more) → HasPassed r [] log (log ++ more)
same_passed r from log more old new =
    let new_due : List ℕ = due_from r (length log) more in
    let end : from + length (drop from log) ≡ length log = omega (arith, length-drop from log, old.within) in
    let rest : left r (log ++ more) ≡ left r log ++ new_due =
    new.behind ∙ ap (due_from r from) (drop-append-le from log more old.within) ∙ due_append r from (drop from log) more
    ∙ ap (λ n. due_from r from (drop from log) ++ due_from r n more) end ∙ ap (λ l. l ++ new_due) (sym old.behind) in
    let start : 0 + length log ≡ length log = omega arith in
    let all : due r (log ++ more) ≡ due r log ++ new_due = due_append r 0 log more ∙ ap (λ n. due r log ++ due_from r n more) start in
    let done = passed_append r log more in
    let a = ap length (ap (λ l. passed r (log ++ more) ++ l) (sym rest) ∙ new.order ∙ all) in
    let b = length-append (passed r (log ++ more)) (left r log ++ new_due) in
    let c = length-append (left r log) new_due in
    let d = length-append (due r log) new_due in
    let e = ap length old.order in
    let f = length-append (passed r log) (left r log) in
    let g = ap length done in
    let h = length-append (passed r log) (passed r more) in
    let none : passed r more ≡ [] = nil_from_length (passed r more) (omega (arith, a, b, c, d, e, f, g, h)) in
    done ∙ ap (λ l. passed r log ++ l) none

pub not_passed : (before : List (List ℕ)) (b : BacklogState) (history : List happened.Event) → IsBacklog before b
    → InJournal (IsLeftFrom b.receiver b.from) before history → IsPrefix b.history history
    → Between (HasPassed b.receiver []) before b.history history
not_passed before b history old new p faithful these those spells later_spells =
    let cut = parts before b.history history these those p spells later_spells in
    let was = old (faithful_part before b.history history p faithful) these spells in
    let now = new faithful those later_spells in
    subst (λ l. HasPassed b.receiver [] (events_of these) l) (sym cut.is)
    (same_passed b.receiver b.from (events_of these) (events_of cut.rest) was (subst (IsLeftFrom b.receiver b.from) cut.is now))

-- one more is passed
pub one_passed : (before : List (List ℕ)) (r place : ℕ) (how : How) (time : ℕ) (old mid new : List happened.Event)
    → IsPrefix old mid → Between (HasPassed r []) before old mid
    → new ≡ mid ++ Put (spelled (record { time = time; event = Passed r place how })) ∷ [] → Fits (record { time = time; event = Passed r place how })
    → Between (HasPassed r (place ∷ [])) before old new
one_passed before r place how time old mid new p none put fits faithful these those spells later_spells =
    let e : Entry = record { time = time; event = Passed r place how } in
    let log : (log_in before new).records ≡ (log_in before mid).records ++ spelled e ∷ [] = ap (λ (l : Log). l.records) (log_more before mid new (Put (spelled e)) put) in
    let cut = cut_one (log_in before mid).records (log_in before new).records e those log fits later_spells in
    let was = none (faithful_part before mid new (Put (spelled e) ∷ [], sym put) faithful) these cut.front spells cut.spells in
    let here : passed_by r (Passed r place how) ≡ place ∷ [] = ap (λ b. cond b (place ∷ []) []) (same_number r) in
    ap (λ es. passed r (events_of es)) cut.all ∙ ap (passed r) (events_more cut.front e) ∙ passed_append r (events_of cut.front) (e.event ∷ [])
    ∙ ap (λ l. passed r (events_of cut.front) ++ (l ++ [])) here ∙ ap (λ l. l ++ place ∷ []) (was ∙ append-nil (passed r (events_of these)))
  where
    same_number : (n : ℕ) → nat_eq n n ≡ true
    same_number n = search rules

-- ---- by a ledger's state

module _ (Routes : (names : List Name) (plan to bytes : List ℕ) → Type 0) (before : List (List ℕ)) (history : List happened.Event) (s : State)
    (state : IsInState Routes (AreFaithful before history) (log_in before history).records s) where
  pub backlog_of : (n : ℕ) → InJournal (IsLeftFrom n (left_from n s.next s.receivers)) before history
  backlog_of n faithful entries spells =
      subst (λ (t : State). IsLeftFrom n (left_from n t.next t.receivers) (events_of entries)) (sym (state.is entries spells))
      (begins_at Routes (events_of entries) (state.lawful faithful entries spells) n)

  pub scan_left : (n from : ℕ) → from_of n s.receivers ≡ Some from → InJournal (IsLeftFrom n from) before history
  scan_left n from is faithful entries spells =
      left_of Routes (events_of entries) (state.lawful faithful entries spells) n from
      (subst (λ (t : State). from_of n t.receivers ≡ Some from) (state.is entries spells) is)

  within_in : (b : BacklogState) → IsBacklog before b → IsPrefix b.history history → InJournal (λ log. b.from ≤ length log) before history
  within_in b is p = later_in (λ log. b.from ≤ length log) before b.history history (λ log more le. let size = length-append log more in omega (arith, size, le))
      (λ faithful entries spells. (is faithful entries spells).within) p

  pub rest_left : (b : BacklogState) → IsBacklog before b → IsPrefix b.history history → is_at_rest b.receiver b.from s.receivers ≡ true
      → InJournal (IsLeftFrom b.receiver b.from) before history
  rest_left b is p rests faithful entries spells =
      rests_at Routes (events_of entries) (state.lawful faithful entries spells) b.receiver b.from (within_in b is p faithful entries spells)
      (subst (λ (t : State). is_at_rest b.receiver b.from t.receivers ≡ true) (state.is entries spells) rests)

  pub first_of : (b : BacklogState) (found : FoundState) (from : ℕ) → IsBacklog before b → IsPrefix b.history history → IsFound before found
      → IsPrefix found.history history → found.receiver ≡ b.receiver → found.from ≡ b.from → from_of b.receiver s.receivers ≡ Some from
      → b.from ≤ from → from ≤ found.place → found.place < (log_in before history).synced
      → InJournal (HasPassedWithin b.receiver (log_in before history).synced) before b.history → IsFirstFrom before b found.place from history
  first_of b found from was p is q receiver same begins order behind less within =
      let next : InJournal (IsNext b.receiver b.from found.place) before history =
      later_in (IsNext b.receiver b.from found.place) before found.history history (next_stays b.receiver b.from found.place)
      (subst (λ k. InJournal (IsNext b.receiver k found.place) before found.history) same
      (subst (λ r. InJournal (IsNext r found.from found.place) before found.history) receiver is)) q in
      let at = scan_left b.receiver from begins in
      let whole : InJournal (IsLeftFrom b.receiver b.from) before history = λ faithful entries spells.
      earlier b.receiver b.from from found.place (events_of entries) (at faithful entries spells) order behind (next faithful entries spells) in
      let first : InJournal (IsFirstLeft b.receiver found.place) before history = λ faithful entries spells.
      ap (λ l. slice_get l 0) (whole faithful entries spells).behind ∙ next faithful entries spells in
      let none = not_passed before b history was whole p in
      record {
        later = p;
        left = whole;
        next = λ faithful entries spells.
            let log = events_of entries in
            ap (λ l. slice_get l 0) (sym (same_first b.receiver b.from from found.place log order (at faithful entries spells).within behind (next faithful entries spells)))
            ∙ next faithful entries spells;
        first = first;
        kept = first_stored before b.receiver found.place history first
            (within_now before b.receiver (log_in before history).synced b.history history p none within) less;
      }

-- ---- from one moment to another

pub prefix_trans : {A : Type 0} (xs ys zs : List A) → IsPrefix xs ys → IsPrefix ys zs → IsPrefix xs zs
prefix_trans xs ys zs p q = (p.0 ++ q.0, sym (append_assoc xs p.0 q.0) ∙ ap (λ l. l ++ q.0) p.1 ∙ q.1)

pub between_trans : (P Q R : List Event → List Event → Type 0) (before : List (List ℕ)) (old mid new : List happened.Event)
    → ((a b c : List Event) → P a b → Q b c → R a c) → IsPrefix mid new → Between P before old mid → Between Q before mid new → Between R before old new
between_trans P Q R before old mid new make p first second faithful these those spells later_spells =
    let later = log_later before mid new p in
    let cut = front_spelled (log_in before mid).records later.more those (subst (λ rs. Spells rs those) later.records later_spells) in
    make (events_of these) (events_of cut.front) (events_of those) (first (faithful_part before mid new p faithful) these cut.front spells cut.spells)
    (second faithful cut.front those cut.spells later_spells)

pub goes_same : (before : List (List ℕ)) (b : BacklogState) → GoesOn before b b []
goes_same before b = record {
  receiver = refl;
  later = ([], append-nil b.history);
  passed = λ faithful these those spells later_spells.
      ap (λ es. passed b.receiver (events_of es)) (one_reading (log_in before b.history).records those these later_spells spells)
      ∙ sym (append-nil (passed b.receiver (events_of these)));
}

pub goes_trans : (before : List (List ℕ)) (a b c : BacklogState) (xs ys : List ℕ) → GoesOn before a b xs → GoesOn before b c ys → GoesOn before a c (xs ++ ys)
goes_trans before a b c xs ys f g = record {
  receiver = g.receiver ∙ f.receiver;
  later = prefix_trans a.history b.history c.history f.later g.later;
  passed = between_trans (HasPassed a.receiver xs) (HasPassed a.receiver ys) (HasPassed a.receiver (xs ++ ys)) before a.history b.history c.history
      (λ x y z p q. q ∙ ap (λ l. l ++ ys) p ∙ append_assoc (passed a.receiver x) xs ys) g.later f.passed
      (subst (λ r. Between (HasPassed r ys) before b.history c.history) f.receiver g.passed);
}

-- ---- what a ledger answers

pub rest_goes : (before : List (List ℕ)) (b : BacklogState) (history : List happened.Event) (r : Option BacklogState) → IsBacklog before b
    → InJournal (IsLeftFrom b.receiver b.from) before history → IsPrefix b.history history
    → IfSome r (λ now. now.receiver ≡ b.receiver) → IfSome r (λ now. now.history ≡ history) → IfSome r (λ now. GoesOn before b now [])
rest_goes before b history None is now p receiver seen = tt
rest_goes before b history (Some new) is now p receiver seen = record {
  receiver = receiver;
  later = subst (λ h. IsPrefix b.history h) (sym seen) p;
  passed = subst (λ h. Between (HasPassed b.receiver []) before b.history h) (sym seen) (not_passed before b history is now p);
}

pub begins_by : (before : List (List ℕ)) (b now : BacklogState) (place from : ℕ) (history : List happened.Event) → IsBacklog before b
    → IsFirstFrom before b place from history → now.receiver ≡ b.receiver → now.history ≡ history → BeginsWith before b now place
begins_by before b now place from history is f receiver seen = record {
  on = rest_goes before b history (Some now) is f.left f.later receiver seen;
  first = subst (λ h. InJournal (IsFirstLeft b.receiver place) before h) (sym seen) f.first;
  kept = subst (λ h. OnDisk (IsFirstLeft b.receiver place) before h) (sym seen) f.kept;
}

-- what was passed within the first records, is so by what is seen again
pub begins_within : (before : List (List ℕ)) (b now : BacklogState) (place from count : ℕ) (history : List happened.Event) → IsBacklog before b
    → IsFirstFrom before b place from history → now.receiver ≡ b.receiver → now.from ≡ b.from → now.history ≡ history
    → InJournal (HasPassedWithin b.receiver count) before b.history
    → IsBacklog before now × InJournal (HasPassedWithin now.receiver count) before now.history
begins_within before b now place from count history is f receiver begins seen within = (
  subst (λ h. InJournal (IsLeftFrom now.receiver now.from) before h) (sym seen)
      (subst (λ k. InJournal (IsLeftFrom now.receiver k) before history) (sym begins) (subst (λ r. InJournal (IsLeftFrom r b.from) before history) (sym receiver) f.left)),
  subst (λ h. InJournal (HasPassedWithin now.receiver count) before h) (sym seen)
      (subst (λ r. InJournal (HasPassedWithin r count) before history) (sym receiver)
      (within_now before b.receiver count b.history history f.later (not_passed before b history is f.left f.later) within)),
)

pub passed_goes : {S : Type 0} (before : List (List ℕ)) (b : BacklogState) (place from : ℕ) (old new : LedgerState S) (time : ℕ) (current : FoundState) (how : How)
    (t : TicketState) (left : BacklogState) → IsBacklog before b → IsFirstFrom before b place from old.desk.history
    → IsPut before old new (timed time (was_passed current how)) t → current.receiver ≡ b.receiver → current.place ≡ place
    → left.receiver ≡ b.receiver → left.history ≡ new.desk.history → GoesOn before b left (place ∷ [])
passed_goes {S} before b place from old new time current how t left is f put receiver at of seen =
    let e : Entry = timed time (Passed b.receiver place how) in
    let same : timed time (was_passed current how) ≡ e = ap (λ r. timed time (Passed r current.place how)) receiver ∙ ap (λ k. timed time (Passed b.receiver k how)) at in
    let history : new.desk.history ≡ old.desk.history ++ Put (spelled e) ∷ [] =
    ap (λ (l : LedgerState S). l.desk.history) put.is ∙ ap (λ x. old.desk.history ++ Put (spelled x) ∷ []) same in
    record {
      receiver = of;
      later = subst (λ h. IsPrefix b.history h) (sym seen) (prefix_trans b.history old.desk.history new.desk.history f.later (Put (spelled e) ∷ [], sym history));
      passed = subst (λ h. Between (HasPassed b.receiver (place ∷ [])) before b.history h) (sym seen)
          (one_passed before b.receiver place how time b.history old.desk.history new.desk.history f.later (not_passed before b old.desk.history is f.left f.later)
          history (subst Fits same put.fits));
    }

pub passed_first : {S : Type 0} (before : List (List ℕ)) (b : BacklogState) (place from : ℕ) (old new : LedgerState S) (e : Entry) (t : TicketState)
    (left : BacklogState) → IsFirstFrom before b place from old.desk.history → IsPut before old new e t → left.history ≡ new.desk.history
    → WasFirst before b.receiver place left.history
passed_first {S} before b place from old new e t left f put seen =
    let history : new.desk.history ≡ old.desk.history ++ Put (spelled e) ∷ [] = ap (λ (l : LedgerState S). l.desk.history) put.is in
    record {
      at = old.desk.history;
      until = subst (λ h. IsPrefix old.desk.history h) (sym (seen ∙ history)) (Put (spelled e) ∷ [], refl);
      first = f.kept;
    }

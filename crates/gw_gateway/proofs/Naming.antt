-- The numbers that a journal gives to the names of receivers.
use Rattle.std.proofs.Common.{◌≡◌, ℕ, zero, suc, ◌+◌, ◌<◌, List, [], ◌∷◌, ◌++◌, length, map, take, Some, slice_get, get_or, refl, ap, sym, ◌∙◌, subst, arith, append_assoc}
use Rattle.std.specs.List.{Contains}
use Rattle.std.proofs.lemmas.List.{map-append, take_more}
use Rattle.std.proofs.lemmas.List.Elements.{Contains-append_left, Contains-append_right, Contains-push}
use mathlib.Core.List.{IsPrefix}
use Rattle.gw_due.specs.Due.{Name, names, names_by}
use Rattle.gw_due.specs.Events.{Event, Planned, Named}
use Rattle.gw_due.specs.Spelling.{Entry, Fits, spelled}
use Rattle.gw_due.proofs.EventForms.{one_record}
use Rattle.gw_journal.specs.declared.event.Event as happened
use Rattle.gw_journal.specs.declared.event.Event.TheVariants.{Put}
use Rattle.gw_journal.specs.Logs.{IsAt, TicketState, log_in}
use Rattle.gw_ledger.specs.Ledgers.{LedgerState, Spells, events_of}
use Rattle.gw_ledger.specs.Finding.{InJournal}
use Rattle.gw_ledger.specs.Putting.{IsPut, timed}
use Rattle.gw_ledger.specs.Accepting.{LookState}
use Rattle.gw_plan.specs.Held.{PlanHeld}
use Rattle.gw_plan.specs.Shapes.{ReceiverValue}
use Rattle.gw_gateway.specs.Plans.{AreNamed, AreNumbers, IsNamed, IsPlan, PlanState}
use Rattle.gw_gateway.specs.Routing.{IsNumber}
use Rattle.gw_gateway.proofs.Joining.{journal_later}

-- ---- names

pub names_both : (log more : List Event) → names (log ++ more) ≡ names log ++ names more
names_both [] more = refl
names_both (e ∷ log) more = ap (λ l. names_by e ++ l) (names_both log more) ∙ sym (append_assoc (names_by e) (names log) (names more))

pub number_later : (log more : List Event) (receiver : ReceiverValue) (number : ℕ) → IsNumber (names log) receiver number → IsNumber (names (log ++ more)) receiver number
number_later log more receiver number here =
    subst (λ ns. IsNumber ns receiver number) (sym (names_both log more))
    (Contains-append_left (names log) (names more) (record { number = number; name = receiver.name }) here)

pub numbers_later : (log more : List Event) (receivers : List ReceiverValue) (numbers : List ℕ) → AreNumbers (names log) receivers numbers
    → AreNumbers (names (log ++ more)) receivers numbers
numbers_later log more [] [] all = tt
numbers_later log more [] (n ∷ numbers) all = absurd all
numbers_later log more (r ∷ receivers) [] all = absurd all
numbers_later log more (r ∷ receivers) (n ∷ numbers) all = (number_later log more r n all.0, numbers_later log more receivers numbers all.1)

pub number_more : (names : List Name) (receivers : List ReceiverValue) (numbers : List ℕ) (r : ReceiverValue) (n : ℕ) → AreNumbers names receivers numbers → IsNumber names r n
    → AreNumbers names (receivers ++ r ∷ []) (numbers ++ n ∷ [])
number_more names [] [] r n all here = (here, tt)
number_more names [] (m ∷ numbers) r n all here = absurd all
number_more names (x ∷ receivers) [] r n all here = absurd all
number_more names (x ∷ receivers) (m ∷ numbers) r n all here = (all.0, number_more names receivers numbers r n all.1 here)

-- who is named by an event of a log
pub named_at : (log : List Event) (place receiver : ℕ) (name address : List ℕ) → slice_get log place ≡ Some (Named receiver name address)
    → Contains (names log) (record { number = receiver; name = name })
named_at [] place receiver name address there = absurd (cc)
named_at (e ∷ log) zero receiver name address there =
    let n : Name = record { number = receiver; name = name } in
    let is : e ≡ Named receiver name address = cc (there) in
    let first : Contains (names_by e) n = subst (λ x. Contains (names_by x) n) (sym is) (Contains-push [] n) in
    Contains-append_left (names_by e) (names log) n first
named_at (e ∷ log) (suc place) receiver name address there =
    Contains-append_right (names_by e) (names log) (record { number = receiver; name = name }) (named_at log place receiver name address there)

-- ---- records of a journal

-- a record that spells an entry is that event
pub event_at : (records : List (List ℕ)) (entries : List Entry) (place : ℕ) (e : Entry) → Spells records entries → Fits e → slice_get records place ≡ Some (spelled e)
    → slice_get (events_of entries) place ≡ Some e.event
event_at [] entries place e s fits there = absurd (cc)
event_at (r ∷ records) [] place e s fits there = absurd (cc (s.are))
event_at (r ∷ records) (x ∷ entries) zero e s fits there =
    let same : x ≡ e = one_record x e s.fit.0 fits (cc (s.are, there)) in ap (λ (x : Entry). Some x.event) same
event_at (r ∷ records) (x ∷ entries) (suc place) e s fits there =
    event_at records entries place e (record { are = cc (s.are); fit = s.fit.1 }) fits there

-- what was put stands in the journal
pub put_there : {S : Type 0} (before : List (List ℕ)) (old new : LedgerState S) (e : Entry) (t : TicketState) → IsPut before old new e t
    → InJournal (λ log. slice_get log t.place ≡ Some e.event) before new.desk.history
put_there before old new e t put faithful entries spells =
    event_at (log_in before new.desk.history).records entries t.place e spells put.fits (subst (λ h. IsAt t.place (spelled e) (log_in before h)) put.seen put.there)

pub put_on : {S : Type 0} (before : List (List ℕ)) (old new : LedgerState S) (e : Entry) (t : TicketState) → IsPut before old new e t → IsPrefix old.desk.history new.desk.history
put_on before old new e t put = (Put (spelled e) ∷ [], sym (ap (λ (l : LedgerState _). l.desk.history) put.is))

pub put_named : {S : Type 0} (before : List (List ℕ)) (old new : LedgerState S) (time number : ℕ) (name address : List ℕ) (receiver : ReceiverValue) (t : TicketState)
    → name ≡ receiver.name → IsPut before old new (timed time (Named number name address)) t → IsNamed before receiver number new.desk.history
put_named before old new time number name address receiver t same put faithful entries spells =
    subst (λ n. Contains (names (events_of entries)) (record { number = number; name = n })) same
    (named_at (events_of entries) t.place number name address (put_there before old new (timed time (Named number name address)) t put faithful entries spells))

-- the plan that was put is the one that is looked up then
pub put_place : {S : Type 0} (before : List (List ℕ)) (old new : LedgerState S) (time place : ℕ) (text : List ℕ) (t : TicketState)
    → IsPut before old new (timed time (Planned text)) t → new.state.plan ≡ Some place → t.place ≡ place
put_place before old new time place text t put at =
    let now : new.state.plan ≡ Some old.state.next = ap (λ (l : LedgerState _). l.state.plan) put.is in
    let same : place ≡ old.state.next = cc (now, at) in put.place ∙ sym same

pub all_named_later : (before : List (List ℕ)) (receivers : List ReceiverValue) (numbers : List ℕ) (old new : List happened.Event) → IsPrefix old new
    → AreNamed before receivers numbers old → AreNamed before receivers numbers new
all_named_later before receivers numbers old new p =
    journal_later (λ log. AreNumbers (names log) receivers numbers) before old new p (λ log more. numbers_later log more receivers numbers)

pub one_named_more : (before : List (List ℕ)) (receivers : List ReceiverValue) (numbers : List ℕ) (r : ReceiverValue) (n : ℕ) (old new : List happened.Event) → IsPrefix old new
    → AreNamed before receivers numbers old → IsNamed before r n new → AreNamed before (receivers ++ r ∷ []) (numbers ++ n ∷ []) new
one_named_more before receivers numbers r n old new p all one faithful entries spells =
    number_more (names (events_of entries)) receivers numbers r n (all_named_later before receivers numbers old new p all faithful entries spells) (one faithful entries spells)

-- a plan that was put stands there, with the numbers of its receivers
pub put_stands : {S : Type 0} (before : List (List ℕ)) (old new : LedgerState S) (time : ℕ) (plan : PlanHeld) (numbers : List ℕ) (t : TicketState)
    → IsPut before old new (timed time (Planned plan.text)) t → AreNamed before plan.receivers numbers old.desk.history → length numbers ≡ length plan.receivers
    → IsPlan before (record { place = t.place; history = new.desk.history; plan = plan; numbers = numbers })
put_stands before old new time plan numbers t put named each = record {
  stands = λ faithful entries spells. record {
    there = put_there before old new (timed time (Planned plan.text)) t put faithful entries spells;
    named = all_named_later before plan.receivers numbers old.desk.history new.desk.history
        (put_on before old new (timed time (Planned plan.text)) t put) named faithful entries spells;
  };
  each = each;
}

-- one more of the receivers has its number
pub receivers_more : {X : Type 0} (value : X → ReceiverValue) (before : List (List ℕ)) (xs : List X) (i : ℕ) (x : X) (numbers : List ℕ) (n : ℕ) (old new : List happened.Event)
    → i < length xs → x ≡ get_or xs i x → IsPrefix old new → AreNamed before (map value (take i xs)) numbers old → IsNamed before (value x) n new
    → AreNamed before (map value (take (i + 1) xs)) (numbers ++ n ∷ []) new
receivers_more value before xs i x numbers n old new less is p all one =
    let cut : take (i + 1) xs ≡ take i xs ++ x ∷ [] = take_more xs i x less ∙ ap (λ y. take i xs ++ y ∷ []) (sym is) in
    let whole : map value (take (i + 1) xs) ≡ map value (take i xs) ++ value x ∷ [] = ap (map value) cut ∙ map-append value (take i xs) (x ∷ []) in
    subst (λ rs. AreNamed before rs (numbers ++ n ∷ []) new) (sym whole)
    (one_named_more before (map value (take i xs)) numbers (value x) n old new p all one)

pub one_longer : (xs : List ℕ) (x k : ℕ) → length xs ≡ k → length (xs ++ x ∷ []) ≡ k + 1
one_longer [] x k is = omega (arith, is)
one_longer (y ∷ xs) x zero is = absurd (omega (arith, is))
one_longer (y ∷ xs) x (suc k) is = let e = one_longer xs x k (omega (arith, is)) in omega (arith, e)

-- the plan that was put and looked up then
pub looked_stands : {S : Type 0} (before : List (List ℕ)) (old new : LedgerState S) (time : ℕ) (text : List ℕ) (plan : PlanHeld) (numbers : List ℕ) (t : TicketState) (look : LookState)
    → text ≡ plan.text → IsPut before old new (timed time (Planned text)) t → AreNamed before plan.receivers numbers old.desk.history → length numbers ≡ length plan.receivers
    → new.state.plan ≡ Some look.place → look.history ≡ new.desk.history
    → IsPlan before (record { place = look.place; history = look.history; plan = plan; numbers = numbers })
looked_stands before old new time text plan numbers t look same put named each at seen =
    let mine : IsPut before old new (timed time (Planned plan.text)) t = subst (λ x. IsPut before old new (timed time (Planned x)) t) same put in
    let there = put_stands before old new time plan numbers t mine named each in
    let moved : IsPlan before (record { place = look.place; history = new.desk.history; plan = plan; numbers = numbers }) =
    subst (λ n. IsPlan before (record { place = n; history = new.desk.history; plan = plan; numbers = numbers })) (put_place before old new time look.place plan.text t mine at) there in
    subst (λ h. IsPlan before (record { place = look.place; history = h; plan = plan; numbers = numbers })) (sym seen) moved

-- the numbers of a plan stay those of its receivers
pub repeated : (before : List (List ℕ)) (p : PlanState) (plan : PlanHeld) (numbers : List ℕ) (history : List happened.Event) → IsPlan before p → plan ≡ p.plan → numbers ≡ p.numbers
    → IsPrefix p.history history → AreNamed before plan.receivers numbers history
repeated before p plan numbers history is same each on =
    subst (λ (q : PlanHeld). AreNamed before q.receivers numbers history) (sym same)
    (subst (λ ns. AreNamed before p.plan.receivers ns history) (sym each)
    (all_named_later before p.plan.receivers p.numbers p.history history on (λ faithful entries spells. (is.stands faithful entries spells).named)))

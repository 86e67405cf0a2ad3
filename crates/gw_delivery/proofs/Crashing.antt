-- All calls over all runs of a gateway, through crashes.
use Rattle.std.proofs.Common.{◌≡◌, ◌⊎◌, inl, inr, ℕ, zero, suc, ◌+◌, ◌≤◌, List, [], ◌∷◌, ◌++◌, map, length, take, Some, slice_get, refl, ap, sym, ◌∙◌, subst, arith, append_assoc, length-append}
use Rattle.std.specs.List.{AllByRecursion}
use Rattle.std.proofs.lemmas.List.{append-nil, length-map, map-append}
use mathlib.Core.List.{IsPrefix}
use Rattle.gw_due.specs.Events.{Event}
use Rattle.gw_due.specs.Due.{Name, due, due_since, left, passed}
use Rattle.gw_due.specs.Lawful.{Lawful}
use Rattle.gw_due.specs.Runs.{Covers, IsRun, Runs, no_run, nothing, one_run}
use Rattle.gw_due.specs.Spelling.{Entry, spelled}
use Rattle.gw_due.proofs.Covering.{covering}
use Rattle.gw_due.proofs.Growing.{due_grows, ordered}
use Rattle.gw_journal.specs.declared.event.Event as happened
use Rattle.gw_journal.specs.Logs.{AreFaithful, log_in}
use Rattle.gw_journal.proofs.Fronts.{prefix_length, prefix_shorter, prefix_whole}
use Rattle.gw_journal.proofs.Logging.{log_later}
use Rattle.gw_ledger.specs.Backlogs.{IsFirstLeft, WasFirst}
use Rattle.gw_ledger.specs.Ledgers.{IsLawful, Spells, events_of}
use Rattle.gw_ledger.proofs.Keeping.{due_once, get_drop, passed_begins, take_longer}
use Rattle.gw_ledger.proofs.Ledging.{faithful_part, front_spelled, left_lawful, one_reading}
use Rattle.gw_ledger.proofs.Passing.{get_front}
use Rattle.gw_ledger.proofs.Remaining.{prefix_trans}
use Rattle.gw_delivery.specs.Calls.{Call, Calls, no_call, one_call, places_of}
use Rattle.gw_delivery.specs.Periods.{IsPeriod, Periods, no_start, one_start}
use Rattle.gw_delivery.proofs.Calling.{as_run, later}

-- ---- lists

-- what stands at a place of a beginning stands there in the whole
get_whole : (part whole : List ℕ) (k x : ℕ) → IsPrefix part whole → slice_get part k ≡ Some x → slice_get whole k ≡ Some x
get_whole part whole k x p is = ap (λ l. slice_get l k) (sym p.1) ∙ get_front part p.0 k x is

get_behind : (xs ys : List ℕ) (k : ℕ) → slice_get (xs ++ ys) (length xs + k) ≡ slice_get ys k
get_behind [] ys k = let same : 0 + k ≡ k = omega arith in ap (slice_get ys) same
get_behind (x ∷ xs) ys k = let same : length (x ∷ xs) + k ≡ suc (length xs + k) = omega arith in ap (slice_get (x ∷ xs ++ ys)) same ∙ get_behind xs ys k

-- the next item behind a beginning
next_begins : (xs all : List ℕ) (x : ℕ) → IsPrefix xs all → slice_get all (length xs) ≡ Some x → IsPrefix (xs ++ x ∷ []) all
next_begins [] [] x p is = absurd (cc is)
next_begins [] (a ∷ all) x p is = let same : x ≡ a = cc (is) in (all, ap (λ y. y ∷ all) same)
next_begins (y ∷ xs) [] x p is = absurd (cc (p.1))
next_begins (y ∷ xs) (a ∷ all) x p is =
    let same : y ≡ a = cc (p.1) in
    let rest = next_begins xs all x (p.0, cc (p.1)) is in
    (rest.0, cc (same, rest.1))

cancel : (xs ys zs : List ℕ) → xs ++ ys ≡ xs ++ zs → ys ≡ zs
cancel [] ys zs is = is
cancel (x ∷ xs) ys zs is = cancel xs ys zs (cc is)

all_behind : (P : ℕ → Type 0) (xs ys : List ℕ) → AllByRecursion P (xs ++ ys) → AllByRecursion P ys
all_behind P [] ys all = all
all_behind P (x ∷ xs) ys all = all_behind P xs ys all.1

all_by : (P Q : ℕ → Type 0) (xs : List ℕ) → ((x : ℕ) → P x → Q x) → AllByRecursion P xs → AllByRecursion Q xs
all_by P Q [] make all = tt
all_by P Q (x ∷ xs) make all = (make x all.0, all_by P Q xs make all.1)

either : (n m : ℕ) → (n ≤ m) ⊎ (m ≤ n)
either zero m = inl (omega arith)
either (suc n) zero = inr (omega arith)
either (suc n) (suc m) = by (either n m) where
  by : (n ≤ m) ⊎ (m ≤ n) → (suc n ≤ suc m) ⊎ (suc m ≤ suc n)
  by (inl le) = inl (omega (arith, le))
  by (inr le) = inr (omega (arith, le))

-- ---- a log, of which a part is left

due_begins : (r : ℕ) (part whole : List Event) → IsPrefix part whole → IsPrefix (due r part) (due r whole)
due_begins r part whole p = let grows = due_grows r part p.0 in (grows.0, grows.1 ∙ ap (due r) p.1)

module _ (r : ℕ) (all now : List Event) (part : IsPrefix now all) (order : IsPrefix (passed r all) (due r all)) where
  -- What is due at this place is due by what is left, and before it no more is than was passed by that
  record IsReached (place : ℕ) : Type 0 where
    k : ℕ
    few : k ≤ length (passed r now)
    here : slice_get (due r now) k ≡ Some place

  -- the first that is left by a part of that
  reached : (disk : List Event) (place : ℕ) → IsPrefix disk now → IsFirstLeft r place disk → IsReached place
  reached disk place p first = record {
    k = length (passed r disk);
    few = prefix_length (passed r disk) (passed r now) (passed_begins r disk now p);
    here = get_whole (due r disk) (due r now) (length (passed r disk)) place (due_begins r disk now p) (sym (get_drop (length (passed r disk)) (due r disk)) ∙ first);
  }

  -- at the place of a list of what is due
  at : (front rest : List ℕ) (i place : ℕ) → IsPrefix (front ++ rest) (due r all) → slice_get rest i ≡ Some place → slice_get (due r all) (length front + i) ≡ Some place
  at front rest i place p is = get_whole (front ++ rest) (due r all) (length front + i) place p (get_behind front rest i ∙ is)

  index : (front rest : List ℕ) (i place : ℕ) → IsPrefix (front ++ rest) (due r all) → slice_get rest i ≡ Some place → (s : IsReached place) → length front + i ≡ s.k
  index front rest i place p is s =
      due_once r 0 all (length front + i) s.k place (at front rest i place p is) (get_whole (due r now) (due r all) s.k place (due_begins r now all part) s.here)

  -- what is behind those that were passed
  data Behind (front : List ℕ) : List ℕ → Type 0 where
    no_place : Behind front []
    one_place : (place : ℕ) → length front ≡ length (passed r now) → IsFirstLeft r place now → Behind front (place ∷ [])

  first_now : (place k : ℕ) → k ≡ length (passed r now) → slice_get (due r now) k ≡ Some place → IsFirstLeft r place now
  first_now place k same is = get_drop (length (passed r now)) (due r now) ∙ ap (slice_get (due r now)) (sym same) ∙ is

  -- of what is due behind as much as was passed by what is left, one at most is reached
  behind : (front rest : List ℕ) → IsPrefix (front ++ rest) (due r all) → length (passed r now) ≤ length front → AllByRecursion IsReached rest → Behind front rest
  behind front [] p le reach = no_place
  behind front (x ∷ []) p le reach =
      let s = reach.0 in
      let k = index front (x ∷ []) 0 x p refl s in
      let same : length front ≡ length (passed r now) = let few = s.few in omega (arith, k, few, le) in
      let there : s.k ≡ length (passed r now) = omega (arith, k, same) in
      one_place x same (first_now x s.k there s.here)
  behind front (x ∷ y ∷ rest) p le reach =
      let s = reach.1.0 in
      let k = index front (x ∷ y ∷ rest) 1 y p refl s in
      let few = s.few in
      absurd (omega (arith, k, few, le))

  -- ---- runs

  -- what was passed before a run and what was sent in it is what is due, in order, and it has all that was passed by its end
  record IsInOrder (old new : List Event) (sent : List ℕ) : Type 0 where
    due_is : IsPrefix (passed r old ++ sent) (due r all)
    has : IsPrefix (passed r new) (passed r old ++ sent)

  in_order : (old new : List Event) (sent : List ℕ) → IsRun r old new sent → IsPrefix new all → IsInOrder old new sent
  in_order old new sent run p = by run.sends where
    done : IsPrefix (passed r new) (due r all)
    done = prefix_trans (passed r new) (passed r all) (due r all) (passed_begins r new all p) order

    by : (sent ≡ run.taken) ⊎ ((next : ℕ) × IsFirstLeft r next new × (sent ≡ run.taken ++ next ∷ [])) → IsInOrder old new sent
    by (inl is) =
        let same : passed r new ≡ passed r old ++ sent = run.done ∙ ap (λ l. passed r old ++ l) (sym is) in
        record {
          due_is = subst (λ l. IsPrefix l (due r all)) same done;
          has = ([], append-nil (passed r new) ∙ same);
        }
    by (inr (next, first, is)) =
        let same : passed r new ++ next ∷ [] ≡ passed r old ++ sent =
        ap (λ l. l ++ next ∷ []) run.done ∙ append_assoc (passed r old) run.taken (next ∷ []) ∙ ap (λ l. passed r old ++ l) (sym is) in
        let there : slice_get (due r all) (length (passed r new)) ≡ Some next =
        get_whole (due r new) (due r all) (length (passed r new)) next (due_begins r new all p) (sym (get_drop (length (passed r new)) (due r new)) ∙ first) in
        record {
          due_is = subst (λ l. IsPrefix l (due r all)) same (next_begins (passed r new) (due r all) next done there);
          has = (next ∷ [], same);
        }

  -- a run that ends behind what is left, is one up to what is left
  cut_run : (old new : List Event) (sent : List ℕ) → IsPrefix old now → IsPrefix now new → IsPrefix new all → IsRun r old new sent
      → AllByRecursion IsReached sent → IsRun r old now sent
  cut_run old new sent p q whole run reach =
      let o = in_order old new sent run whole in
      let was = passed_begins r old now p in
      let on = passed_begins r now new q in
      let rest : List ℕ = on.0 ++ o.has.0 in
      let split : passed r now ++ rest ≡ passed r old ++ sent =
      sym (append_assoc (passed r now) on.0 o.has.0) ∙ ap (λ l. l ++ o.has.0) on.1 ∙ o.has.1 in
      let sent_is : sent ≡ was.0 ++ rest =
      cancel (passed r old) sent (was.0 ++ rest) (sym split ∙ ap (λ l. l ++ rest) (sym was.1) ∙ append_assoc (passed r old) was.0 rest) in
      by was.0 rest sent_is (sym was.1)
      (behind (passed r now) rest (subst (λ l. IsPrefix l (due r all)) (sym split) o.due_is) (omega arith) (all_behind IsReached was.0 rest (subst (AllByRecursion IsReached) sent_is reach)))
    where
      by : (taken rest : List ℕ) → sent ≡ taken ++ rest → passed r now ≡ passed r old ++ taken → Behind (passed r now) rest → IsRun r old now sent
      by taken _ is done no_place = record { more = p; taken = taken; done = done; sends = inl (is ∙ append-nil taken) }
      by taken _ is done (one_place place same first) = record { more = p; taken = taken; done = done; sends = inr (place, first, is) }

  -- a run behind what is left sent nothing, or the first that is left by that
  late_run : (old new : List Event) (sent : List ℕ) → IsPrefix now old → IsPrefix new all → IsRun r old new sent → AllByRecursion IsReached sent → IsRun r now now sent
  late_run old new sent p whole run reach =
      let o = in_order old new sent run whole in
      by sent (behind (passed r old) sent o.due_is (prefix_length (passed r now) (passed r old) (passed_begins r now old p)) reach)
    where
      by : (those : List ℕ) → Behind (passed r old) those → IsRun r now now those
      by _ no_place = record { more = ([], append-nil now); taken = []; done = sym (append-nil (passed r now)); sends = inl refl }
      by _ (one_place place same first) = record { more = ([], append-nil now); taken = []; done = sym (append-nil (passed r now)); sends = inr (place, first, refl) }

-- ---- calls, of whose journal a part is left

-- a moment's log is a beginning of what is left, or it is longer
data Where (now log : List Event) : Type 0 where
  within : IsPrefix log now → Where now log
  beyond : IsPrefix now log → Where now log

compare : (now log all : List Event) → IsPrefix now all → IsPrefix log all → Where now log
compare now log all p q = by (either (length log) (length now)) where
  by : (length log ≤ length now) ⊎ (length now ≤ length log) → Where now log
  by (inl le) = within (prefix_shorter log now all q p le)
  by (inr le) = beyond (prefix_shorter now log all p q le)

-- where its run begins, by what is left
abbrev start_of : (now log : List Event) → Where now log → List Event
start_of now log (within p) = log
start_of now log (beyond p) = now

-- the entries at a moment of a journal
record IsAtMoment (before : List (List ℕ)) (history : List happened.Event) (whole : List Entry) : Type 0 where
  entries : List Entry
  spells : Spells (log_in before history).records entries
  begins : IsPrefix (events_of entries) (events_of whole)

at_moment : (before : List (List ℕ)) (history new : List happened.Event) (whole : List Entry) → IsPrefix history new → Spells (log_in before new).records whole
    → IsAtMoment before history whole
at_moment before history new whole p spells =
    let l = log_later before history new p in
    let cut = front_spelled (log_in before history).records l.more whole (subst (λ rs. Spells rs whole) l.records spells) in
    record {
      entries = cut.front;
      spells = cut.spells;
      begins = (events_of cut.rest, sym (ap events_of cut.is ∙ map-append (λ (e : Entry). e.event) cut.front cut.rest));
    }

module _ (before : List (List ℕ)) (r : ℕ) (new : List happened.Event) (whole : List Entry) (now : List Event) (faithful : AreFaithful before new)
    (spells : Spells (log_in before new).records whole) (part : IsPrefix now (events_of whole))
    (disk : IsPrefix (take (log_in before new).synced (events_of whole)) now) (order : IsPrefix (passed r (events_of whole)) (due r (events_of whole))) where
  abbrev all : List Event
  all = events_of whole

  -- what was the first by what was on the disk, is reached
  was_reached : (mid : List happened.Event) → IsPrefix mid new → (place : ℕ) → WasFirst before r place mid → IsReached r all now part order place
  was_reached mid q place was =
      let p = prefix_trans was.at mid new was.until q in
      let m = at_moment before was.at new whole p spells in
      let synced = (log_later before was.at new p).synced in
      let n = (log_in before was.at).synced in
      reached r all now part order (take n (events_of m.entries)) place
      (prefix_trans (take n (events_of m.entries)) (take (log_in before new).synced all) now
      (take_longer n (log_in before new).synced (events_of m.entries) all synced m.begins) disk)
      (was.first (faithful_part before was.at new p faithful) m.entries m.spells)

  all_reached : (mid : List happened.Event) (places : List ℕ) → IsPrefix mid new → AllByRecursion (λ place. WasFirst before r place mid) places
      → AllByRecursion (IsReached r all now part order) places
  all_reached mid places q kept = all_by (λ place. WasFirst before r place mid) (IsReached r all now part order) places (was_reached mid q) kept

  runs_left : (old : List happened.Event) (calls : List Call) (c : Calls before r old calls new) (these : List Entry) → Spells (log_in before old).records these
      → IsPrefix (events_of these) all → (w : Where now (events_of these)) → Runs r (start_of now (events_of these) w) (map places_of calls) now
  runs_left old _ (no_call _) these reads p (within q) =
      let same : these ≡ whole = one_reading (log_in before old).records these whole reads spells in
      let size = prefix_length now all part in
      let here : events_of these ≡ now = prefix_whole (events_of these) now q (let e = ap (λ es. length (events_of es)) same in omega (arith, size, e)) in
      subst (λ log. Runs r log [] now) (sym here) (no_run now)
  runs_left old _ (no_call _) these reads p (beyond q) = no_run now
  runs_left old _ (one_call _ mid _ call others step is more) these reads p w =
      let on = later before r mid new others more in
      let m = at_moment before mid new whole on spells in
      let run = as_run before r old mid call step is.done (faithful_part before mid new on faithful) these m.entries reads m.spells in
      by m.entries m.begins run (all_reached mid (places_of call) on is.kept) (λ w. runs_left mid others more m.entries m.spells m.begins w)
      w (compare now (events_of m.entries) all part m.begins)
    where
      by : (those : List Entry) → IsPrefix (events_of those) all → IsRun r (events_of these) (events_of those) (places_of call)
          → AllByRecursion (IsReached r all now part order) (places_of call)
          → ((w : Where now (events_of those)) → Runs r (start_of now (events_of those) w) (map places_of others) now)
          → (w : Where now (events_of these)) → Where now (events_of those) → Runs r (start_of now (events_of these) w) (map places_of (call ∷ others)) now
      by those q run reach rest (within a) (within b) = one_run (events_of these) (events_of those) now (places_of call) (map places_of others) run (rest (within b))
      by those q run reach rest (within a) (beyond b) =
          one_run (events_of these) now now (places_of call) (map places_of others)
          (cut_run r all now part order (events_of these) (events_of those) (places_of call) a b q run reach) (rest (beyond b))
      by those q run reach rest (beyond a) _ =
          one_run now now now (places_of call) (map places_of others) (late_run r all now part order (events_of these) (events_of those) (places_of call) a q run reach)
          (rest (beyond (prefix_trans now (events_of these) (events_of those) a run.more)))

-- ---- from one start to the next

take_size : {A B : Type 0} (n : ℕ) (xs : List A) (ys : List B) → length xs ≡ length ys → length (take n xs) ≡ length (take n ys)
take_size zero [] [] same = refl
take_size zero [] (y ∷ ys) same = refl
take_size zero (x ∷ xs) [] same = refl
take_size zero (x ∷ xs) (y ∷ ys) same = refl
take_size (suc n) [] [] same = refl
take_size (suc n) [] (y ∷ ys) same = absurd (omega (arith, same))
take_size (suc n) (x ∷ xs) [] same = absurd (omega (arith, same))
take_size (suc n) (x ∷ xs) (y ∷ ys) same = ap suc (take_size n xs ys (omega (arith, same)))

take_most : {A : Type 0} (n m : ℕ) (xs : List A) → m ≤ n → m ≤ length xs → m ≤ length (take n xs)
take_most n zero xs le few = omega arith
take_most zero (suc m) xs le few = absurd (omega (arith, le))
take_most (suc n) (suc m) [] le few = absurd (omega (arith, few))
take_most (suc n) (suc m) (x ∷ xs) le few = let more = take_most n m xs (omega (arith, le)) (omega (arith, few)) in omega (arith, more)

spelled_size : (records : List (List ℕ)) (entries : List Entry) → Spells records entries → length (events_of entries) ≡ length records
spelled_size records entries spells = length-map entries (λ (e : Entry). e.event) ∙ sym (length-map entries spelled) ∙ ap length (sym spells.are)

module _ (Routes : (names : List Name) (plan to bytes : List ℕ) → Type 0) (r : ℕ) where
  runs_of_period : (found left : List (List ℕ)) (calls : List Call) → IsPeriod Routes r found calls left → (these those : List Entry) → Spells found these
      → Spells left those → Runs r (events_of these) (map places_of calls) (events_of those)
  runs_of_period found left calls period these those reads spells =
      let new = period.history in
      let log = log_in found new in
      let whole = period.lawful.entries in
      let all = events_of whole in
      let cut = front_spelled left period.crash.put.0 whole (subst (λ rs. Spells rs whole) (sym period.crash.put.1) period.lawful.spells) in
      let same : cut.front ≡ those = one_reading left cut.front those cut.spells spells in
      let part : IsPrefix (events_of those) all =
      (events_of cut.rest, sym (ap events_of cut.is ∙ map-append (λ (e : Entry). e.event) cut.front cut.rest ∙ ap (λ es. events_of es ++ events_of cut.rest) same)) in
      let size = spelled_size log.records whole period.lawful.spells in
      let kept = prefix_length (take log.synced log.records) left period.crash.kept in
      let taken = take_size log.synced all log.records size in
      let left_size = spelled_size left those spells in
      let disk : IsPrefix (take log.synced all) (events_of those) =
      prefix_shorter (take log.synced all) (events_of those) all (take_begins log.synced all) part (omega (arith, kept, taken, left_size)) in
      let l = log_later found [] new (new, refl) in
      let m = at_moment found [] new whole (new, refl) period.lawful.spells in
      let first : m.entries ≡ these = one_reading found m.entries these m.spells reads in
      let begins : IsPrefix (events_of these) all = subst (λ es. IsPrefix (events_of es) all) first m.begins in
      let found_size = spelled_size found these reads in
      let records_size = ap length l.records ∙ length-append found l.more in
      let most = take_most log.synced (length found) log.records l.synced (omega (arith, records_size)) in
      let start : IsPrefix (events_of these) (events_of those) =
      prefix_shorter (events_of these) (events_of those) all begins part (omega (arith, most, kept, left_size, found_size)) in
      runs_left found r new whole (events_of those) period.faithful period.lawful.spells part disk (ordered Routes all period.lawful.lawful r)
      [] calls period.were these reads begins (within start)
    where
      take_begins : {A : Type 0} (n : ℕ) (xs : List A) → IsPrefix (take n xs) xs
      take_begins zero [] = ([], refl)
      take_begins zero (x ∷ xs) = (x ∷ xs, refl)
      take_begins (suc n) [] = ([], refl)
      take_begins (suc n) (x ∷ xs) = let rest = take_begins n xs in (rest.0, ap (λ l. x ∷ l) rest.1)

  runs_more : (a b c : List Event) (sent others : List (List ℕ)) → Runs r a sent b → Runs r b others c → Runs r a (sent ++ others) c
  runs_more a _ c _ others (no_run _) more = more
  runs_more a b c _ others (one_run _ mid _ sent all run runs) more = one_run a mid c sent (all ++ others) run (runs_more mid b c all others runs more)

  left_of : (found left : List (List ℕ)) (calls : List Call) → IsPeriod Routes r found calls left → IsLawful Routes left
  left_of found left calls period =
      left_lawful Routes left (log_in found period.history).records period.lawful.entries period.crash.put period.lawful.spells period.lawful.lawful

  ends_lawful : (found left : List (List ℕ)) (calls : List Call) → Periods Routes r found calls left → IsLawful Routes found → IsLawful Routes left
  ends_lawful found _ _ (no_start _) lawful = lawful
  ends_lawful found left _ (one_start _ between _ calls others period more) lawful = ends_lawful between left others more (left_of found between calls period)

  all_runs : (found left : List (List ℕ)) (calls : List Call) → Periods Routes r found calls left → (these those : List Entry) → Spells found these
      → Spells left those → Runs r (events_of these) (map places_of calls) (events_of those)
  all_runs found _ _ (no_start _) these those reads spells =
      subst (λ es. Runs r (events_of these) [] (events_of es)) (one_reading found these those reads spells) (no_run (events_of these))
  all_runs found left _ (one_start _ between _ calls others period more) these those reads spells =
      let mid = left_of found between calls period in
      subst (λ sent. Runs r (events_of these) sent (events_of those)) (sym (map-append places_of calls others))
      (runs_more (events_of these) (events_of mid.entries) (events_of those) (map places_of calls) (map places_of others)
      (runs_of_period found between calls period these mid.entries reads mid.spells) (all_runs between left others more mid.entries those mid.spells spells))

  covers_by : (left : List (List ℕ)) (calls : List Call) (these those : List Entry) → Spells left those → Runs r (events_of these) (map places_of calls) (events_of those)
      → IsLawful Routes left → Covers (due_since r (events_of these) (events_of those)) (map places_of calls)
  covers_by left calls these those spells runs lawful =
      let same : lawful.entries ≡ those = one_reading left lawful.entries those lawful.spells spells in
      covering r (events_of these) (events_of those) (map places_of calls) runs
      (ordered Routes (events_of those) (subst (λ es. Lawful Routes (events_of es)) same lawful.lawful) r)

  pub covered : (found left : List (List ℕ)) (calls : List Call) → Periods Routes r found calls left → (these those : List Entry) → Spells found these
      → Spells left those → Covers (due_since r (events_of these) (events_of those)) (map places_of calls)
  covered found _ _ (no_start _) these those reads spells = nothing (due_since r (events_of these) (events_of those))
  covered found left _ (one_start _ between _ calls others period more) these those reads spells =
      covers_by left (calls ++ others) these those spells (all_runs found left (calls ++ others) (one_start found between left calls others period more) these those reads spells)
      (ends_lawful between left others more (left_of found between calls period))

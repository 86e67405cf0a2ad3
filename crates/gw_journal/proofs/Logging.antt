-- What events do to a journal, and its storage with it.
use Rattle.std.proofs.Common.{◌≡◌, ℕ, zero, suc, ◌+◌, ◌-◌, ◌≤◌, ◌<◌, ◌^◌, max, List, [], ◌∷◌, ◌++◌, length, take, drop, Option, None, Some, slice_get, refl, ap, sym, ◌∙◌, subst, arith, append_assoc, length-append, take-append-drop}
use Rattle.std.specs.Prelude.{IfSome, Vec}
use Rattle.std.specs.declared.alloc.Global.{Global}
use Rattle.std.proofs.lemmas.List.{map-append, length-map}
use mathlib.Core.List.{IsPrefix}
use Rattle.gw_journal.specs.declared.event.Event.{Event}
use Rattle.gw_journal.specs.declared.event.Event.TheVariants.{Put, Synced, Read}
use Rattle.gw_journal.specs.Logs.{Log, opened, next, after, log_in, records_of, IsLater, IsAt, IsStored, Fits, AreFit, Keeps, AllStand, IsTrue, IsJob, IsDone, JobState}

-- ---- lists

append_nil : {A : Type 0} (xs : List A) → xs ++ [] ≡ xs
append_nil [] = refl
append_nil (x ∷ xs) = ap (λ l. x ∷ l) (append_nil xs)

pub take_front : {A : Type 0} (n : ℕ) (xs ys : List A) → n ≤ length xs → take n (xs ++ ys) ≡ take n xs
take_front zero [] ys le = refl
take_front zero (x ∷ xs) ys le = refl
take_front (suc n) [] ys le = absurd (omega arith)
take_front (suc n) (x ∷ xs) ys le = ap (λ l. x ∷ l) (take_front n xs ys (omega arith))

drop_front : {A : Type 0} (n : ℕ) (xs ys : List A) → n ≤ length xs → drop n (xs ++ ys) ≡ drop n xs ++ ys
drop_front zero xs ys le = refl
drop_front (suc n) [] ys le = absurd (omega arith)
drop_front (suc n) (x ∷ xs) ys le = drop_front n xs ys (omega arith)

pub take_all : {A : Type 0} (xs : List A) → take (length xs) xs ≡ xs
take_all [] = refl
take_all (x ∷ xs) = ap (λ l. x ∷ l) (take_all xs)

drop_all : {A : Type 0} (xs : List A) → drop (length xs) xs ≡ []
drop_all [] = refl
drop_all (x ∷ xs) = drop_all xs

length_drop : {A : Type 0} (n : ℕ) (xs : List A) → length (drop n xs) ≡ length xs - n
length_drop zero xs = omega arith
length_drop (suc n) [] = omega arith
length_drop (suc n) (x ∷ xs) = let e = length_drop n xs in omega (arith, e)

pub get_front : {A : Type 0} (xs ys : List A) (k : ℕ) (x : A) → slice_get xs k ≡ Some x → slice_get (xs ++ ys) k ≡ Some x
get_front [] ys k x e = absurd (cc)
get_front (z ∷ xs) ys zero x e = e
get_front (z ∷ xs) ys (suc k) x e = get_front xs ys k x e

get_last : {A : Type 0} (xs : List A) (x : A) → slice_get (xs ++ x ∷ []) (length xs) ≡ Some x
get_last [] x = refl
get_last (z ∷ xs) x = get_last xs x

pub get_take : {A : Type 0} (n : ℕ) (xs : List A) (k : ℕ) (x : A) → k < n → slice_get xs k ≡ Some x → slice_get (take n xs) k ≡ Some x
get_take zero xs k x less e = absurd (omega arith)
get_take (suc n) [] k x less e = absurd (cc)
get_take (suc n) (z ∷ xs) zero x less e = e
get_take (suc n) (z ∷ xs) (suc k) x less e = get_take n xs k x (omega arith) e

fit_more : (batch : List (List ℕ)) (bytes : List ℕ) → AreFit batch → Fits bytes → AreFit (batch ++ bytes ∷ [])
fit_more [] bytes all fits = (fits, tt)
fit_more (b ∷ batch) bytes all fits = (all.0, fit_more batch bytes all.1 fits)

-- ---- one event more

after_more : (log : Log) (xs ys : List Event) → after log (xs ++ ys) ≡ after (after log xs) ys
after_more log [] ys = refl
after_more log (x ∷ xs) ys = after_more (next log x) xs ys

pub log_more : (before : List (List ℕ)) (old new : List Event) (e : Event) → new ≡ old ++ e ∷ [] → log_in before new ≡ next (log_in before old) e
log_more before old new e is = ap (log_in before) is ∙ after_more (opened before) old (e ∷ [])

-- what was read changes nothing
pub log_read : (before : List (List ℕ)) (old new : List Event) (place : ℕ) (bytes : List ℕ) → new ≡ old ++ Read place bytes ∷ [] → log_in before new ≡ log_in before old
log_read before old new place bytes is = log_more before old new (Read place bytes) is

max_least : (a b : ℕ) → a ≤ max a b
max_least a b = omega arith

-- ---- later

later_after : (log : Log) (events : List Event) → IsLater log (after log events)
later_after log [] = record { more = []; records = sym (append_nil log.records); synced = omega arith }
later_after log (Put bytes ∷ events) =
    let l = later_after (next log (Put bytes)) events in
    record { more = bytes ∷ l.more; records = l.records ∙ append_assoc log.records (bytes ∷ []) l.more; synced = l.synced }
later_after log (Synced count ∷ events) =
    let l = later_after (next log (Synced count)) events in
    record { more = l.more; records = l.records; synced = omega (arith, l.synced, max_least log.synced count) }
later_after log (Read place bytes ∷ events) = later_after log events

pub log_later : (before : List (List ℕ)) (old new : List Event) → IsPrefix old new → IsLater (log_in before old) (log_in before new)
log_later before old new p =
    subst (λ l. IsLater (log_in before old) l) (sym (after_more (opened before) old p.0) ∙ ap (log_in before) p.1) (later_after (log_in before old) p.0)

pub at_later : (place : ℕ) (bytes : List ℕ) (old new : Log) → IsLater old new → IsAt place bytes old → IsAt place bytes new
at_later place bytes old new l here = ap (λ rs. slice_get rs place) l.records ∙ get_front old.records l.more place bytes here

pub stored_later : (place : ℕ) (bytes : List ℕ) (old new : Log) → IsLater old new → IsStored place bytes old → IsStored place bytes new
stored_later place bytes old new l s = record { there = at_later place bytes old new l s.there; synced = omega (arith, s.synced, l.synced) }

-- the longer of two beginnings has the record of the one and the count of the other
pub stored_by : (before : List (List ℕ)) (one other : List Event) (place synced : ℕ) (bytes : List ℕ)
    → place < synced → synced ≤ (log_in before other).synced → IsAt place bytes (log_in before one) → IsPrefix one other → IsStored place bytes (log_in before other)
stored_by before one other place synced bytes less le here p =
    record { there = at_later place bytes (log_in before one) (log_in before other) (log_later before one other p) here; synced = omega (arith, less, le) }

pub stored_same : (before : List (List ℕ)) (one other : List Event) (place synced : ℕ) (bytes : List ℕ)
    → place < synced → synced ≤ (log_in before other).synced → IsAt place bytes (log_in before one) → IsPrefix other one → IsStored place bytes (log_in before one)
stored_same before one other place synced bytes less le here p =
    let l = log_later before other one p in
    record { there = here; synced = omega (arith, less, le, l.synced) }

-- ---- the desk

module _ {S : Type 0} (stands : S → List (List ℕ) → Type 0) (before : List (List ℕ)) where
  -- what the storage keeps is the same by a later journal
  keeps_later : (s : S) (given : ℕ) (log new : Log) → IsLater log new → given ≤ length log.records → Keeps stands s given log → Keeps stands s given new
  keeps_later s given log new l within keeps = subst (stands s) (sym (ap (take given) l.records ∙ take_front given log.records l.more within)) keeps

  still_keeps : (storage : Option S) (given : ℕ) (log new : Log) → IsLater log new → given ≤ length log.records
      → IfSome storage (λ s. Keeps stands s given log) → IfSome storage (λ s. Keeps stands s given new)
  still_keeps None given log new l within keeps = tt
  still_keeps (Some s) given log new l within keeps = keeps_later s given log new l within keeps

  pub true_opened : (s : S) (batch : List (List ℕ)) (count : ℕ) (history : List Event) → history ≡ [] → batch ≡ [] → count ≡ length before → count ≤ 2 ^ 62
      → stands s before → IsTrue stands (Some s) batch count count (log_in before history)
  true_opened s batch count history none empty size few stand =
      subst (λ h. IsTrue stands (Some s) batch count count (log_in before h)) (sym none) (record {
        not_given = empty ∙ sym (ap (λ n. drop n before) size ∙ drop_all before);
        within = omega (arith, size);
        order = omega arith;
        synced = omega (arith, size);
        room = omega (arith, size, few);
        fit = subst AreFit (sym empty) tt;
        keeps = subst (stands s) (sym (ap (λ n. take n before) size ∙ take_all before)) stand;
      })

  pub true_put : (storage : Option S) (batch more : List (List ℕ)) (given settled : ℕ) (old new : List Event) (bytes : List ℕ)
      → new ≡ old ++ Put bytes ∷ [] → more ≡ batch ++ bytes ∷ [] → given + length batch < 2 ^ 62 → Fits bytes
      → IsTrue stands storage batch given settled (log_in before old) → IsTrue stands storage more given settled (log_in before new)
  true_put storage batch more given settled old new bytes is longer room fits t =
      let log = log_in before old in
      let l : IsLater log (next log (Put bytes)) = record { more = bytes ∷ []; records = refl; synced = omega arith } in
      let size = length-append log.records (bytes ∷ []) in
      subst (λ l. IsTrue stands storage more given settled l) (sym (log_more before old new (Put bytes) is)) (record {
        not_given = longer ∙ ap (λ b. b ++ bytes ∷ []) t.not_given ∙ sym (drop_front given log.records (bytes ∷ []) t.within);
        within = omega (arith, t.within, size);
        order = t.order;
        synced = t.synced;
        room = omega (arith, size, room, ap length t.not_given, length_drop given log.records, t.within);
        fit = subst AreFit (sym longer) (fit_more batch bytes t.fit fits);
        keeps = still_keeps storage given log (next log (Put bytes)) l t.within t.keeps;
      })

  -- the place of the record that was put
  pub put_at : (storage : Option S) (batch : List (List ℕ)) (given settled place : ℕ) (old new : List Event) (bytes : List ℕ)
      → new ≡ old ++ Put bytes ∷ [] → IsTrue stands storage batch given settled (log_in before old) → place ≡ given + length batch
      → IsAt place bytes (log_in before new)
  put_at storage batch given settled place old new bytes is t here =
      let log = log_in before old in
      let whole : place ≡ length log.records = omega (arith, here, ap length t.not_given, length_drop given log.records, t.within) in
      ap (λ (l : Log). slice_get l.records place) (log_more before old new (Put bytes) is)
      ∙ ap (λ n. slice_get (log.records ++ bytes ∷ []) n) whole ∙ get_last log.records bytes

  -- what the storage has and what it is given are all records
  pub given_all : (tells : List (List ℕ) → List ℕ → Type 0) (spares : List (List ℕ) → ℕ → Type 0) (job : JobState S) (log : Log) → IsJob stands tells spares job log
      → take job.given log.records ++ job.batch ≡ log.records
  given_all tells spares job log j = ap (λ rs. take job.given log.records ++ rs) j.all ∙ take-append-drop job.given log.records

  pub given_count : (tells : List (List ℕ) → List ℕ → Type 0) (spares : List (List ℕ) → ℕ → Type 0) (job : JobState S) (log : Log) (now : ℕ) → IsJob stands tells spares job log
      → now ≡ job.given + length job.batch → now ≡ length log.records
  given_count tells spares job log now j is = omega (arith, is, ap length j.all, length_drop job.given log.records, j.within)

  -- the storage with a batch that it was given
  pub done_all : (tells : List (List ℕ) → List ℕ → Type 0) (spares : List (List ℕ) → ℕ → Type 0) (job : JobState S) (s : S) (now : ℕ) (log : Log) → IsJob stands tells spares job log
      → now ≡ job.given + length job.batch → stands s (take job.given log.records ++ job.batch)
      → IsDone stands (record { storage = s; given = now; history = job.history }) log
  done_all tells spares job s now log j is stand =
      let whole = given_count tells spares job log now j is in
      record {
        all = whole;
        keeps = subst (stands s) (given_all tells spares job log j ∙ sym (ap (λ n. take n log.records) whole ∙ take_all log.records)) stand;
      }

  -- it comes back
  pub true_back : (storage : Option S) (s : S) (batch : List (List ℕ)) (given settled : ℕ) (part old new : List Event)
      → IsPrefix part old → new ≡ old ++ Synced given ∷ []
      → IsDone stands (record { storage = s; given = given; history = part }) (log_in before part)
      → IsTrue stands storage batch given settled (log_in before old)
      → IsTrue stands (Some s) batch given given (log_in before new)
  true_back storage s batch given settled part old new p is done t =
      let log = log_in before old in
      let l = log_later before part old p in
      subst (λ x. IsTrue stands (Some s) batch given given x) (sym (log_more before old new (Synced given) is)) (record {
        not_given = t.not_given;
        within = t.within;
        order = omega arith;
        synced = omega (arith, t.synced, t.order);
        room = t.room;
        fit = t.fit;
        keeps = keeps_later s given (log_in before part) log l (omega (arith, done.all)) done.keeps;
      })

  -- what a thread takes
  pub job_taken : (tells : List (List ℕ) → List ℕ → Type 0) (spares : List (List ℕ) → ℕ → Type 0) (s : S) (batch : List (List ℕ)) (given settled : ℕ) (history : List Event)
      → IsTrue stands (Some s) batch given settled (log_in before history)
      → IsJob stands tells spares (record { storage = s; batch = batch; given = given; history = history; next = None; keep = 0 }) (log_in before history)
  job_taken tells spares s batch given settled history t = record {
    all = t.not_given;
    within = t.within;
    synced = omega (arith, t.synced, t.order);
    room = t.room;
    fit = t.fit;
    keeps = t.keeps;
    told = tt;
    spared = tt;
  }

  -- the records of a receipt stand in the storage, where that is here
  pub stand_there : (storage : Option S) (batch : List (List ℕ)) (given settled : ℕ) (history seen_of : List Event)
      → IsTrue stands storage batch given settled (log_in before history) → IsPrefix seen_of history
      → IfSome storage (λ s. AllStand stands (log_in before seen_of) s)
  stand_there None batch given settled history seen_of t p = tt
  stand_there (Some s) batch given settled history seen_of t p = λ place bytes stored.
      let now = stored_later place bytes (log_in before seen_of) (log_in before history) (log_later before seen_of history p) stored in
      record {
        these = take given (log_in before history).records;
        stand = t.keeps;
        there = get_take given (log_in before history).records place bytes (omega (arith, now.synced, t.synced, t.order)) now.there;
      }

-- what counts as synced goes on
pub synced_more : (before : List (List ℕ)) (old new : List Event) (synced : ℕ) → IsPrefix old new → synced ≤ (log_in before old).synced
    → synced ≤ (log_in before new).synced
synced_more before old new synced p le = omega (arith, le, (log_later before old new p).synced)

pub synced_now : (before : List (List ℕ)) (old new : List Event) (count : ℕ) → new ≡ old ++ Synced count ∷ [] → count ≤ (log_in before new).synced
synced_now before old new count is =
    subst (λ (l : Log). count ≤ l.synced) (sym (log_more before old new (Synced count) is)) (omega arith)

-- one record more in memory
pub records_more : (items reserved new : List (Vec ℕ Global)) (v : Vec ℕ Global) → reserved ≡ items → new ≡ reserved ++ v ∷ [] → records_of new ≡ records_of items ++ v.items ∷ []
records_more items reserved new v same is =
    ap records_of is ∙ ap (λ l. records_of (l ++ v ∷ [])) same ∙ map-append (λ (w : Vec ℕ Global). w.items) items (v ∷ [])

pub records_size : (items : List (Vec ℕ Global)) → length (records_of items) ≡ length items
records_size items = length-map items (λ (v : Vec ℕ Global). v.items)

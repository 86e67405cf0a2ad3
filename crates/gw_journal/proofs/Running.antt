-- Journals through crashes.
use Rattle.std.proofs.Common.{Some, ◌≡◌, refl, ◌⊎◌, inl, inr, ⊎_elim, ℕ, zero, suc, ◌-◌, ◌≤◌, ◌<◌, List, [], ◌∷◌, ◌++◌, length, take, drop, sym, ◌∙◌, ap, subst, arith}
use Rattle.std.proofs.Common.{append_assoc, take-append-drop}
use Rattle.std.proofs.lemmas.List.{append-nil}
use Rattle.std.specs.List.{AllByRecursion}
use mathlib.Core.List.{IsPrefix}
use Rattle.gw_log.specs.Disk.{Files}
use Rattle.gw_journal.specs.declared.event.Event.{Event}
use Rattle.gw_journal.specs.Logs.{Log, IsIn, IsLeft, IsOneOf, IsLater, IsTrue, IsJob, JobState, StandsAt, log_in, opened, outcomes}
use Rattle.gw_journal.specs.Stored.{IsKept, StoredState, disk_of, Held, LeavesOne, HasAt, IsThere, StandsIn}
use Rattle.gw_journal.specs.Runs.{AreRuns, none, one_more, HasLeft, HasMore}
use Rattle.gw_journal.proofs.Logging.{get_front, log_later, take_front}
use Rattle.gw_journal.specs.own.Laws.{crash_leaves}

-- ---- lists

-- what is long enough begins with the first part
take_past : (n : ℕ) (xs ys : List (List ℕ)) → length xs ≤ n → IsPrefix xs (take n (xs ++ ys))
take_past n [] ys le = (take n ys, refl)
take_past zero (x ∷ xs) ys le = absurd (omega arith)
take_past (suc n) (x ∷ xs) ys le = let rest = take_past n xs ys (omega arith) in (rest.0, ap (λ l. x ∷ l) rest.1)

-- a record of two lists in a row stands in the first, or in the second
get_behind : (gone kept : List (List ℕ)) (place : ℕ) (bytes : List ℕ) → IsIn place bytes (gone ++ kept)
    → (place < length gone) ⊎ IsIn (place - length gone) bytes kept
get_behind [] kept place bytes here = let same : place ≡ place - 0 = omega arith in inr (subst (λ n. IsIn n bytes kept) same here)
get_behind (g ∷ gone) kept zero bytes here = inl (omega arith)
get_behind (g ∷ gone) kept (suc place) bytes here =
    let same : place - length gone ≡ suc place - length (g ∷ gone) = omega arith in
    ⊎_elim (λ lt. inl (omega (arith, lt))) (λ behind. inr (subst (λ n. IsIn n bytes kept) same behind)) (get_behind gone kept place bytes here)

-- ---- what a crash leaves begins with what was there

-- a journal begins with the records that it was opened with
begins : (before : List (List ℕ)) (history : List Event) → IsLater (opened before) (log_in before history)
begins before history = log_later before [] history (history, refl)

begins_taken : (before : List (List ℕ)) (history : List Event) (n : ℕ) → length before ≤ n → IsPrefix before (take n (log_in before history).records)
begins_taken before history n le =
    let l = begins before history in subst (λ rs. IsPrefix before (take n rs)) (sym l.records) (take_past n before l.more le)

-- one of those that begin with these
begins_one : (before : List (List ℕ)) (given : ℕ) (records all : List (List ℕ)) → IsPrefix before (take given records) → IsPrefix before records
    → IsOneOf all (outcomes given records) → IsPrefix before all
begins_one before given records all first whole one =
    ⊎_elim (λ is. subst (λ rs. IsPrefix before rs) (sym is) first) (λ rest.
    ⊎_elim (λ is. subst (λ rs. IsPrefix before rs) (sym is) whole) (λ no_more. absurd no_more) rest) one

-- what each of these has, the one has
has_one : (place : ℕ) (bytes : List ℕ) (left : List (List (List ℕ))) (all : List (List ℕ)) → AllByRecursion (λ records. IsIn place bytes records) left
    → IsOneOf all left → IsIn place bytes all
has_one place bytes [] all has one = absurd one
has_one place bytes (these ∷ left) all has one =
    ⊎_elim (λ is. subst (λ rs. IsIn place bytes rs) (sym is) (has.0)) (λ rest. has_one place bytes left all (has.1) rest) one

has_more : (tells : List (List ℕ) → List ℕ → Type 0) (spares : List (List ℕ) → ℕ → Type 0) (id : ℕ) (c : Files) (before all : List (List ℕ)) → IsPrefix before all → IsKept tells spares id c all
    → HasMore tells spares id before c
has_more tells spares id c before all p kept = record { more = p.0; kept = subst (λ rs. IsKept tells spares id c rs) (sym p.1) kept }

-- ---- what is on the disk is left

-- a shorter part of a list begins a longer one
take_more : (n m : ℕ) (xs : List (List ℕ)) → n ≤ m → IsPrefix (take n xs) (take m xs)
take_more zero m [] le = (take m [], refl)
take_more zero m (x ∷ xs) le = (take m (x ∷ xs), refl)
take_more (suc n) zero xs le = absurd (omega arith)
take_more (suc n) (suc m) [] le = ([], refl)
take_more (suc n) (suc m) (x ∷ xs) le = let rest = take_more n m xs (omega arith) in (rest.0, ap (λ l. x ∷ l) rest.1)

take_begins : (n : ℕ) (xs : List (List ℕ)) → IsPrefix (take n xs) xs
take_begins n xs = (drop n xs, take-append-drop n xs)

-- the storage has this many of a journal, and more are on the disk by none
left_taken : (log : Log) (n : ℕ) → log.synced ≤ n → IsLeft log (take n log.records)
left_taken log n le = record { kept = take_more log.synced n log.records le; put = take_begins n log.records }

-- also by a later one
left_later : (job now : Log) (given : ℕ) (all : List (List ℕ)) → IsLater job now → given ≤ length job.records → now.synced ≤ given
    → IsOneOf all (outcomes given job.records) → IsLeft now all
left_later job now given all l within le one =
    ⊎_elim (λ is. subst (IsLeft now) (sym is) part) (λ rest. ⊎_elim (λ is. subst (IsLeft now) (sym is) whole) (λ no_more. absurd no_more) rest) one
  where
    front : (n : ℕ) → n ≤ length job.records → take n now.records ≡ take n job.records
    front n few = ap (take n) l.records ∙ take_front n job.records l.more few

    synced : IsPrefix (take now.synced now.records) (take given job.records)
    synced = subst (λ rs. IsPrefix (take now.synced now.records) rs) (front given within) (take_more now.synced given now.records le)

    behind : IsPrefix (take given job.records) now.records
    behind = subst (λ rs. IsPrefix rs now.records) (front given within) (take_begins given now.records)

    part : IsLeft now (take given job.records)
    part = record { kept = synced; put = behind }

    whole : IsLeft now job.records
    whole =
        let rest = drop given job.records in
        record {
          kept = (synced.0 ++ rest, sym (append_assoc (take now.synced now.records) synced.0 rest) ∙ ap (λ rs. rs ++ rest) synced.1 ∙ take-append-drop given job.records);
          put = (l.more, sym l.records);
        }

module _ {D : Type 0} (tells : List (List ℕ) → List ℕ → Type 0) (spares : List (List ℕ) → ℕ → Type 0) (honest : D → Type 0) (seen : D → Files) (may_leave : D → Files → Type 0)
    (moment : D → ℕ) (left_since : D → ℕ → Files → Type 0) where
  pub receipt_outlives : (s : StoredState D) (place : ℕ) (bytes : List ℕ) (c : Files) → honest (disk_of s)
      → StandsAt (Held tells spares honest seen may_leave) s place bytes → may_leave (disk_of s) c → HasAt tells spares s.id place bytes c
  receipt_outlives s place bytes c did at could = record {
    all = at.these;
    kept = crash_leaves tells spares honest seen may_leave moment left_since s at.these c did at.stand could;
    there = at.there;
  }

  -- also while calls are made of it, where each list of records that may be left has it
  pub receipt_stays : (old new : StoredState D) (left : List (List (List ℕ))) (place : ℕ) (bytes : List ℕ) (c : Files) → honest (disk_of new)
      → LeavesOne tells spares honest moment left_since old new left → AllByRecursion (λ records. IsIn place bytes records) left
      → left_since (disk_of new) (moment (disk_of old)) c → HasAt tells spares old.id place bytes c
  receipt_stays old new left place bytes c did one has could =
      let k = (one.leaves did).each c could in
      record { all = k.all; kept = k.kept; there = has_one place bytes left k.all has k.among }

  pub at_rest : (before batch : List (List ℕ)) (history : List Event) (s : StoredState D) (given settled : ℕ) (c : Files) → honest (disk_of s)
      → IsTrue (Held tells spares honest seen may_leave) (Some s) batch given settled (log_in before history) → may_leave (disk_of s) c → HasMore tells spares s.id before c
  at_rest before batch history s given settled c did t could =
      let log : Log = log_in before history in
      let l = begins before history in
      has_more tells spares s.id c before (take given log.records) (begins_taken before history given (omega (arith, l.synced, t.synced, t.order)))
      (crash_leaves tells spares honest seen may_leave moment left_since s (take given log.records) c did t.keeps could)

  pub at_work : (before : List (List ℕ)) (job : JobState (StoredState D)) (new : StoredState D) (c : Files) → honest (disk_of new)
      → IsJob (Held tells spares honest seen may_leave) tells spares job (log_in before job.history)
      → LeavesOne tells spares honest moment left_since job.storage new (outcomes job.given (log_in before job.history).records)
      → left_since (disk_of new) (moment (disk_of job.storage)) c → HasMore tells spares job.storage.id before c
  at_work before job new c did j one left =
      let log : Log = log_in before job.history in
      let l = begins before job.history in
      let k = (one.leaves did).each c left in
      has_more tells spares job.storage.id c before k.all
      (begins_one before job.given log.records k.all (begins_taken before job.history job.given (omega (arith, l.synced, j.synced))) (l.more, sym l.records) k.among) k.kept

  pub left_at_rest : (before batch : List (List ℕ)) (history : List Event) (s : StoredState D) (given settled : ℕ) (c : Files) → honest (disk_of s)
      → IsTrue (Held tells spares honest seen may_leave) (Some s) batch given settled (log_in before history) → may_leave (disk_of s) c
      → HasLeft tells spares s.id (log_in before history) c
  left_at_rest before batch history s given settled c did t could =
      let log : Log = log_in before history in
      record {
        left = take given log.records;
        kept = crash_leaves tells spares honest seen may_leave moment left_since s (take given log.records) c did t.keeps could;
        is = left_taken log given (omega (arith, t.synced, t.order));
      }

  pub left_at_work : (before : List (List ℕ)) (job : JobState (StoredState D)) (new : StoredState D) (now : List Event) (c : Files) → honest (disk_of new)
      → IsJob (Held tells spares honest seen may_leave) tells spares job (log_in before job.history)
      → LeavesOne tells spares honest moment left_since job.storage new (outcomes job.given (log_in before job.history).records)
      → IsPrefix job.history now → (log_in before now).synced ≤ job.given → left_since (disk_of new) (moment (disk_of job.storage)) c
      → HasLeft tells spares job.storage.id (log_in before now) c
  left_at_work before job new now c did j one p few left =
      let k = (one.leaves did).each c left in
      record {
        left = k.all;
        kept = k.kept;
        is = left_later (log_in before job.history) (log_in before now) job.given k.all (log_later before job.history now p) j.within few k.among;
      }

-- ---- in the files that a crash left

pub stands_or_gone : (tells : List (List ℕ) → List ℕ → Type 0) (spares : List (List ℕ) → ℕ → Type 0) (id place : ℕ) (bytes : List ℕ) (files : Files) → HasAt tells spares id place bytes files
    → IsThere id place bytes files
stands_or_gone tells spares id place bytes files at =
    let k = at.kept in
    let gone = k.covers.gone in
    let same : length gone ≡ k.from.first = sym k.covers.place in
    record {
      from = k.from;
      head = k.head;
      kept = k.kept;
      log = k.log;
      there = subst (λ n. (place < n) ⊎ IsIn (place - n) bytes k.kept) same
          (get_behind gone k.kept place bytes (subst (λ rs. IsIn place bytes rs) k.covers.split at.there));
    }

pub stands_needed : (tells : List (List ℕ) → List ℕ → Type 0) (spares : List (List ℕ) → ℕ → Type 0) (id place : ℕ) (bytes : List ℕ) (files : Files) (all : List (List ℕ))
    (k : IsKept tells spares id files all) → k.head.keep ≤ place → IsIn place bytes all → StandsIn id place bytes files
stands_needed tells spares id place bytes files all k le here =
    let gone = k.covers.gone in
    let same : length gone ≡ k.from.first = sym k.covers.place in
    let order : k.from.first ≤ place = omega (arith, k.log.there, le) in
    record {
      from = k.from;
      head = k.head;
      kept = k.kept;
      log = k.log;
      order = order;
      there = ⊎_elim (λ lt. absurd (omega (arith, lt, same, order))) (λ behind. subst (λ n. IsIn (place - n) bytes k.kept) same behind)
          (get_behind gone k.kept place bytes (subst (λ rs. IsIn place bytes rs) k.covers.split here));
    }

-- ---- one run after another

pub runs_kept : (tells : List (List ℕ) → List ℕ → Type 0) (spares : List (List ℕ) → ℕ → Type 0) (id : ℕ) (found : Files) (before : List (List ℕ)) (left : Files) (after : List (List ℕ))
    → AreRuns tells spares id found before left after → IsKept tells spares id left after
runs_kept tells spares id found before _ _ (none kept) = kept
runs_kept tells spares id found before _ _ (one_more mid left between runs run) = run.kept

pub runs_all : (tells : List (List ℕ) → List ℕ → Type 0) (spares : List (List ℕ) → ℕ → Type 0) (id : ℕ) (found : Files) (before : List (List ℕ)) (left : Files) (after : List (List ℕ))
    → AreRuns tells spares id found before left after → IsPrefix before after
runs_all tells spares id found before _ _ (none kept) = ([], append-nil before)
runs_all tells spares id found before _ _ (one_more mid left between runs run) =
    let p = runs_all tells spares id found before mid between runs in
    (p.0 ++ run.more, sym (append_assoc before p.0 run.more) ∙ ap (λ rs. rs ++ run.more) p.1)

pub runs_at : (tells : List (List ℕ) → List ℕ → Type 0) (spares : List (List ℕ) → ℕ → Type 0) (id : ℕ) (found : Files) (before : List (List ℕ)) (left : Files) (after : List (List ℕ)) (place : ℕ) (bytes : List ℕ)
    → AreRuns tells spares id found before left after → IsIn place bytes before → HasAt tells spares id place bytes left
runs_at tells spares id found before left after place bytes runs here =
    let p = runs_all tells spares id found before left after runs in
    record {
      all = after;
      kept = runs_kept tells spares id found before left after runs;
      there = subst (λ rs. IsIn place bytes rs) p.1 (get_front before p.0 place bytes here);
    }

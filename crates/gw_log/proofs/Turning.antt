-- How a log goes on to its next file.
use Rattle.std.proofs.Common.{◌≡◌, ◌≢◌, ◌⊎◌, inl, inr, ℕ, ◌+◌, ◌<◌, ◌≤◌, ◌^◌, List, [], ◌∷◌, ◌++◌, length, refl, sym, ◌∙◌, ap, subst, arith, append_assoc, length-append}
use Rattle.std.proofs.lemmas.List.{append-nil}
use Rattle.sha2.specs.Sha256.{sha256}
use Rattle.sha2.proofs.Facts256.{length-sha256}
use Rattle.gw_log.specs.Disk.{Files, Changes, Only, LeavesOnly}
use Rattle.gw_log.specs.File.{item, body, blocks, batch, AreShort, Has, HasEither, HasOrIs}
use Rattle.gw_log.specs.State.{at_rest, IsStaged, Stands, SegmentState}
use Rattle.gw_log.specs.Chain.{Head, spelled, IsWide, IsEnded, Follows, AreBefore, none, more, IsUnborn, Origin, IsLog, LogState, Holds, LeavesGoing, next_head}
use Rattle.gw_log.specs.own.Turns.{Turns, IsNext, HasTurned}
use Rattle.gw_log.specs.own.Steps.{HasAdded, IsAtRest}
use Rattle.gw_log.proofs.Crash.{new_end}
use Rattle.gw_log.proofs.Batches.{has_unsynced}
use Rattle.gw_log.proofs.Sound.{ends_old}
use Rattle.gw_log.proofs.Places.{block_size}
use Rattle.gw_log.proofs.Ends.{short-append, blocks-append}
use Rattle.gw_log.proofs.Logs.{before_same, no_file, log_with, from_le}
use Rattle.gw_log.proofs.Placing.{head_from}

pub empty_short : length (item []) < 2 ^ 32
empty_short = omega (arith, length-append (sha256 []) [], length-sha256 [])

-- ---- the two files

-- the next file is being begun
pub begins : (number : ℕ) (these next : List (List ℕ)) (old c : Files) → Has these (old number)
    → Changes (number + 1) (HasEither [] next) old c → Turns number these next old c
begins number these next old c has changes = record {
  others = λ m one two. changes.others m two;
  either = inl (subst (Has these) (sym (changes.others number (λ is. omega (arith, is)))) has, changes.here);
}

module _ (number : ℕ) (these next : List (List ℕ)) (old mid : Files) (begun : Has next (mid (number + 1))) (same : (m : ℕ) → m ≢ number + 1 → mid m ≡ old m) where
  -- the end is being written
  pub ends : (c : Files) → Changes number (HasAdded 0 these ([] ∷ [])) mid c → Turns number these next old c
  ends c changes = record {
    others = λ m one two. changes.others m one ∙ same m two;
    either = inl (ends_old these ([] ∷ []) (c number) changes.here, inr (subst (Has next) (sym (changes.others (number + 1) (λ is. omega (arith, is)))) begun));
  }

  -- it is being brought to the disk
  pub closes : (last c : Files) → ((m : ℕ) → m ≢ number → last m ≡ mid m) → Changes number (HasOrIs these (these ++ [] ∷ [])) last c → Turns number these next old c
  closes last c others changes =
      record {
        others = λ m one two. changes.others m one ∙ others m one ∙ same m two;
        either = by (subst (Has next) (sym (changes.others (number + 1) (λ is. omega (arith, is)) ∙ others (number + 1) (λ is. omega (arith, is)))) begun) changes.here;
      }
    where
      by : Has next (c (number + 1)) → HasOrIs these (these ++ [] ∷ []) (c number)
          → (Has these (c number) × HasEither [] next (c (number + 1))) ⊎ ((c number ≡ at_rest (these ++ [] ∷ [])) × Has next (c (number + 1)))
      by there (inl h) = inl (h, inr there)
      by there (inr is) = inr (is, there)

-- ---- the log

-- one file more is ended
snoc : (id : ℕ) (files : Files) (last next : Head) (n f b : ℕ) (front these : List (List ℕ)) → AreBefore id files last n f b front → IsEnded last these (files last.number)
    → Follows id (last.number + 1) (last.first + length these) (length (files last.number)) next → AreBefore id files next n f b (front ++ these)
snoc id files last next n f b _ these (none _ _ _ fol) is follows =
    let here : files last.number ≡ files n = ap (λ (k : ℕ). files k) fol.its_number in
    let then : Follows id (n + 1) (f + length these) (length (files n)) next = record {
      its_id = follows.its_id;
      its_number = omega (arith, follows.its_number, fol.its_number);
      its_first = omega (arith, follows.its_first, fol.its_first);
      its_before = follows.its_before ∙ ap (λ (l : List ℕ). length l) here;
    } in
    subst (λ l. AreBefore id files next n f b l) (append-nil these)
    (more n f b last these [] fol (subst (λ l. IsEnded last these l) here is) (none (n + 1) (f + length these) (length (files n)) then))
snoc id files last next n f b _ these (more _ _ _ h some those fol ended rest) is follows =
    subst (λ l. AreBefore id files next n f b l) (sym (append_assoc some those these))
    (more n f b h some (those ++ these) fol ended (snoc id files last next (n + 1) (f + length some) (length (files n)) those these rest is follows))

module _ {D : Type 0} (seen : D → Files) (may_leave : D → Files → Type 0) (s : LogState D) (from : Origin) (head : Head) (records : List (List ℕ))
    (h : Holds seen may_leave s from head records) (keep : ℕ) (checkpoint : List ℕ) (batch : List (List ℕ)) (next : IsNext s keep checkpoint batch)
    (le : s.keep ≤ keep) where
  abbrev behind : Head
  behind = next_head s keep checkpoint

  abbrev old : Files
  old = seen s.segment.disk

  abbrev mine : List (List ℕ)
  mine = spelled head ∷ h.these

  end_is : (file : List ℕ) → file ≡ at_rest (mine ++ [] ∷ []) → length file ≡ s.segment.reach + 46
  end_is file is =
      let st = h.stands.staged in
      let one : length (blocks ([] ∷ [])) ≡ 45 = omega (arith, length-append (body []) [], block_size []) in
      let all : length (blocks mine) ≡ s.segment.reach =
      ap (λ (l : List (List ℕ)). length (blocks l)) h.stands.all
      ∙ sym (new_end st.gate 2 h.stands.these h.stands.last s.segment.end s.segment.reach st.ends st.reaches) in
      omega (
        arith,
        ap length is,
        length-append (blocks (mine ++ [] ∷ [])) (0 ∷ []),
        ap length (blocks-append mine ([] ∷ [])),
        length-append (blocks mine) (blocks ([] ∷ [])),
        one,
        all,
      )

  short_mine : AreShort mine
  short_mine = subst AreShort (sym h.stands.all) (short-append h.stands.these h.stands.last h.stands.staged.short h.stands.staged.fits)

  ended_so : (c : Files) → c s.segment.number ≡ at_rest (mine ++ [] ∷ []) → IsEnded head h.these (c head.number)
  ended_so c is = record {
    wide = h.wide;
    some = h.some;
    short = short-append mine ([] ∷ []) short_mine (empty_short, tt);
    whole = ap (λ (k : ℕ). c k) h.number ∙ is;
  }

  follows_so : (c : Files) → c s.segment.number ≡ at_rest (mine ++ [] ∷ [])
      → Follows s.id (head.number + 1) (head.first + length h.these) (length (c head.number)) behind
  follows_so c is = record {
    its_id = refl;
    its_number = omega (arith, h.number);
    its_first = omega (arith, h.first, h.count);
    its_before = sym (end_is (c head.number) (ap (λ (k : ℕ). c k) h.number ∙ is));
  }

  all_before : (c : Files) → ((m : ℕ) → m < head.number → c m ≡ old m) → c s.segment.number ≡ at_rest (mine ++ [] ∷ [])
      → AreBefore s.id c behind from.number from.first from.before (h.front ++ h.these)
  all_before c same is =
      snoc s.id c head behind from.number from.first from.before h.front h.these
      (before_same s.id old c head from.number from.first from.before h.front same h.ended) (ended_so c is) (follows_so c is)

  number_is : head.number + 1 ≡ s.segment.number + 1
  number_is = ap (λ (k : ℕ). k + 1) h.number

  -- while it goes on, a crash leaves the same log, with its head or the next one
  pub log_then : (c : Files) → Turns s.segment.number mine batch old c → IsLog s.id c from head records ⊎ IsLog s.id c from behind records
  log_then c turns = by turns.either
    where
      below : (m : ℕ) → m < head.number → c m ≡ old m
      below m lt = turns.others m (λ is. omega (arith, is, h.number, lt)) (λ is. omega (arith, is, h.number, lt))

      above : (m : ℕ) → head.number + 1 < m → c m ≡ []
      above m lt = turns.others m (λ is. omega (arith, is, h.number, lt)) (λ is. omega (arith, is, h.number, lt)) ∙ h.none_above m (omega (arith, lt))

      unborn : (file : List ℕ) → HasEither [] batch file → IsUnborn file
      unborn file (inl has) = record { records = []; has = has; at_most = omega arith }
      unborn file (inr has) = record { records = batch; has = has; at_most = omega (arith, ap length next.batch_is) }

      there : from.first ≤ behind.keep
      there = omega (arith, h.there, h.keep, le)

      by : (Has mine (c s.segment.number) × HasEither [] batch (c (s.segment.number + 1)))
          ⊎ ((c s.segment.number ≡ at_rest (mine ++ [] ∷ [])) × Has batch (c (s.segment.number + 1))) → IsLog s.id c from head records ⊎ IsLog s.id c from behind records
      by (inl first) = inl (
          subst (λ l. IsLog s.id c from head l) (sym h.all) (log_with seen may_leave s from head records h c h.these
          (record { wide = h.wide; some = h.some; has = subst (λ n. Has mine (c n)) (sym h.number) first.0 }) below
          (subst (λ n. IsUnborn (c n)) (sym number_is) (unborn (c (s.segment.number + 1)) first.1)) above))
      by (inr second) =
          let number : behind.number ≡ head.number + 1 = omega (arith, h.number) in
          let file : Has (spelled behind ∷ []) (c behind.number) = subst (λ l. Has l (c (s.segment.number + 1))) next.batch_is second.1 in
          inr (record {
            front = h.front ++ h.these;
            these = [];
            ended = all_before c below second.0;
            last = record { wide = next.wide; some = tt; has = file };
            all = h.all ∙ sym (append-nil (h.front ++ h.these));
            there = there;
            none_below = λ m lt. below m (omega (arith, lt, from_le seen may_leave s from head records h)) ∙ h.none_below m lt;
            unborn = no_file (c (behind.number + 1)) (above (behind.number + 1) (omega (arith, number)));
            none_above = λ m lt. above m (omega (arith, lt, number));
          })

  -- and then the log holds the same, with the next head
  pub holds_then : (t : LogState D) → Stands seen may_leave t.segment batch → t.segment.number ≡ s.segment.number + 1
      → seen t.segment.disk s.segment.number ≡ at_rest (mine ++ [] ∷ [])
      → ((m : ℕ) → m ≢ s.segment.number → m ≢ s.segment.number + 1 → seen t.segment.disk m ≡ old m) → t.id ≡ s.id → t.first ≡ s.first + s.count → t.count ≡ 0
      → t.keep ≡ keep → t.least ≡ s.least → Holds seen may_leave t from behind records
  holds_then t stands number file same id first count old_is least =
      let c = seen t.segment.disk in
      let below : (m : ℕ) → m < head.number → c m ≡ old m = λ m lt. same m (λ is. omega (arith, is, h.number, lt)) (λ is. omega (arith, is, h.number, lt)) in
      record {
        front = h.front ++ h.these;
        these = [];
        ended = subst (λ k. AreBefore k c behind from.number from.first from.before (h.front ++ h.these)) (sym id) (all_before c below file);
        wide = next.wide;
        some = tt;
        stands = subst (Stands seen may_leave t.segment) next.batch_is stands;
        number = sym number;
        all = h.all ∙ sym (append-nil (h.front ++ h.these));
        there = omega (arith, h.there, h.keep, le);
        none_below = λ m lt. below m (omega (arith, lt, from_le seen may_leave s from head records h)) ∙ h.none_below m lt;
        none_above = λ m lt. same m (λ is. omega (arith, is, lt)) (λ is. omega (arith, is, lt)) ∙ h.none_above m (omega (arith, lt, h.number));
        first = sym first;
        count = count;
        keep = sym old_is;
        least = h.least ∙ sym least;
      }

-- ---- the two files of a segment

pub moved_staged : {D : Type 0} (seen : D → Files) (may_leave : D → Files → Type 0) (old new : D) (number end reach : ℕ) (these last : List (List ℕ))
    → IsStaged seen may_leave 2 old number end reach these last → seen new number ≡ seen old number → Only (seen new) (may_leave new)
    → IsStaged seen may_leave 2 new number end reach these last
moved_staged seen may_leave was new number end reach these last st same only = record {
  gate = st.gate;
  shut = st.shut;
  file = same ∙ st.file;
  short = st.short;
  fits = st.fits;
  ends = st.ends;
  reaches = st.reaches;
  durable = only;
}

pub apart : (n : ℕ) → n ≢ n + 1
apart n is = omega (arith, is)

pub ends_at : (number : ℕ) (these those last next : List (List ℕ)) (old mid c : Files) → these ≡ those ++ last → Has next (mid (number + 1))
    → ((m : ℕ) → m ≢ number + 1 → mid m ≡ old m) → Changes number (HasAdded 0 (those ++ last) ([] ∷ [])) mid c → Turns number these next old c
ends_at number these those last next old mid c all begun same changes =
    ends number these next old mid begun same c (subst (λ l. Changes number (HasAdded 0 l ([] ∷ [])) mid c) (sym all) changes)

pub closes_at : (number : ℕ) (these those next : List (List ℕ)) (old mid last c : Files) → these ≡ those → Has next (mid (number + 1))
    → ((m : ℕ) → m ≢ number + 1 → mid m ≡ old m) → ((m : ℕ) → m ≢ number → last m ≡ mid m) → Changes number (HasOrIs those (those ++ [] ∷ [])) last c
    → Turns number these next old c
closes_at number these those next old mid last c all begun same others changes =
    closes number these next old mid begun same last c others (subst (λ l. Changes number (HasOrIs l (l ++ [] ∷ [])) last c) (sym all) changes)

pub has_turned : {D : Type 0} (seen : D → Files) (may_leave : D → Files → Type 0) (old new : SegmentState D) (begun closed : D) (size : ℕ) (these those next : List (List ℕ))
    → IsStaged seen may_leave 2 begun (old.number + 1) 0 size [] next → ((m : ℕ) → m ≢ old.number + 1 → seen begun m ≡ seen old.disk m)
    → ((m : ℕ) → m ≢ old.number → seen closed m ≡ seen begun m) → ((m : ℕ) → m ≢ old.number → seen new.disk m ≡ seen closed m)
    → these ≡ those → IsAtRest seen may_leave new.disk old.number (those ++ [] ∷ []) → HasTurned seen may_leave old new size these next
has_turned seen may_leave was new begun closed size these those next staged_next first second third all at_end =
    let far : was.number + 1 ≢ was.number = λ is. omega (arith, is) in
    record {
      begun = moved_staged seen may_leave begun new.disk (was.number + 1) 0 size [] next staged_next
          (third (was.number + 1) far ∙ second (was.number + 1) far) at_end.durable;
      ended = record {
        file = at_end.file ∙ ap (λ (l : List (List ℕ)). at_rest (l ++ [] ∷ [])) (sym all);
        others = λ m one two. third m one ∙ second m one ∙ first m two;
      };
    }

-- nothing was done yet
pub turns_none : (number : ℕ) (these next : List (List ℕ)) (old c : Files) → Has these (old number) → old (number + 1) ≡ [] → ((m : ℕ) → c m ≡ old m)
    → Turns number these next old c
turns_none number these next before c has empty same = record {
  others = λ m one two. same m;
  either = inl (subst (Has these) (sym (same number)) has, inl (has_unsynced [] [] (c (number + 1)) tt tt (same (number + 1) ∙ empty)));
}

pub end_batch : (bytes : List ℕ) (end : List (List ℕ)) → bytes ≡ batch 0 end → end ≡ [] ∷ [] → bytes ≡ batch 0 ([] ∷ [])
end_batch bytes end is one = is ∙ ap (batch 0) one

-- ---- the next head

-- the batch that is spelled is its head
pub next_spelled : {D : Type 0} (s : LogState D) (number size keep : ℕ) (checkpoint : List ℕ) (batch : List (List ℕ)) → number ≡ s.segment.number → size ≡ s.segment.reach
    → batch ≡ spelled (head_from (number + 1) (s.first + s.count) (size + 45 + 1) keep s.id checkpoint) ∷ []
    → IsWide (head_from (number + 1) (s.first + s.count) (size + 45 + 1) keep s.id checkpoint) → IsNext s keep checkpoint batch
next_spelled s number size keep checkpoint batch number_is size_is spelled_is wide =
    let before : size + 45 + 1 ≡ s.segment.reach + 46 = omega (arith, size_is) in
    let same : head_from (number + 1) (s.first + s.count) (size + 45 + 1) keep s.id checkpoint ≡ next_head s keep checkpoint =
    ap (λ (n : ℕ). head_from (n + 1) (s.first + s.count) (size + 45 + 1) keep s.id checkpoint) number_is
    ∙ ap (λ (n : ℕ). head_from (s.segment.number + 1) (s.first + s.count) n keep s.id checkpoint) before in
    record { batch_is = spelled_is ∙ ap (λ (h : Head). spelled h ∷ []) same; wide = subst IsWide same wide }

pub next_given : {D : Type 0} (s v : LogState D) (keep : ℕ) (checkpoint : List ℕ) (batch given : List (List ℕ)) → v ≡ s → given ≡ batch → IsNext s keep checkpoint batch
    → IsNext v keep checkpoint given
next_given s v keep checkpoint batch given is same next =
    subst (λ t. IsNext t keep checkpoint given) (sym is) (subst (λ b. IsNext s keep checkpoint b) (sym same) next)

pub nothing_next : {D : Type 0} (seen : D → Files) (may_leave : D → Files → Type 0) (s : LogState D) (from : Origin) (head : Head) (records : List (List ℕ))
    → Holds seen may_leave s from head records → seen s.segment.disk (s.segment.number + 1) ≡ []
nothing_next seen may_leave s from head records h = h.none_above (s.segment.number + 1) (omega (arith, h.number))

module _ {D : Type 0} (seen : D → Files) (may_leave : D → Files → Type 0) (moment : D → ℕ) (left_since : D → ℕ → Files → Type 0) (old new : LogState D) (checkpoint : List ℕ)
    (n m : ℕ) (is : n ≡ m) where
  pub going_as : LeavesGoing seen may_leave moment left_since old new (next_head old n checkpoint)
      → LeavesGoing seen may_leave moment left_since old new (next_head old m checkpoint)
  going_as going = subst (λ k. LeavesGoing seen may_leave moment left_since old new (next_head old k checkpoint)) is going

  pub goes_as : (from : Origin) (all : List (List ℕ)) → Holds seen may_leave new from (next_head old n checkpoint) all
      → Holds seen may_leave new from (next_head old m checkpoint) all
  goes_as from all h = subst (λ k. Holds seen may_leave new from (next_head old k checkpoint) all) is h

pub leaves_at : {D : Type 0} (moment : D → ℕ) (left_since : D → ℕ → Files → Type 0) (old now new : D) (P : Files → Type 0) → new ≡ now
    → LeavesOnly moment left_since old now P → LeavesOnly moment left_since old new P
leaves_at moment left_since old now new P is run = subst (λ d. LeavesOnly moment left_since old d P) (sym is) run

-- What the steps of a call make of a log.
use Rattle.std.proofs.Common.{◌≡◌, ◌≢◌, inl, inr, ℕ, zero, suc, ◌+◌, ◌<◌, ◌≤◌, ◌^◌, List, [], ◌∷◌, ◌++◌, length, refl, sym, ◌∙◌, ap, subst, arith, append_assoc, length-append}
use Rattle.std.proofs.Common.{get_or}
use Rattle.std.specs.Prelude.{Vec}
use Rattle.std.specs.declared.alloc.Global.{Global}
use Rattle.gw_log.specs.Disk.{Files, Changes}
use Rattle.gw_log.specs.File.{Has, HasEither, AreInLimit}
use Rattle.gw_log.specs.State.{Stands, records_of}
use Rattle.gw_log.specs.Chain.{Head, spelled, AreSome, IsEnded, AreBefore, none, more, IsUnborn, Origin, IsLast, IsLog, LogState, Holds, IsEither}
use Rattle.gw_log.proofs.Batches.{has_unsynced}
use Rattle.gw_log.proofs.Sound.{has_stands}

pub some-append : (old new : List (List ℕ)) → AreSome old → AreSome new → AreSome (old ++ new)
some-append [] new some fresh = fresh
some-append (r ∷ old) new some fresh = (some.0, some-append old new some.1 fresh)

-- files that are ended have lower numbers
pub before_le : (id : ℕ) (files : Files) (last : Head) (n f b : ℕ) (records : List (List ℕ)) → AreBefore id files last n f b records → n ≤ last.number
before_le id files last n f b _ (none _ _ _ follows) = omega (arith, follows.its_number)
before_le id files last n f b _ (more _ _ _ h these those follows is rest) =
    let le = before_le id files last (n + 1) (f + length these) (length (files n)) those rest in omega (arith, le)

-- they are so in a folder that has the same there
pub before_same : (id : ℕ) (files c : Files) (last : Head) (n f b : ℕ) (records : List (List ℕ)) → ((m : ℕ) → m < last.number → c m ≡ files m)
    → AreBefore id files last n f b records → AreBefore id c last n f b records
before_same id files c last n f b _ same (none _ _ _ follows) = none n f b follows
before_same id files c last n f b _ same (more _ _ _ h these those follows is rest) =
    let le = before_le id files last (n + 1) (f + length these) (length (files n)) those rest in
    let here : files n ≡ c n = sym (same n (omega (arith, le))) in
    more n f b h these those follows (subst (λ l. IsEnded h these l) here is)
    (subst (λ (l : List ℕ). AreBefore id c last (n + 1) (f + length these) (length l) those) here
    (before_same id files c last (n + 1) (f + length these) (length (files n)) those same rest))

-- a file without a byte is unborn
pub no_file : (file : List ℕ) → file ≡ [] → IsUnborn file
no_file file is = record { records = []; has = has_unsynced [] [] file tt tt is; at_most = omega arith }

module _ {D : Type 0} (seen : D → Files) (may_leave : D → Files → Type 0) (s : LogState D) (from : Origin) (head : Head) (records : List (List ℕ))
    (h : Holds seen may_leave s from head records) where
  abbrev files : Files
  files = seen s.segment.disk

  pub from_le : from.number ≤ head.number
  from_le = before_le s.id files head from.number from.first from.before h.front h.ended

  -- where the last file and the one behind it are as they may be, the folder is a log
  pub log_with : (c : Files) (these : List (List ℕ)) → IsLast head these (c head.number) → ((m : ℕ) → m < head.number → c m ≡ files m)
      → IsUnborn (c (head.number + 1)) → ((m : ℕ) → head.number + 1 < m → c m ≡ []) → IsLog s.id c from head (h.front ++ these)
  log_with c these last same unborn none_above = record {
    front = h.front;
    these = these;
    ended = before_same s.id files c head from.number from.first from.before h.front same h.ended;
    last = last;
    all = refl;
    there = h.there;
    none_below = λ m lt. same m (omega (arith, lt, from_le)) ∙ h.none_below m lt;
    unborn = unborn;
    none_above = none_above;
  }

  -- nothing has changed
  pub log_as_is : (c : Files) → ((m : ℕ) → c m ≡ files m) → IsLog s.id c from head records
  log_as_is c same =
      subst (λ l. IsLog s.id c from head l) (sym h.all) (log_with c h.these
      (record {
        wide = h.wide;
        some = h.some;
        has = has_stands seen may_leave s.segment (spelled head ∷ h.these) h.stands (c head.number) (same head.number ∙ ap (λ (k : ℕ). files k) h.number);
      })
      (λ m lt. same m) (no_file (c (head.number + 1)) (same (head.number + 1) ∙ h.none_above (head.number + 1) (omega arith)))
      (λ m lt. same m ∙ h.none_above m (omega (arith, lt))))

  -- what a crash leaves where the last file alone is in motion
  pub either_of : (batch : List (List ℕ)) → AreSome batch → (c : Files)
      → Changes s.segment.number (HasEither (spelled head ∷ h.these) ((spelled head ∷ h.these) ++ batch)) files c → IsEither s.id from head records (records ++ batch) c
  either_of batch fresh c changes = by changes.here
    where
      number : s.segment.number ≡ head.number
      number = sym h.number

      log : (these : List (List ℕ)) → AreSome these → Has (spelled head ∷ these) (c s.segment.number) → IsLog s.id c from head (h.front ++ these)
      log these some have =
          log_with c these (record { wide = h.wide; some = some; has = subst (λ n. Has (spelled head ∷ these) (c n)) number have })
          (λ m lt. changes.others m (λ is. omega (arith, is, number, lt)))
          (no_file (c (head.number + 1)) (changes.others (head.number + 1) (λ is. omega (arith, is, number)) ∙ h.none_above (head.number + 1) (omega arith)))
          (λ m lt. changes.others m (λ is. omega (arith, is, number, lt)) ∙ h.none_above m (omega (arith, lt)))

      by : HasEither (spelled head ∷ h.these) ((spelled head ∷ h.these) ++ batch) (c s.segment.number) → IsEither s.id from head records (records ++ batch) c
      by (inl old) = inl (subst (λ l. IsLog s.id c from head l) (sym h.all) (log h.these h.some old))
      by (inr new) =
          inr (subst (λ l. IsLog s.id c from head l) (sym (append_assoc h.front h.these batch) ∙ ap (λ (l : List (List ℕ)). l ++ batch) (sym h.all))
          (log (h.these ++ batch) (some-append h.these batch h.some fresh) new))

  pub either_so : (batch : List (List ℕ)) (c : Files) → may_leave s.segment.disk c → IsEither s.id from head records (records ++ batch) c
  either_so batch c may = inl (log_as_is c (h.stands.staged.durable c may))

  -- the log holds a batch more
  pub holds_more : (t : LogState D) (batch : List (List ℕ)) → Stands seen may_leave t.segment ((spelled head ∷ h.these) ++ batch) → AreSome batch
      → t.segment.number ≡ s.segment.number → ((m : ℕ) → m ≢ s.segment.number → seen t.segment.disk m ≡ files m) → t.id ≡ s.id → t.first ≡ s.first
      → t.count ≡ s.count + length batch → t.keep ≡ s.keep → t.least ≡ s.least → Holds seen may_leave t from head (records ++ batch)
  holds_more t batch stands fresh number same id first count keep least = record {
    front = h.front;
    these = h.these ++ batch;
    ended = subst (λ n. AreBefore n (seen t.segment.disk) head from.number from.first from.before h.front) (sym id)
        (before_same s.id files (seen t.segment.disk) head from.number from.first from.before h.front
        (λ m lt. same m (λ is. omega (arith, is, h.number, lt))) h.ended);
    wide = h.wide;
    some = some-append h.these batch h.some fresh;
    stands = stands;
    number = h.number ∙ sym number;
    all = ap (λ (l : List (List ℕ)). l ++ batch) h.all ∙ append_assoc h.front h.these batch;
    there = h.there;
    none_below = λ m lt. same m (λ is. omega (arith, is, h.number, lt, from_le)) ∙ h.none_below m lt;
    none_above = λ m lt. same m (λ is. omega (arith, is, h.number, lt)) ∙ h.none_above m lt;
    first = h.first ∙ sym first;
    count = omega (arith, count, h.count, length-append h.these batch);
    keep = h.keep ∙ sym keep;
    least = h.least ∙ sym least;
  }

-- ---- records in memory

pub some_at : (xs : List (Vec ℕ Global)) (i : ℕ) (v : Vec ℕ Global) → i < length xs → AreSome (records_of xs) → (get_or xs i v).items ≢ []
some_at [] i v lt some = absurd (omega (arith, lt))
some_at (x ∷ xs) zero v lt some = some.0
some_at (x ∷ xs) (suc i) v lt some = some_at xs i v (omega (arith, lt)) some.1

pub not_some : (xs : List (Vec ℕ Global)) (i : ℕ) (v : Vec ℕ Global) → i < length xs → v ≡ get_or xs i v → length v.items ≡ 0 → AreSome (records_of xs) → ⊥
not_some xs i v lt at empty some = some_at xs i v lt some (ap (λ (w : Vec ℕ Global). w.items) (sym at) ∙ by v.items empty)
  where
    by : (l : List ℕ) → length l ≡ 0 → l ≡ []
    by [] is = refl
    by (x ∷ l) is = absurd (omega (arith, is))

limit_at : (xs : List (Vec ℕ Global)) (i : ℕ) (v : Vec ℕ Global) → i < length xs → AreInLimit (records_of xs) → length (get_or xs i v).items ≤ 2 ^ 31
limit_at [] i v lt are = absurd (omega (arith, lt))
limit_at (x ∷ xs) zero v lt are = are.0
limit_at (x ∷ xs) (suc i) v lt are = limit_at xs i v (omega (arith, lt)) are.1

pub out_of_limit : (xs : List (Vec ℕ Global)) (i : ℕ) (v : Vec ℕ Global) (bytes : List ℕ) → i < length xs → v ≡ get_or xs i v → bytes ≡ v.items → 2 ^ 31 < length bytes
    → AreInLimit (records_of xs) → ⊥
out_of_limit xs i v bytes lt at is long are =
    let same : bytes ≡ (get_or xs i v).items = is ∙ ap (λ (w : Vec ℕ Global). w.items) at in
    omega (arith, limit_at xs i v lt are, long, ap length same)

-- What the calls of a log are to a storage.
use Rattle.std.proofs.Common.{◌≡◌, refl, inl, inr, ⊎_elim, ℕ, ◌+◌, ◌≤◌, ◌<◌, List, [], ◌∷◌, ◌++◌, length, take, sym, ◌∙◌, ap, subst, arith}
use Rattle.std.proofs.Common.{Bool, true, false, append_assoc, length-append}
use Rattle.std.specs.Prelude.{MatchBool, max}
use Rattle.std.proofs.lemmas.Bool.{cases_lt}
use Rattle.gw_log.specs.Chain.{Head, LogState, Origin, Holds, IsEither, IsThisOrNext, IsLog, IsFewer, HasRetired, IsLogOrFewer, AreBefore, none, more, next_head}
use Rattle.gw_log.specs.Disk.{Files, LeavesOnly}
use Rattle.gw_log.proofs.Moments.{weaker}
use Rattle.gw_journal.specs.Logs.{IsOneOf}
use Rattle.gw_journal.specs.Stored.{Covers, WereSpared, StoredState, disk_of, IsHeld, Held, KeepsOne, LeavesOne}
use Rattle.gw_journal.proofs.Logging.{take_front, take_all}

-- ---- the head of the last file

-- it is the log's, and says how many records stand before the file
head_says : (id : ℕ) (files : Files) (last : Head) (n f b : ℕ) (front : List (List ℕ)) → AreBefore id files last n f b front
    → (last.id ≡ id) × (last.first ≡ f + length front)
head_says id files last n f b _ (none _ _ _ follows) = (follows.its_id, omega (arith, follows.its_first))
head_says id files last n f b _ (more _ _ _ h these those follows is rest) =
    let there = head_says id files last (n + 1) (f + length these) (length (files n)) those rest in
    (there.0, omega (arith, there.1, length-append these those))

module _ (tells : List (List ℕ) → List ℕ → Type 0) (spares : List (List ℕ) → ℕ → Type 0) where
  -- with records more, behind those that the checkpoint tells of
  covers_more : (from : Origin) (head : Head) (all kept those : List (List ℕ)) → head.first ≤ length all → Covers tells spares from head all kept
      → Covers tells spares from head (all ++ those) (kept ++ those)
  covers_more from head all kept those le c = record {
    gone = c.gone;
    split = ap (λ rs. rs ++ those) c.split ∙ append_assoc c.gone kept those;
    place = c.place;
    told = subst (λ rs. tells rs head.checkpoint) (sym (take_front head.first all those le)) c.told;
    spared = record {
      count = c.spared.count;
      within = omega (arith, c.spared.within, length-append all those);
      spared = subst (λ rs. spares rs head.keep) (sym (take_front c.spared.count all those c.spared.within)) c.spared.spared;
    };
  }

  -- with the next head, behind all of them
  next_spared : (all : List (List ℕ)) (old keep : ℕ) → spares all keep → WereSpared spares all old → WereSpared spares all (max keep old)
  next_spared all old keep spared were = elim (cases_lt keep old) [
    | inl lt ↦ record { count = were.count; within = were.within; spared = subst (λ n. spares (take were.count all) n) (later keep old lt) were.spared }
    | inr ge ↦ record {
      count = length all;
      within = omega arith;
      spared = subst (λ n. spares (take (length all) all) n) (sooner keep old (omega (arith, ge))) (subst (λ rs. spares rs keep) (sym (take_all all)) spared);
    }
  ]
    where
      later : (a b : ℕ) → a < b → b ≡ max a b
      later a b lt = omega (arith, lt)

      sooner : (a b : ℕ) → b ≤ a → a ≡ max a b
      sooner a b le = omega (arith, le)

  covers_next : (from : Origin) (head next : Head) (all kept : List (List ℕ)) (keep old : ℕ) (checkpoint : List ℕ) → next.first ≡ length all
      → next.checkpoint ≡ checkpoint → next.keep ≡ max keep old → head.keep ≡ old → tells all checkpoint → spares all keep
      → Covers tells spares from head all kept → Covers tells spares from next all kept
  covers_next from head next all kept keep old checkpoint place is most was told spared c = record {
    gone = c.gone;
    split = c.split;
    place = c.place;
    told = subst (λ bytes. tells (take next.first all) bytes) (sym is)
        (subst (λ rs. tells rs checkpoint) (sym (ap (λ n. take n all) place ∙ take_all all)) told);
    spared = subst (WereSpared spares all) (sym most) (next_spared all old keep spared (subst (WereSpared spares all) was c.spared));
  }

  -- without the first file
  covers_fewer : (from to : Origin) (head : Head) (all kept left : List (List ℕ)) → IsFewer from kept to left → Covers tells spares from head all kept
      → Covers tells spares to head all left
  covers_fewer from to head all kept left fewer c = record {
    gone = c.gone ++ fewer.gone;
    split = c.split ∙ ap (λ rs. c.gone ++ rs) fewer.split ∙ sym (append_assoc c.gone fewer.gone left);
    place = omega (arith, c.place, fewer.first, length-append c.gone fewer.gone);
    told = c.told;
    spared = c.spared;
  }

  covers_length : (from : Origin) (head : Head) (all kept : List (List ℕ)) → Covers tells spares from head all kept → length all ≡ from.first + length kept
  covers_length from head all kept c = omega (arith, c.place, ap length c.split, length-append c.gone kept)

  -- a log of these records is one of those that a crash may leave
  one_left : (id other : ℕ) (files : Files) (from : Origin) (head : Head) (all kept : List (List ℕ)) (left : List (List (List ℕ))) → other ≡ id
      → IsOneOf all left → Covers tells spares from head all kept → IsLog other files from head kept → KeepsOne tells spares id left files
  one_left id other files from head all kept left same among c log = record {
    all = all;
    among = among;
    kept = record { from = from; head = head; kept = kept; covers = c; log = subst (λ n. IsLog n files from head kept) same log };
  }

-- ---- the storage

module _ {D : Type 0} (tells : List (List ℕ) → List ℕ → Type 0) (spares : List (List ℕ) → ℕ → Type 0) (honest : D → Type 0) (seen : D → Files) (may_leave : D → Files → Type 0)
    (moment : D → ℕ) (left_since : D → ℕ → Files → Type 0) where
  abbrev HasThese : StoredState D → List (List ℕ) → Type 0
  HasThese s these = IsHeld tells spares seen may_leave s these

  -- where the last head's file begins
  first_within : (s : StoredState D) (these : List (List ℕ)) (h : HasThese s these) → h.head.first ≤ length these
  first_within s these h =
      let says = head_says s.log.id (seen (disk_of s)) h.head h.from.number h.from.first h.from.before h.holds.front h.holds.ended in
      omega (arith, says.1, covers_length tells spares h.from h.head these h.kept h.covers, ap length h.holds.all, length-append h.holds.front h.holds.these)

  -- the log's number is its head's
  its_id : (log : LogState D) (from : Origin) (head : Head) (kept : List (List ℕ)) → Holds seen may_leave log from head kept → head.id ≡ log.id
  its_id log from head kept h = (head_says log.id (seen log.segment.disk) head from.number from.first from.before h.front h.ended).0

  -- how many records there are
  next_place : (s : StoredState D) (these : List (List ℕ)) (h : HasThese s these) → s.log.first + s.log.count ≡ length these
  next_place s these h =
      let says = head_says s.log.id (seen (disk_of s)) h.head h.from.number h.from.first h.from.before h.holds.front h.holds.ended in
      omega (
        arith,
        says.1,
        h.holds.first,
        h.holds.count,
        covers_length tells spares h.from h.head these h.kept h.covers,
        ap length h.holds.all,
        length-append h.holds.front h.holds.these,
      )

  -- at `Ok` it has a batch more
  pub held_more : (old new : StoredState D) (these batch : List (List ℕ)) → new.id ≡ old.id → (honest (disk_of new) → honest (disk_of old))
      → Held tells spares honest seen may_leave old these
      → ((from : Origin) (head : Head) (kept : List (List ℕ)) → Holds seen may_leave old.log from head kept → Holds seen may_leave new.log from head (kept ++ batch))
      → Held tells spares honest seen may_leave new (these ++ batch)
  held_more old new these batch same back held run did =
      let h = held (back did) in
      let now = run h.from h.head h.kept h.holds in
      record {
        from = h.from;
        head = h.head;
        kept = h.kept ++ batch;
        covers = covers_more tells spares h.from h.head these h.kept batch (first_within old these h) h.covers;
        holds = now;
        id = sym (its_id new.log h.from h.head (h.kept ++ batch) now) ∙ its_id old.log h.from h.head h.kept h.holds ∙ h.id ∙ sym same;
      }

  -- the next file is begun
  pub held_next : (old new : StoredState D) (these : List (List ℕ)) (keep : ℕ) (checkpoint : List ℕ) → new.id ≡ old.id
      → (honest (disk_of new) → honest (disk_of old)) → tells these checkpoint → spares these keep → Held tells spares honest seen may_leave old these
      → ((from : Origin) (head : Head) (kept : List (List ℕ)) → Holds seen may_leave old.log from head kept
      → Holds seen may_leave new.log from (next_head old.log (max keep old.log.keep) checkpoint) kept)
      → Held tells spares honest seen may_leave new these
  held_next old new these keep checkpoint same back told spared held run did =
      let h = held (back did) in
      let next = next_head old.log (max keep old.log.keep) checkpoint in
      let now = run h.from h.head h.kept h.holds in
      record {
        from = h.from;
        head = next;
        kept = h.kept;
        covers = covers_next tells spares h.from h.head next these h.kept keep old.log.keep checkpoint (next_place old these h) refl refl h.holds.keep told spared h.covers;
        holds = now;
        id = sym (its_id new.log h.from next h.kept now) ∙ h.id ∙ sym same;
      }

  -- the first file is removed, or isn't
  pub held_fewer : (old new : StoredState D) (these : List (List ℕ)) (done : Bool) → new.id ≡ old.id → (honest (disk_of new) → honest (disk_of old))
      → Held tells spares honest seen may_leave old these
      → (honest (disk_of new) → (from : Origin) (head : Head) (kept : List (List ℕ)) → Holds seen may_leave old.log from head kept
      → MatchBool done (HasRetired seen may_leave new.log from head kept) (Holds seen may_leave new.log from head kept))
      → Held tells spares honest seen may_leave new these
  held_fewer old new these true same back held run did =
      let h = held (back did) in
      let r = run did h.from h.head h.kept h.holds in
      record {
        from = r.to;
        head = h.head;
        kept = r.kept;
        covers = covers_fewer tells spares h.from r.to h.head these h.kept r.kept r.fewer h.covers;
        holds = r.holds;
        id = sym (its_id new.log r.to h.head r.kept r.holds) ∙ its_id old.log h.from h.head h.kept h.holds ∙ h.id ∙ sym same;
      }
  held_fewer old new these false same back held run did =
      let h = held (back did) in
      let now = run did h.from h.head h.kept h.holds in
      record {
        from = h.from;
        head = h.head;
        kept = h.kept;
        covers = h.covers;
        holds = now;
        id = sym (its_id new.log h.from h.head h.kept now) ∙ its_id old.log h.from h.head h.kept h.holds ∙ h.id ∙ sym same;
      }

  -- ---- and a crash leaves

  pub leaves_more : (old new : StoredState D) (these batch : List (List ℕ)) → new.id ≡ old.id → (honest (disk_of new) → honest (disk_of old))
      → Held tells spares honest seen may_leave old these
      → ((from : Origin) (head : Head) (kept : List (List ℕ)) → Holds seen may_leave old.log from head kept
      → LeavesOnly moment left_since (disk_of old) (disk_of new) (IsEither old.log.id from head kept (kept ++ batch)))
      → LeavesOne tells spares honest moment left_since old new (these ∷ (these ++ batch) ∷ [])
  leaves_more old new these batch same back held run = record {
    id = same;
    back = back;
    leaves = λ did.
        let h = held (back did) in
        let left = these ∷ (these ++ batch) ∷ [] in
        let more = covers_more tells spares h.from h.head these h.kept batch (first_within old these h) h.covers in
        weaker moment left_since (disk_of old) (disk_of new) (IsEither old.log.id h.from h.head h.kept (h.kept ++ batch)) (KeepsOne tells spares old.id left)
        (λ c is. ⊎_elim (λ log. one_left tells spares old.id old.log.id c h.from h.head these h.kept left h.id (inl refl) h.covers log)
        (λ log. one_left tells spares old.id old.log.id c h.from h.head (these ++ batch) (h.kept ++ batch) left h.id (inr (inl refl)) more log) is)
        (run h.from h.head h.kept h.holds);
  }

  pub leaves_next : (old new : StoredState D) (these : List (List ℕ)) (keep : ℕ) (checkpoint : List ℕ) → new.id ≡ old.id
      → (honest (disk_of new) → honest (disk_of old)) → tells these checkpoint → spares these keep → Held tells spares honest seen may_leave old these
      → ((from : Origin) (head : Head) (kept : List (List ℕ)) → Holds seen may_leave old.log from head kept
      → LeavesOnly moment left_since (disk_of old) (disk_of new) (IsThisOrNext old.log.id from head (next_head old.log (max keep old.log.keep) checkpoint) kept))
      → LeavesOne tells spares honest moment left_since old new (these ∷ [])
  leaves_next old new these keep checkpoint same back told spared held run = record {
    id = same;
    back = back;
    leaves = λ did.
        let h = held (back did) in
        let left = these ∷ [] in
        let next = next_head old.log (max keep old.log.keep) checkpoint in
        let begun = covers_next tells spares h.from h.head next these h.kept keep old.log.keep checkpoint (next_place old these h) refl refl h.holds.keep told spared h.covers in
        weaker moment left_since (disk_of old) (disk_of new) (IsThisOrNext old.log.id h.from h.head next h.kept) (KeepsOne tells spares old.id left)
        (λ c is. ⊎_elim (λ log. one_left tells spares old.id old.log.id c h.from h.head these h.kept left h.id (inl refl) h.covers log)
        (λ log. one_left tells spares old.id old.log.id c h.from next these h.kept left h.id (inl refl) begun log) is)
        (run h.from h.head h.kept h.holds);
  }

  pub leaves_fewer : (old new : StoredState D) (these : List (List ℕ)) → new.id ≡ old.id → (honest (disk_of new) → honest (disk_of old))
      → Held tells spares honest seen may_leave old these
      → (honest (disk_of new) → (from : Origin) (head : Head) (kept : List (List ℕ)) → Holds seen may_leave old.log from head kept
      → LeavesOnly moment left_since (disk_of old) (disk_of new) (IsLogOrFewer old.log.id from head kept))
      → LeavesOne tells spares honest moment left_since old new (these ∷ [])
  leaves_fewer old new these same back held run = record {
    id = same;
    back = back;
    leaves = λ did.
        let h = held (back did) in
        let left = these ∷ [] in
        weaker moment left_since (disk_of old) (disk_of new) (IsLogOrFewer old.log.id h.from h.head h.kept) (KeepsOne tells spares old.id left)
        (λ c is. ⊎_elim (λ log. one_left tells spares old.id old.log.id c h.from h.head these h.kept left h.id (inl refl) h.covers log)
        (λ s. one_left tells spares old.id old.log.id c s.to h.head these s.kept left h.id (inl refl)
        (covers_fewer tells spares h.from s.to h.head these h.kept s.kept s.fewer h.covers) s.log) is)
        (run did h.from h.head h.kept h.holds);
  }

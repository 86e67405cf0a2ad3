-- What a crash leaves of a file in each step of a call.
use Rattle.std.proofs.Common.{◌≡◌, ◌≢◌, ◌⊎◌, inl, inr, refl, ℕ, ◌+◌, ◌-◌, ◌≤◌, min, List, [], ◌∷◌, ◌++◌, length, take, drop}
use Rattle.std.proofs.Common.{sym, ◌∙◌, ap, subst, arith, append_assoc, length-append, take-append-drop}
use Rattle.std.proofs.Math.Nat.{le-min}
use Rattle.std.proofs.lemmas.Bool.{cases_eq}
use Rattle.std.proofs.lemmas.List.{take_at, drop_at, take_all, drop_all, append-nil}
use Rattle.gw_log.specs.Disk.{IsMixed, IsWritten, Torn, Cut}
use Rattle.gw_log.specs.File.{blocks, batch, AreShort, IsWhole, IsUnsynced, IsShut, IsEnd, Has, HasOrIs}
use Rattle.gw_log.specs.State.{at_rest, staged}
use Rattle.gw_log.specs.own.Steps.{BeginsStaged, HasAdded, UpTo}
use Rattle.gw_log.proofs.Losing.{mixed_all}
use Rattle.gw_log.proofs.Ends.{shut, front_unsynced, take_past, blocks-append, short-append}
use Rattle.gw_log.proofs.Batches.{batch_size, opened_is, whole_same, has_unsynced, has_lone, has_shut, torn_batch}

-- ---- a write

-- behind the file
pub torn_behind : (bytes file c : List ℕ) (at : ℕ) → at ≡ length file → Torn at bytes file c → (c ≡ file ++ drop at c) × IsMixed [] bytes (drop at c)
torn_behind bytes file c at size torn = (
  sym (take-append-drop at c) ∙ ap (λ (l : List ℕ). l ++ drop at c) (torn.before ∙ take_all at file (omega (arith, size))),
  subst (λ l. IsMixed l bytes (drop at c)) (drop_all at file (omega (arith, size))) torn.mixed,
)

pub written_behind : (bytes file c : List ℕ) (at : ℕ) → at ≡ length file → IsWritten at bytes file c → c ≡ file ++ bytes
written_behind bytes file c at size written =
    written
    ∙ ap (λ (l : List ℕ). l ++ bytes ++ drop (at + length bytes) file) (take_all at file (omega (arith, size)))
    ∙ ap (λ (l : List ℕ). file ++ bytes ++ l) (drop_all (at + length bytes) file (omega (arith, size)))
    ∙ append-nil (file ++ bytes)

-- of a gate
one_byte : (gate new : ℕ) (tail c : List ℕ) → IsMixed (gate ∷ tail) (new ∷ []) c → (c ≡ gate ∷ tail) ⊎ (c ≡ new ∷ tail)
one_byte gate new tail [] mixed = absurd mixed
one_byte gate new tail (x ∷ c) mixed = by mixed.0
  where
    by : (x ≡ gate) ⊎ (x ≡ new) → (x ∷ c ≡ gate ∷ tail) ⊎ (x ∷ c ≡ new ∷ tail)
    by (inl is) = inl (ap (λ (n : ℕ). n ∷ c) is ∙ ap (λ (l : List ℕ). gate ∷ l) mixed.1)
    by (inr is) = inr (ap (λ (n : ℕ). n ∷ c) is ∙ ap (λ (l : List ℕ). new ∷ l) mixed.1)

module _ (front tail : List ℕ) (gate at : ℕ) (size : at ≡ length front) where
  pub torn_gate : (new : ℕ) (c : List ℕ) → Torn at (new ∷ []) (front ++ gate ∷ tail) c → (c ≡ front ++ gate ∷ tail) ⊎ (c ≡ front ++ new ∷ tail)
  torn_gate new c torn =
      by (one_byte gate new tail (drop at c) (subst (λ l. IsMixed l (new ∷ []) (drop at c)) (drop_at front (gate ∷ tail) at (sym size)) torn.mixed))
    where
      joined : (rest : List ℕ) → drop at c ≡ rest → c ≡ front ++ rest
      joined rest is =
          sym (take-append-drop at c) ∙ ap (λ (l : List ℕ). l ++ drop at c) (torn.before ∙ take_at front (gate ∷ tail) at (sym size))
          ∙ ap (λ (l : List ℕ). front ++ l) is

      by : (drop at c ≡ gate ∷ tail) ⊎ (drop at c ≡ new ∷ tail) → (c ≡ front ++ gate ∷ tail) ⊎ (c ≡ front ++ new ∷ tail)
      by (inl is) = inl (joined (gate ∷ tail) is)
      by (inr is) = inr (joined (new ∷ tail) is)

  pub written_gate : (new : ℕ) (c : List ℕ) → IsWritten at (new ∷ []) (front ++ gate ∷ tail) c → c ≡ front ++ new ∷ tail
  written_gate new c written =
      let behind : drop (at + 1) (front ++ gate ∷ tail) ≡ tail =
      ap (λ (l : List ℕ). drop (at + 1) l) (sym (append_assoc front (gate ∷ []) tail))
      ∙ drop_at (front ++ gate ∷ []) tail (at + 1) (omega (arith, size, length-append front (gate ∷ []))) in
      written
      ∙ ap (λ (l : List ℕ). l ++ (new ∷ []) ++ drop (at + 1) (front ++ gate ∷ tail)) (take_at front (gate ∷ tail) at (sym size))
      ∙ ap (λ (l : List ℕ). front ++ (new ∷ []) ++ l) behind
      ∙ append_assoc front (new ∷ []) tail

-- ---- a batch

pub some_last : (end reach : ℕ) (last : List (List ℕ)) → reach ≡ end + length (blocks last) → end ≢ reach → 1 ≤ length last
some_last end reach [] is differs = absurd (differs (omega (arith, is)))
some_last end reach (e ∷ more) is differs = omega arith

pub none_last : (end reach : ℕ) (last : List (List ℕ)) → reach ≡ end + length (blocks last) → end ≡ reach → last ≡ []
none_last end reach [] is same = refl
none_last end reach (e ∷ more) is same = absurd (omega (arith, is, same))

module _ (gate close : ℕ) (these last : List (List ℕ)) (end reach : ℕ) (ends : end ≡ length (blocks these)) (reaches : reach ≡ end + length (blocks last)) where
  pub size_is : reach + 1 ≡ length (staged gate close these last)
  size_is = omega (arith, ends, reaches, length-append (blocks these) (gate ∷ batch close last), batch_size close last)

  pub new_end : reach ≡ length (blocks (these ++ last))
  new_end = omega (arith, ends, reaches, ap length (blocks-append these last), length-append (blocks these) (blocks last))

  -- the file with something behind it
  pub at_gate : (rest file : List ℕ) → file ≡ staged gate close these last ++ rest → file ≡ blocks these ++ gate ∷ (batch close last ++ rest)
  at_gate rest file is = is ∙ append_assoc (blocks these) (gate ∷ batch close last) rest

  pub opened : (rest c : List ℕ) → 1 ≤ length last → c ≡ blocks these ++ 1 ∷ (batch close last ++ rest) → c ≡ blocks (these ++ last) ++ close ∷ rest
  opened rest c some is =
      is ∙ ap (λ (l : List ℕ). blocks these ++ l) (opened_is close last rest some)
      ∙ sym (append_assoc (blocks these) (blocks last) (close ∷ rest)) ∙ ap (λ (l : List ℕ). l ++ close ∷ rest) (sym (blocks-append these last))

  -- without a batch there is a gate alone
  pub alone : (rest file : List ℕ) → last ≡ [] → file ≡ staged gate close these last ++ rest → file ≡ blocks (these ++ last) ++ gate ∷ rest
  alone rest file none is =
      at_gate rest file is ∙ ap (λ (l : List (List ℕ)). blocks these ++ gate ∷ (batch close l ++ rest)) none
      ∙ ap (λ (l : List (List ℕ)). blocks l ++ gate ∷ rest) (sym (append-nil these) ∙ ap (λ (l : List (List ℕ)). these ++ l) (sym none))

-- ---- a batch is added

module _ (gate close : ℕ) (these last more : List (List ℕ)) (end reach : ℕ) (ends : end ≡ length (blocks these)) (reaches : reach ≡ end + length (blocks last))
    (differs : gate ≢ 1) (short : AreShort these) (fits : AreShort last) (few : AreShort more) where
  pub first_crash : (bytes file c : List ℕ) → file ≡ staged gate 2 these last → Torn (reach + 1) bytes file c → BeginsStaged gate these last bytes c
  first_crash bytes file c is torn =
      let found = torn_behind bytes (staged gate 2 these last) c (reach + 1) (size_is gate 2 these last end reach ends reaches)
      (subst (λ f. Torn (reach + 1) bytes f c) is torn) in
      record { rest = drop (reach + 1) c; whole = found.0; mixed = found.1 }

  pub first_done : (bytes file c : List ℕ) → file ≡ staged gate 2 these last → IsWritten (reach + 1) bytes file c → c ≡ staged gate 2 these last ++ bytes
  first_done bytes file c is written =
      written_behind bytes (staged gate 2 these last) c (reach + 1) (size_is gate 2 these last end reach ends reaches)
      (subst (λ f. IsWritten (reach + 1) bytes f c) is written)

  -- the gate of the last batch isn't open yet
  pub still : (bytes c : List ℕ) → bytes ≡ batch close more → BeginsStaged gate these last bytes c → HasAdded close (these ++ last) more c
  still bytes c is begins = elim (cases_eq end reach) [
    | inl same ↦
        torn_batch close gate (these ++ last) more begins.rest c differs (short-append these last short fits) few
        (subst (λ b. IsMixed [] b begins.rest) is begins.mixed)
        (alone gate 2 these last end reach ends reaches begins.rest c (none_last end reach last reaches same) begins.whole)
    | inr some ↦
        inl (has_shut these last gate begins.rest c differs short fits
        (at_gate gate 2 these last end reach ends reaches begins.rest c begins.whole) (some_last end reach last reaches some))
  ]

  pub gate_crash : (bytes file c : List ℕ) → 1 ≤ length last → bytes ≡ batch close more → BeginsStaged gate these last bytes file → Torn end (1 ∷ []) file c
      → HasAdded close (these ++ last) more c
  gate_crash bytes file c some is begins torn =
      by (torn_gate (blocks these) (batch 2 last ++ begins.rest) gate end ends 1 c
      (subst (λ f. Torn end (1 ∷ []) f c) (at_gate gate 2 these last end reach ends reaches begins.rest file begins.whole) torn))
    where
      by : (c ≡ blocks these ++ gate ∷ (batch 2 last ++ begins.rest)) ⊎ (c ≡ blocks these ++ 1 ∷ (batch 2 last ++ begins.rest))
          → HasAdded close (these ++ last) more c
      by (inl old) = inl (has_shut these last gate begins.rest c differs short fits old some)
      by (inr new) =
          torn_batch close 2 (these ++ last) more begins.rest c (omega arith) (short-append these last short fits) few
          (subst (λ b. IsMixed [] b begins.rest) is begins.mixed)
          (opened gate 2 these last end reach ends reaches begins.rest c some new)

  pub gate_done : (bytes file c : List ℕ) → 1 ≤ length last → file ≡ staged gate 2 these last ++ bytes → IsWritten end (1 ∷ []) file c
      → c ≡ blocks (these ++ last) ++ 2 ∷ bytes
  gate_done bytes file c some is written =
      opened gate 2 these last end reach ends reaches bytes c some
      (written_gate (blocks these) (batch 2 last ++ bytes) gate end ends 1 c
      (subst (λ f. IsWritten end (1 ∷ []) f c) (at_gate gate 2 these last end reach ends reaches bytes file is) written))

-- ---- the end of a file is opened

module _ (gate : ℕ) (these last : List (List ℕ)) (end reach : ℕ) (ends : end ≡ length (blocks these)) (reaches : reach ≡ end + length (blocks last))
    (differs : gate ≢ 1) (short : AreShort these) (fits : AreShort last) (some : 1 ≤ length last) where
  whole_gate : (file : List ℕ) → file ≡ staged gate 0 these last → file ≡ blocks these ++ gate ∷ (batch 0 last ++ [])
  whole_gate file is = at_gate gate 0 these last end reach ends reaches [] file (is ∙ sym (append-nil (staged gate 0 these last)))

  pub end_crash : (file c : List ℕ) → file ≡ staged gate 0 these last → Torn end (1 ∷ []) file c → HasOrIs these (these ++ last) c
  end_crash file c is torn =
      by (torn_gate (blocks these) (batch 0 last ++ []) gate end ends 1 c (subst (λ f. Torn end (1 ∷ []) f c) (whole_gate file is) torn))
    where
      not : IsWhole (batch 0 last ++ []) → ⊥
      not whole = omega (
        arith,
        (whole_same 0 last (batch 0 last) fits (mixed_all (batch 0 last)) (subst IsWhole (append-nil (batch 0 last)) whole)).0,
      )

      by : (c ≡ blocks these ++ gate ∷ (batch 0 last ++ [])) ⊎ (c ≡ blocks these ++ 1 ∷ (batch 0 last ++ [])) → HasOrIs these (these ++ last) c
      by (inl old) = inl (has_unsynced these (gate ∷ (batch 0 last ++ [])) c short (shut gate (batch 0 last ++ []) differs not) old)
      by (inr new) = inr (opened gate 0 these last end reach ends reaches [] c some new)

  pub end_done : (file c : List ℕ) → file ≡ staged gate 0 these last → IsWritten end (1 ∷ []) file c → c ≡ at_rest (these ++ last)
  end_done file c is written =
      opened gate 0 these last end reach ends reaches [] c some
      (written_gate (blocks these) (batch 0 last ++ []) gate end ends 1 c (subst (λ f. IsWritten end (1 ∷ []) f c) (whole_gate file is) written))

-- ---- a repair

module _ (file : List ℕ) (end reach size : ℕ) (records : List (List ℕ)) (up : UpTo file end reach size records) where
  abbrev front : List (List ℕ)
  front = up.has.front

  abbrev last : List (List ℕ)
  last = up.has.last

  all_reach : reach ≡ end + length (blocks last)
  all_reach =
      omega (arith, up.here, up.reaches, ap length (ap blocks up.has.all ∙ blocks-append front last), length-append (blocks front) (blocks last))

  size_alone : end ≡ reach → size ≡ reach
  size_alone same = by up.keeps
    where
      by : ((end ≡ reach) × (size ≡ reach)) ⊎ ((end ≢ reach) × (size ≡ reach + 1)) → size ≡ reach
      by (inl both) = both.1
      by (inr both) = absurd (both.0 same)

  size_shut : end ≢ reach → size ≡ reach + 1
  size_shut differs = by up.keeps
    where
      by : ((end ≡ reach) × (size ≡ reach)) ⊎ ((end ≢ reach) × (size ≡ reach + 1)) → size ≡ reach + 1
      by (inl both) = absurd (differs both.0)
      by (inr both) = both.1

  -- nothing stands behind the open gates
  module _ (same : end ≡ reach) where
    none : last ≡ []
    none = none_last end reach last all_reach same

    is_front : front ≡ records
    is_front = sym (append-nil front) ∙ ap (λ (l : List (List ℕ)). front ++ l) (sym none) ∙ sym up.has.all

    whole_alone : file ≡ blocks records ++ up.has.end
    whole_alone = up.has.whole ∙ ap (λ (l : List (List ℕ)). blocks l ++ up.has.end) is_front

    short_alone : AreShort records
    short_alone = subst AreShort is_front up.has.short

    unsynced : IsUnsynced up.has.end
    unsynced = by up.has.ends
      where
        by : IsEnd last up.has.end → IsUnsynced up.has.end
        by (inl is) = is.1
        by (inr shut) = absurd (omega (arith, shut.some, ap length none))

    keeps_alone : (c : List ℕ) → Cut size file c → Has records c
    keeps_alone c cut =
        let floor : length (blocks records) ≤ min size (length file) =
        le-min (omega (arith, up.reaches, size_alone same)) (omega (arith, ap length whole_alone, length-append (blocks records) up.has.end)) in
        let k = length c - length (blocks records) in
        has_unsynced records (take k up.has.end) c short_alone (front_unsynced k up.has.end unsynced)
        (sym cut.front ∙ ap (λ (l : List ℕ). take (length c) l) whole_alone
        ∙ take_past (blocks records) up.has.end (length c) k (omega (arith, cut.no_shorter, floor)))

    pub cut_alone : take size file ≡ blocks records
    cut_alone = ap (λ (l : List ℕ). take size l) whole_alone ∙ take_at (blocks records) up.has.end size (omega (arith, up.reaches, size_alone same))

    pub torn_alone : (f c : List ℕ) → f ≡ take size file → Torn reach (2 ∷ []) f c → Has records c
    torn_alone f c is torn =
        let found = torn_behind (2 ∷ []) (blocks records) c reach up.reaches (subst (λ l. Torn reach (2 ∷ []) l c) (is ∙ cut_alone) torn) in
        has_unsynced records (drop reach c) c short_alone (one (drop reach c) found.1) found.0
      where
        one : (left : List ℕ) → IsMixed [] (2 ∷ []) left → IsUnsynced left
        one [] mixed = tt
        one (x ∷ rest) mixed = subst (λ l. IsUnsynced (x ∷ l)) (sym mixed.1) tt

    pub done_alone : (f c : List ℕ) → f ≡ take size file → IsWritten reach (2 ∷ []) f c → c ≡ staged 2 2 records []
    done_alone f c is written = written_behind (2 ∷ []) (blocks records) c reach up.reaches (subst (λ l. IsWritten reach (2 ∷ []) l c) (is ∙ cut_alone) written)

  -- a whole batch stands behind them
  module _ (differs : end ≢ reach) where
    some : 1 ≤ length last
    some = some_last end reach last all_reach differs

    pub shut_end : IsShut last up.has.end
    shut_end = by up.has.ends
      where
        by : IsEnd last up.has.end → IsShut last up.has.end
        by (inl is) = absurd (omega (arith, some, ap length is.0))
        by (inr shut) = shut

    abbrev gate : ℕ
    gate = shut_end.gate

    abbrev kept : List ℕ
    kept = staged gate 2 front last

    whole_shut : file ≡ kept ++ shut_end.more
    whole_shut =
        up.has.whole ∙ ap (λ (l : List ℕ). blocks front ++ l) shut_end.whole
        ∙ sym (append_assoc (blocks front) (gate ∷ batch 2 last) shut_end.more)

    kept_size : size ≡ length kept
    kept_size = size_shut differs ∙ size_is gate 2 front last end reach up.here all_reach

    records_are : (f : List ℕ) → Has (front ++ last) f → Has records f
    records_are f has = subst (λ l. Has l f) (sym up.has.all) has

    keeps_shut : (c : List ℕ) → Cut size file c → Has records c
    keeps_shut c cut =
        let floor : length kept ≤ min size (length file) =
        le-min (omega (arith, kept_size)) (omega (arith, ap length whole_shut, length-append kept shut_end.more)) in
        let k = length c - length kept in
        records_are c (has_shut front last gate (take k shut_end.more) c shut_end.not_open up.has.short shut_end.short
        (at_gate gate 2 front last end reach up.here all_reach (take k shut_end.more) c
        (sym cut.front ∙ ap (λ (l : List ℕ). take (length c) l) whole_shut
        ∙ take_past kept shut_end.more (length c) k (omega (arith, cut.no_shorter, floor)))) some)

    pub cut_shut : take size file ≡ kept
    cut_shut = ap (λ (l : List ℕ). take size l) whole_shut ∙ take_at kept shut_end.more size (sym kept_size)

    last_gate : (f : List ℕ) → f ≡ take size file → f ≡ blocks front ++ gate ∷ (batch 2 last ++ [])
    last_gate f is = at_gate gate 2 front last end reach up.here all_reach [] f (is ∙ cut_shut ∙ sym (append-nil kept))

    all_open : (c : List ℕ) → c ≡ blocks front ++ 1 ∷ (batch 2 last ++ []) → c ≡ staged 2 2 records []
    all_open c is = opened gate 2 front last end reach up.here all_reach [] c some is ∙ ap (λ (l : List (List ℕ)). blocks l ++ 2 ∷ []) (sym up.has.all)

    pub torn_shut : (f c : List ℕ) → f ≡ take size file → Torn end (1 ∷ []) f c → Has records c
    torn_shut f c is torn =
        by (torn_gate (blocks front) (batch 2 last ++ []) gate end up.here 1 c (subst (λ l. Torn end (1 ∷ []) l c) (last_gate f is) torn))
      where
        by : (c ≡ blocks front ++ gate ∷ (batch 2 last ++ [])) ⊎ (c ≡ blocks front ++ 1 ∷ (batch 2 last ++ [])) → Has records c
        by (inl old) = records_are c (has_shut front last gate [] c shut_end.not_open up.has.short shut_end.short old some)
        by (inr new) =
            has_lone records 2 c (subst AreShort (sym up.has.all) (short-append front last up.has.short shut_end.short)) (all_open c new)

    pub done_shut : (f c : List ℕ) → f ≡ take size file → IsWritten end (1 ∷ []) f c → c ≡ staged 2 2 records []
    done_shut f c is written =
        all_open c (written_gate (blocks front) (batch 2 last ++ []) gate end up.here 1 c (subst (λ l. IsWritten end (1 ∷ []) l c) (last_gate f is) written))

  -- any cut keeps the records
  pub cut_keeps : (c : List ℕ) → Cut size file c → Has records c
  cut_keeps c cut = elim (cases_eq end reach) [
    | inl same ↦ keeps_alone same c cut
    | inr differs ↦ keeps_shut differs c cut
  ]

  pub short_all : AreShort records
  short_all = elim (cases_eq end reach) [
    | inl same ↦ short_alone same
    | inr differs ↦ subst AreShort (sym up.has.all) (short-append front last up.has.short (shut_end differs).short)
  ]

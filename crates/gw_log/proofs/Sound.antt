-- What the steps of a call make of the files of a disk.
use Rattle.std.proofs.Common.{◌≡◌, ◌≢◌, inl, inr, ℕ, ◌+◌, ◌≤◌, ◌<◌, ◌^◌, List, [], ◌∷◌, ◌++◌, length, take, get_or, refl, sym, ◌∙◌, ap, subst, arith}
use Rattle.std.specs.Prelude.{Vec}
use Rattle.std.specs.declared.alloc.Global.{Global}
use Rattle.std.proofs.lemmas.Bool.{cases_eq}
use Rattle.std.proofs.lemmas.List.{append-nil, take_more, map-append}
use Rattle.gw_log.specs.Disk.{Files, Changes, IsWritten, Torn, Cut, After, Follows, Only, LeavesOnly}
use Rattle.gw_log.specs.File.{item, body, blocks, batch, AreShort, Has, HasAs, HasEither, HasOrIs}
use Rattle.gw_log.specs.State.{staged, IsStaged, Stands, SegmentState, records_of}
use Rattle.gw_log.specs.own.Steps.{BeginsStaged, HasAdded, UpTo, IsAtRest}
use Rattle.gw_log.proofs.Moments.{only_of, weaker}
use Rattle.gw_log.proofs.Ends.{blocks-append, short-append}
use Rattle.gw_log.proofs.Batches.{batch_size, has_lone, has_shut}
use Rattle.gw_log.proofs.Crash.{first_crash, first_done, still, gate_crash, gate_done, new_end, at_gate, alone, some_last, none_last, end_crash, end_done}
use Rattle.gw_log.proofs.Crash.{torn_alone, torn_shut, short_all}
use Rattle.gw_log.proofs.Ways.{same_has}

-- a file of which nothing is in motion, after a step
pub moved : (number : ℕ) (P : List ℕ → Type 0) (old c : Files) (outcomes : Files → Type 0) (step : List ℕ → List ℕ → Type 0) → Only old outcomes
    → ((f : List ℕ) → step (old number) f → P f) → After number step outcomes c → Changes number P old c
moved number P old c outcomes step only has after = record {
  here = has (c number) (subst (λ f. step f (c number)) (only after.was after.could number) after.moves.here);
  others = λ m differs. after.moves.others m differs ∙ only after.was after.could m;
}

-- a file that had P, after a step
pub moved_on : (number : ℕ) (P Q : List ℕ → Type 0) (old c : Files) (outcomes : Files → Type 0) (step : List ℕ → List ℕ → Type 0)
    → ((d : Files) → outcomes d → Changes number P old d) → ((d f : List ℕ) → P d → step d f → Q f) → After number step outcomes c → Changes number Q old c
moved_on number P Q old c outcomes step all has after =
    let before = all after.was after.could in
    record {
      here = has (after.was number) (c number) before.here after.moves.here;
      others = λ m differs. after.moves.others m differs ∙ before.others m differs;
    }

pub unmoved : (number : ℕ) (P : List ℕ → Type 0) (old c : Files) (outcomes : Files → Type 0) → Only old outcomes → P (old number) → outcomes c → Changes number P old c
unmoved number P old c outcomes only has could = record {
  here = subst P (sym (only c could number)) has;
  others = λ m differs. only c could m;
}

pub changed : (number : ℕ) (P Q : List ℕ → Type 0) (old c : Files) → ((f : List ℕ) → P f → Q f) → Changes number P old c → Changes number Q old c
changed number P Q old c has changes = record { here = has (c number) changes.here; others = changes.others }

-- ---- a batch

-- a file that is staged has its records
pub has_staged : {D : Type 0} (seen : D → Files) (may_leave : D → Files → Type 0) (disk : D) (number end reach : ℕ) (these last : List (List ℕ))
    → IsStaged seen may_leave 2 disk number end reach these last → (file : List ℕ) → file ≡ seen disk number → Has (these ++ last) file
has_staged seen may_leave disk number end reach these last st file is = elim (cases_eq end reach) [
  | inl same ↦ has_lone (these ++ last) st.gate file (short-append these last st.short st.fits)
      (alone st.gate 2 these last end reach st.ends st.reaches [] file (none_last end reach last st.reaches same) whole)
  | inr some ↦ has_shut these last st.gate [] file st.shut st.short st.fits (at_gate st.gate 2 these last end reach st.ends st.reaches [] file whole)
      (some_last end reach last st.reaches some)
]
  where
    whole : file ≡ staged st.gate 2 these last ++ []
    whole = is ∙ st.file ∙ sym (append-nil (staged st.gate 2 these last))

pub has_stands : {D : Type 0} (seen : D → Files) (may_leave : D → Files → Type 0) (s : SegmentState D) (records : List (List ℕ)) → Stands seen may_leave s records
    → (file : List ℕ) → file ≡ seen s.disk s.number → Has records file
has_stands seen may_leave s records st file is =
    subst (λ l. Has l file) (sym st.all) (has_staged seen may_leave s.disk s.number s.end s.reach st.these st.last st.staged file is)

pub has_begun : {D : Type 0} (seen : D → Files) (may_leave : D → Files → Type 0) (disk : D) (number size : ℕ) (records : List (List ℕ))
    → IsStaged seen may_leave 2 disk number 0 size [] records → Has records (seen disk number)
has_begun seen may_leave disk number size records st = has_staged seen may_leave disk number 0 size [] records st (seen disk number) refl

module _ {D : Type 0} (seen : D → Files) (may_leave : D → Files → Type 0) (disk : D) (number end reach : ℕ) (these last : List (List ℕ))
    (st : IsStaged seen may_leave 2 disk number end reach these last) where
  -- the others stay in a step
  stay : (step : List ℕ → List ℕ → Type 0) (then : Files → Type 0) → Follows number step (may_leave disk) then → (c : Files) → then c → (m : ℕ) → m ≢ number
      → c m ≡ seen disk m
  stay step then crash c may m differs = (crash c may).moves.others m differs ∙ st.durable (crash c may).was (crash c may).could m

  module _ (close : ℕ) (more : List (List ℕ)) (few : AreShort more) (bytes : List ℕ) (is : bytes ≡ batch close more) where
    -- before the first write
    pub added_old : (c : Files) → may_leave disk c → Changes number (HasAdded close (these ++ last) more) (seen disk) c
    added_old c could =
        unmoved number (HasAdded close (these ++ last) more) (seen disk) c (may_leave disk) st.durable
        (inl (has_staged seen may_leave disk number end reach these last st (seen disk number) refl)) could

    -- after it
    pub begins_then : (c : Files) → After number (Torn (reach + 1) bytes) (may_leave disk) c → Changes number (BeginsStaged st.gate these last bytes) (seen disk) c
    begins_then c after =
        moved number (BeginsStaged st.gate these last bytes) (seen disk) c (may_leave disk) (Torn (reach + 1) bytes) st.durable
        (λ f torn. first_crash st.gate close these last more end reach st.ends st.reaches st.shut st.short st.fits few bytes (seen disk number) f st.file torn) after

    pub added_then : (c : Files) → After number (Torn (reach + 1) bytes) (may_leave disk) c → Changes number (HasAdded close (these ++ last) more) (seen disk) c
    added_then c after =
        changed number (BeginsStaged st.gate these last bytes) (HasAdded close (these ++ last) more) (seen disk) c
        (λ f begins. still st.gate close these last more end reach st.ends st.reaches st.shut st.short st.fits few bytes f is begins) (begins_then c after)

    -- after the gate
    pub added_gate : (outcomes : Files → Type 0) (c : Files) → end ≢ reach
        → ((d : Files) → outcomes d → Changes number (BeginsStaged st.gate these last bytes) (seen disk) d) → After number (Torn end (1 ∷ [])) outcomes c
        → Changes number (HasAdded close (these ++ last) more) (seen disk) c
    added_gate outcomes c differs all after =
        moved_on number (BeginsStaged st.gate these last bytes) (HasAdded close (these ++ last) more) (seen disk) c outcomes (Torn end (1 ∷ [])) all
        (λ d f begins torn. gate_crash st.gate close these last more end reach st.ends st.reaches st.shut st.short st.fits few bytes d f
        (some_last end reach last st.reaches differs) is begins torn) after

    -- what is there then
    pub added : (new : D) (gate : ℕ) → gate ≢ 1 → seen new number ≡ staged gate close (these ++ last) more
        → ((c : Files) → may_leave new c → (m : ℕ) → m ≢ number → c m ≡ seen disk m)
        → ((m : ℕ) → m ≢ number → seen new m ≡ seen disk m) → ((c : Files) → may_leave new c → c number ≡ seen new number)
        → IsStaged seen may_leave close new number reach (reach + length bytes) (these ++ last) more
    added new gate differs file stays same synced = record {
      gate = gate;
      shut = differs;
      file = file;
      short = short-append these last st.short st.fits;
      fits = few;
      ends = new_end st.gate close these last end reach st.ends st.reaches;
      reaches = omega (arith, ap length is, batch_size close more);
      durable = only_of number (seen disk) (seen new) (may_leave new) stays same synced;
    }

    -- no batch was behind a gate that isn't open
    pub put_alone : (mid new : D) → end ≡ reach
        → Changes number (IsWritten (reach + 1) bytes (seen disk number)) (seen disk) (seen mid)
        → Follows number (Torn (reach + 1) bytes) (may_leave disk) (may_leave mid)
        → seen new ≡ seen mid → ((c : Files) → may_leave new c → may_leave mid c) → ((c : Files) → may_leave new c → c number ≡ seen mid number)
        → IsStaged seen may_leave close new number reach (reach + length bytes) (these ++ last) more
    put_alone mid new same wrote crash seen_is fewer synced =
        added new st.gate st.shut (ap (λ (s : Files). s number) seen_is ∙ file) (λ c may. stay (Torn (reach + 1) bytes) (may_leave mid) crash c (fewer c may))
        (λ m differs. ap (λ (s : Files). s m) seen_is ∙ wrote.others m differs) (λ c may. synced c may ∙ sym (ap (λ (s : Files). s number) seen_is))
      where
        file : seen mid number ≡ staged st.gate close (these ++ last) more
        file =
            alone st.gate 2 these last end reach st.ends st.reaches bytes (seen mid number) (none_last end reach last st.reaches same)
            (first_done st.gate close these last more end reach st.ends st.reaches st.shut st.short st.fits few bytes (seen disk number) (seen mid number) st.file wrote.here)
            ∙ ap (λ (l : List ℕ). blocks (these ++ last) ++ st.gate ∷ l) is

    -- one was
    pub put_both : (mid new : D) → end ≢ reach
        → Changes number (IsWritten (reach + 1) bytes (seen disk number)) (seen disk) (seen mid)
        → Follows number (Torn (reach + 1) bytes) (may_leave disk) (may_leave mid)
        → Changes number (IsWritten end (1 ∷ []) (seen mid number)) (seen mid) (seen new)
        → Follows number (Torn end (1 ∷ [])) (may_leave mid) (may_leave new)
        → ((c : Files) → may_leave new c → c number ≡ seen new number)
        → IsStaged seen may_leave close new number reach (reach + length bytes) (these ++ last) more
    put_both mid new differs first crash second then synced =
        added new 2 (omega arith)
        (gate_done st.gate close these last more end reach st.ends st.reaches st.shut st.short st.fits few bytes (seen mid number) (seen new number)
        (some_last end reach last st.reaches differs)
        (first_done st.gate close these last more end reach st.ends st.reaches st.shut st.short st.fits few bytes (seen disk number) (seen mid number) st.file first.here)
        second.here
        ∙ ap (λ (l : List ℕ). blocks (these ++ last) ++ 2 ∷ l) is)
        (λ c may m other. (then c may).moves.others m other ∙ stay (Torn (reach + 1) bytes) (may_leave mid) crash (then c may).was (then c may).could m other)
        (λ m other. second.others m other ∙ first.others m other) synced

-- nothing more than the records before it, where a gate of 0 stands behind a batch
pub ends_old : (these last : List (List ℕ)) (f : List ℕ) → HasAdded 0 these last f → Has these f
ends_old these last f (inl has) = has
ends_old these last f (inr both) = absurd (omega (arith, both.0))

pub added_either : (these more : List (List ℕ)) (f : List ℕ) → HasAdded 2 these more f → HasEither these (these ++ more) f
added_either these more f (inl has) = inl has
added_either these more f (inr both) = inr both.1

-- ---- a segment

pub secured : {D : Type 0} (seen : D → Files) (may_leave : D → Files → Type 0) (s t : SegmentState D) (records more : List (List ℕ)) (size : ℕ)
    (st : Stands seen may_leave s records) → t.broken ≡ s.broken
    → IsStaged seen may_leave 2 t.disk t.number t.end t.reach (st.these ++ st.last) more → Stands seen may_leave t (records ++ more)
secured seen may_leave s t records more size st same staged = record {
  unbroken = same ∙ st.unbroken;
  these = st.these ++ st.last;
  last = more;
  all = ap (λ (l : List (List ℕ)). l ++ more) st.all;
  staged = staged;
}

pub file_left : {D : Type 0} (seen : D → Files) (may_leave : D → Files → Type 0) (moment : D → ℕ) (left_since : D → ℕ → Files → Type 0) (s : SegmentState D) (new : D)
    (number : ℕ) (records more : List (List ℕ)) (st : Stands seen may_leave s records)
    → LeavesOnly moment left_since s.disk new (Changes number (HasAdded 2 (st.these ++ st.last) more) (seen s.disk))
    → LeavesOnly moment left_since s.disk new (Changes number (HasEither records (records ++ more)) (seen s.disk))
file_left seen may_leave moment left_since s new number records more st run =
    subst (λ l. LeavesOnly moment left_since s.disk new (Changes number (HasEither l (l ++ more)) (seen s.disk))) (sym st.all)
    (weaker moment left_since s.disk new (Changes number (HasAdded 2 (st.these ++ st.last) more) (seen s.disk))
    (Changes number (HasEither (st.these ++ st.last) ((st.these ++ st.last) ++ more)) (seen s.disk))
    (λ c changes. changed number (HasAdded 2 (st.these ++ st.last) more) (HasEither (st.these ++ st.last) ((st.these ++ st.last) ++ more)) (seen s.disk) c
    (added_either (st.these ++ st.last) more) changes) run)

-- nothing was done
pub file_stood : {D : Type 0} (seen : D → Files) (may_leave : D → Files → Type 0) (s : SegmentState D) (records more : List (List ℕ))
    → Stands seen may_leave s records → (c : Files) → may_leave s.disk c → Changes s.number (HasEither records (records ++ more)) (seen s.disk) c
file_stood seen may_leave s records more st c could =
    unmoved s.number (HasEither records (records ++ more)) (seen s.disk) c (may_leave s.disk) st.staged.durable
    (inl (has_stands seen may_leave s records st (seen s.disk s.number) refl)) could

-- ---- the end of a file is opened

module _ {D : Type 0} (seen : D → Files) (may_leave : D → Files → Type 0) (disk : D) (number end reach : ℕ) (these last : List (List ℕ))
    (st : IsStaged seen may_leave 0 disk number end reach these last) (some : 1 ≤ length last) where
  pub is_gate : (c : Files) → After number (Torn end (1 ∷ [])) (may_leave disk) c → Changes number (HasOrIs these (these ++ last)) (seen disk) c
  is_gate c after =
      moved number (HasOrIs these (these ++ last)) (seen disk) c (may_leave disk) (Torn end (1 ∷ [])) st.durable
      (λ f torn. end_crash st.gate these last end reach st.ends st.reaches st.shut st.short st.fits some (seen disk number) f st.file torn) after

  pub settled : (new : D) → Changes number (IsWritten end (1 ∷ []) (seen disk number)) (seen disk) (seen new)
      → Follows number (Torn end (1 ∷ [])) (may_leave disk) (may_leave new) → ((c : Files) → may_leave new c → c number ≡ seen new number)
      → IsAtRest seen may_leave new number (these ++ last)
  settled new wrote crash synced = record {
    file = end_done st.gate these last end reach st.ends st.reaches st.shut st.short st.fits some (seen disk number) (seen new number) st.file wrote.here;
    durable = only_of number (seen disk) (seen new) (may_leave new)
        (λ c may m differs. (crash c may).moves.others m differs ∙ st.durable (crash c may).was (crash c may).could m) wrote.others synced;
  }

pub from_none : {D : Type 0} (seen : D → Files) (may_leave : D → Files → Type 0) (disk : D) (number size : ℕ) (records : List (List ℕ))
    → IsStaged seen may_leave 2 disk number 0 (0 + size) [] records → IsStaged seen may_leave 2 disk number 0 size [] records
from_none seen may_leave disk number size records st =
    let same : 0 + size ≡ size = omega arith in
    subst (λ n. IsStaged seen may_leave 2 disk number 0 n [] records) same st

-- ---- reading and repair

pub as_it_was : (file c : List ℕ) → c ≡ file → HasAs file c
as_it_was file c is records keeps = subst (λ f. Has records f) (sym is) keeps

pub up_has : (file : List ℕ) (end reach size : ℕ) (records : List (List ℕ)) (c : List ℕ) → UpTo file end reach size records → Has records c → HasAs file c
up_has file end reach size records c up has = same_has file c records up.has has

-- a file that has no byte yet
pub none_yet : (file : List ℕ) → file ≡ [] → UpTo file 0 0 0 []
none_yet file is = record {
  has = record { front = []; last = []; end = []; all = refl; whole = is; short = tt; ends = inl (refl, tt) };
  here = refl;
  reaches = refl;
  keeps = inl (refl, refl);
}

pub one_either : (records : List (List ℕ)) (f : List ℕ) → Has [] f → HasEither [] records f
one_either records f has = inl has

-- the file before was another disk's, whose other files were the same
pub since : (number : ℕ) (P : List ℕ → Type 0) (old mid c : Files) → ((m : ℕ) → m ≢ number → mid m ≡ old m) → Changes number P mid c → Changes number P old c
since number P old mid c same changes = record { here = changes.here; others = λ m differs. changes.others m differs ∙ same m differs }

-- ---- records in memory

-- one record more was spelled
pub spelled_more : (xs : List (Vec ℕ Global)) (i : ℕ) (v : Vec ℕ Global) (bytes old new : List ℕ) → i < length xs → v ≡ get_or xs i v → bytes ≡ v.items
    → (old ≡ blocks (records_of (take i xs))) × AreShort (records_of (take i xs)) → new ≡ old ++ (1 ∷ body bytes) → length (item bytes) < 2 ^ 32
    → (new ≡ blocks (records_of (take (i + 1) xs))) × AreShort (records_of (take (i + 1) xs))
spelled_more xs i v bytes old new lt at value so is fits =
    let rs = records_of (take i xs) in
    let more : records_of (take (i + 1) xs) ≡ rs ++ bytes ∷ [] =
    ap records_of (take_more xs i v lt) ∙ map-append (λ (w : Vec ℕ Global). w.items) (take i xs) (get_or xs i v ∷ [])
    ∙ ap (λ (w : Vec ℕ Global). rs ++ w.items ∷ []) (sym at) ∙ ap (λ b. rs ++ b ∷ []) (sym value) in
    let whole : old ++ (1 ∷ body bytes) ≡ blocks (rs ++ bytes ∷ []) =
    ap (λ l. l ++ (1 ∷ body bytes)) so.0 ∙ ap (λ l. blocks rs ++ (1 ∷ l)) (sym (append-nil (body bytes))) ∙ sym (blocks-append rs (bytes ∷ [])) in (
      is ∙ whole ∙ ap blocks (sym more),
      subst AreShort (sym more) (short-append rs (bytes ∷ []) so.1 (fits, tt)),
    )

-- after the cut, a write of one gate
module _ (number end reach size : ℕ) (old seen_cut : Files) (outcomes : Files → Type 0) (records : List (List ℕ)) (then : Files → Type 0) (only : Only old outcomes)
    (up : UpTo (old number) end reach size records) (crash : Follows number (Cut size) outcomes then) (synced : (d : Files) → then d → d number ≡ seen_cut number)
    (cut : Changes number (λ file. file ≡ take size (old number)) old seen_cut) where
  is_cut : (d : Files) → then d → Changes number (λ f. f ≡ take size (old number)) old d
  is_cut d could = record {
    here = synced d could ∙ cut.here;
    others = λ m differs. (crash d could).moves.others m differs ∙ only (crash d could).was (crash d could).could m;
  }

  pub repair_alone : (c : Files) → end ≡ reach → After number (Torn reach (2 ∷ [])) then c → Changes number (Has records) old c
  repair_alone c same after =
      moved_on number (λ f. f ≡ take size (old number)) (Has records) old c then (Torn reach (2 ∷ [])) is_cut
      (λ d f is torn. torn_alone (old number) end reach size records up same d f is torn) after

  pub repair_shut : (c : Files) → end ≢ reach → After number (Torn end (1 ∷ [])) then c → Changes number (Has records) old c
  repair_shut c differs after =
      moved_on number (λ f. f ≡ take size (old number)) (Has records) old c then (Torn end (1 ∷ [])) is_cut
      (λ d f is torn. torn_shut (old number) end reach size records up differs d f is torn) after

pub repaired_so : {D : Type 0} (seen : D → Files) (may_leave : D → Files → Type 0) (old mid new : D) (number at end reach size : ℕ) (bytes : List ℕ) (records : List (List ℕ))
    → Only (seen old) (may_leave old) → UpTo (seen old number) end reach size records
    → Follows number (Cut size) (may_leave old) (may_leave mid) → Changes number (λ file. file ≡ take size (seen old number)) (seen old) (seen mid)
    → Changes number (IsWritten at bytes (seen mid number)) (seen mid) (seen new) → Follows number (Torn at bytes) (may_leave mid) (may_leave new)
    → ((c : Files) → may_leave new c → c number ≡ seen new number) → seen new number ≡ staged 2 2 records []
    → IsStaged seen may_leave 2 new number reach reach records []
repaired_so seen may_leave old mid new number at end reach size bytes records only up crash cut wrote then synced file = record {
  gate = 2;
  shut = omega arith;
  file = file;
  short = short_all (seen old number) end reach size records up;
  fits = tt;
  ends = up.reaches;
  reaches = omega arith;
  durable = only_of number (seen old) (seen new) (may_leave new)
      (λ c may m differs. (then c may).moves.others m differs ∙ (crash (then c may).was (then c may).could).moves.others m differs
      ∙ only (crash (then c may).was (then c may).could).was (crash (then c may).was (then c may).could).could m)
      (λ m differs. wrote.others m differs ∙ cut.others m differs) synced;
}

pub up_changes : (number end reach size : ℕ) (old mid c : Files) (bytes : List ℕ) (records : List (List ℕ)) → bytes ≡ old number → mid ≡ old
    → UpTo bytes end reach size records → Changes number (Has records) mid c → Changes number (HasAs (old number)) old c
up_changes number end reach size old mid c bytes records is seen_is up changes = record {
  here = up_has (old number) end reach size records (c number) (subst (λ f. UpTo f end reach size records) is up) changes.here;
  others = λ m differs. changes.others m differs ∙ ap (λ (s : Files). s m) seen_is;
}

pub as_changes : (number : ℕ) (old c : Files) → Changes number (λ f. f ≡ old number) old c → Changes number (HasAs (old number)) old c
as_changes number old c changes = record { here = as_it_was (old number) (c number) changes.here; others = changes.others }

pub up_as : (number end reach size : ℕ) (old mid : Files) (bytes : List ℕ) (records : List (List ℕ)) → bytes ≡ old number → mid ≡ old
    → UpTo bytes end reach size records → UpTo (mid number) end reach size records
up_as number end reach size old mid bytes records is seen_is up =
    subst (λ f. UpTo f end reach size records) (is ∙ sym (ap (λ (s : Files). s number) seen_is)) up

pub only_same : (old mid : Files) (outcomes : Files → Type 0) → mid ≡ old → Only old outcomes → Only mid outcomes
only_same old mid outcomes is only = subst (λ s. Only s outcomes) (sym is) only

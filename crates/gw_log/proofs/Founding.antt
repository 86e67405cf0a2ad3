-- What is found in a folder when a log is opened.
use Rattle.std.proofs.Common.{◌≡◌, ◌≢◌, inl, inr, ⊎_elim, ℕ, ◌+◌, ◌-◌, ◌<◌, ◌≤◌, List, [], ◌∷◌, ◌++◌, length, refl, sym, ◌∙◌, ap, subst, arith, length-append}
use Rattle.std.specs.Prelude.{Vec, false}
use Rattle.std.specs.declared.alloc.Global.{Global}
use Rattle.std.proofs.lemmas.Bool.{cases_eq, cases_lt}
use Rattle.std.proofs.lemmas.List.{append-nil}
use Rattle.gw_log.specs.Disk.{Files, Only, AreEnds, Changes}
use Rattle.gw_log.specs.File.{Has, HasRecordAt}
use Rattle.gw_log.specs.State.{records_of, SegmentState, IsStaged}
use Rattle.gw_log.specs.Chain.{Head, spelled, AreSome, IsEnded, ended, AreBefore, none, more, IsUnborn, Origin, IsLast, IsLog, LogState, Holds}
use Rattle.gw_log.specs.Opening.{BeginsAs, BeginsBy, IsPlaced, AreLinked, AreOfLast, IsSealed}
use Rattle.gw_log.specs.own.Opens.{Reads, IsTrimmed, IsFound, IsLastOf, IsTop}
use Rattle.gw_log.specs.own.Steps.{UpTo}
use Rattle.gw_log.proofs.Ways.{first_is, one_way}
use Rattle.gw_log.proofs.Logs.{before_le, before_same, no_file}
use Rattle.gw_log.proofs.Placing.{same_numbers, some_there, has_ended, listless}

-- ---- the last file

not_sealed : (records front : List (List ℕ)) → AreSome records → records ≡ front ++ [] ∷ [] → ⊥
not_sealed records [] some is = (subst AreSome is some).0 refl
not_sealed records (r ∷ front) some is = not_sealed (front ++ [] ∷ []) front (subst AreSome is some).1 refl

spelled_some : (h : Head) → spelled h ≢ []
spelled_some h is = omega (arith, ap length is)

pub last_open : (h : Head) (these records : List (List ℕ)) (file : List ℕ) → IsLast h these file → Has records file → IsSealed records → ⊥
last_open h these records file last has sealed =
    not_sealed (spelled h ∷ these) sealed.front (spelled_some h, last.some) (one_way file (spelled h ∷ these) records last.has has ∙ sealed.is)

ended_sealed : (h : Head) (these records : List (List ℕ)) (file : List ℕ) → IsEnded h these file → Has records file → IsSealed records
ended_sealed h these records file is has = record { front = spelled h ∷ these; is = one_way file records (ended h these) has (has_ended h these file is) }

-- each file before the last is ended
pub sealed_at : (id : ℕ) (files : Files) (last : Head) (n f b : ℕ) (front records : List (List ℕ)) (m : ℕ) → n ≤ m → m < last.number
    → AreBefore id files last n f b front → Has records (files m) → IsSealed records
sealed_at id files last n f b _ records m le lt (none _ _ _ fol) has = absurd (omega (arith, le, lt, fol.its_number))
sealed_at id files last n f b _ records m le lt (more _ _ _ h these those fol is rest) has = elim (cases_eq m n) [
  | inl here ↦ ended_sealed h these records (files n) is (subst (λ k. Has records (files k)) here has)
  | inr differs ↦ sealed_at id files last (n + 1) (f + length these) (length (files n)) those records m (omega (arith, le, differs)) lt rest has
]

module _ (id : ℕ) (files : Files) (from : Origin) (head : Head) (records : List (List ℕ)) (log : IsLog id files from head records) (first top : ℕ) (ends : AreEnds first top files) where
  from_le : from.number ≤ head.number
  from_le = before_le id files head from.number from.first from.before log.front log.ended

  pub last_within : (first ≤ head.number) × (head.number ≤ top)
  last_within = ends.within head.number (some_there id files from head records log head.number from_le (omega arith))

  first_within : (first ≤ from.number) × (from.number ≤ top)
  first_within = ends.within from.number (some_there id files from head records log from.number (omega arith) from_le)

  pub least_is : from.number ≡ first
  least_is = elim (cases_lt first from.number) [
    | inl lt ↦ absurd (ends.low (omega (arith, first_within.0, first_within.1)) (log.none_below first lt))
    | inr ge ↦ omega (arith, ge, first_within.0)
  ]

  pub top_near : top ≤ head.number + 1
  top_near = elim (cases_lt (head.number + 1) top) [
    | inl lt ↦ absurd (ends.high (omega (arith, first_within.0, first_within.1)) (log.none_above top lt))
    | inr ge ↦ omega (arith, ge)
  ]

  -- where the file before the top one isn't ended, it is the last
  pub former_last : (former : List (List ℕ)) (end reach size : ℕ) → first < top → UpTo (files (top - 1)) end reach size former → (IsSealed former → ⊥) → head.number ≡ top - 1
  former_last former end reach size lt up not = elim (cases_eq head.number top) [
    | inl is ↦ absurd (not (sealed_at id files head from.number from.first from.before log.front former (top - 1) (omega (arith, lt, least_is))
        (omega (arith, lt, is)) log.ended up.has))
    | inr differs ↦ omega (arith, differs, last_within.1, top_near)
  ]

  -- where it is ended, the top one is
  pub top_behind : (former : List (List ℕ)) (end reach size : ℕ) → first < top → UpTo (files (top - 1)) end reach size former → IsSealed former → head.number ≡ top
  top_behind former end reach size lt up sealed = elim (cases_eq head.number top) [
    | inl is ↦ is
    | inr differs ↦
        let here : top - 1 ≡ head.number = omega (arith, differs, last_within.1, top_near) in
        absurd (last_open head log.these former (files head.number) log.last (subst (λ k. Has former (files k)) here up.has) sealed)
  ]

  -- so it is where there is no other
  pub top_alone : (first < top → ⊥) → head.number ≡ top
  top_alone alone = elim (cases_lt first top) [
    | inl lt ↦ absurd (alone lt)
    | inr ge ↦ omega (arith, ge, last_within.0, last_within.1)
  ]

  -- and where it has more than a head
  pub top_long : (rows : List (List ℕ)) (end reach size : ℕ) → 1 < length rows → UpTo (files top) end reach size rows → head.number ≡ top
  top_long rows end reach size long up = elim (cases_eq head.number top) [
    | inl is ↦ is
    | inr differs ↦
        let here : top ≡ head.number + 1 = omega (arith, differs, last_within.1, top_near) in
        let same = one_way (files (head.number + 1)) rows log.unborn.records (subst (λ k. Has rows (files k)) here up.has) log.unborn.has in
        absurd (omega (arith, long, ap length same, log.unborn.at_most))
  ]

  pub found_so : (number f b o : ℕ) → head.number ≡ number → BeginsAs id number f b o (files number)
      → IsFound from head number f o first
  found_so number f b o is begins =
      let file = files head.number in
      let begun : HasRecordAt 0 (spelled begins.head) file = subst (λ k. HasRecordAt 0 (spelled begins.head) (files k)) (sym is) begins.here in
      let g = begins.head in
      let numbers = same_numbers g head begins.wide log.last.wide (first_is (spelled g) (spelled head) log.these file begun log.last.has) in
      record {
        its_number = is;
        its_first = sym numbers.1 ∙ begins.its_first;
        its_keep = sym numbers.3 ∙ begins.its_keep;
        its_least = least_is;
      }

-- the head of the first file says how many records stand before it
pub first_counts : (id : ℕ) (files : Files) (last : Head) (these : List (List ℕ)) (n f b : ℕ) (front : List (List ℕ)) → IsLast last these (files last.number)
    → AreBefore id files last n f b front → (g before keep : ℕ) → BeginsAs id n g before keep (files n) → g ≡ f
first_counts id files last these n f b _ is (none _ _ _ fol) g before keep begins =
    let has = subst (λ k. Has (spelled last ∷ these) (files k)) fol.its_number is.has in
    let same = same_numbers begins.head last begins.wide is.wide (first_is (spelled begins.head) (spelled last) these (files n) begins.here has) in
    sym begins.its_first ∙ same.1 ∙ fol.its_first
first_counts id files last these n f b _ is (more _ _ _ h some those fol here rest) g before keep begins =
    let has = has_ended h some (files n) here in
    let same = same_numbers begins.head h begins.wide here.wide (first_is (spelled begins.head) (spelled h) (some ++ [] ∷ []) (files n) begins.here has) in
    sym begins.its_first ∙ same.1 ∙ fol.its_first

-- ---- the records of the last file

-- how many records stand before the last file
counted : (id : ℕ) (files : Files) (last : Head) (n f b : ℕ) (front : List (List ℕ)) → AreBefore id files last n f b front → last.first ≡ f + length front
counted id files last n f b _ (none _ _ _ fol) = omega (arith, fol.its_first)
counted id files last n f b _ (more _ _ _ h these those fol is rest) =
    let there = counted id files last (n + 1) (f + length these) (length (files n)) those rest in
    omega (arith, there, length-append these those)

pub of_last : (id : ℕ) (files : Files) (from : Origin) (head : Head) (records : List (List ℕ)) → IsLog id files from head records → (number : ℕ) (rows : List (List ℕ))
    → head.number ≡ number → Has rows (files number) → AreOfLast from head records rows
of_last id files from head records log number rows is has = record {
  front = log.front;
  rest = log.these;
  rows_are = one_way (files head.number) rows (spelled head ∷ log.these) (subst (λ k. Has rows (files k)) (sym is) has) log.last.has;
  split = log.all;
  place = counted id files head from.number from.first from.before log.front log.ended;
}

-- ---- what a crash leaves

module _ (id : ℕ) (files : Files) (from : Origin) (head : Head) (records : List (List ℕ)) (log : IsLog id files from head records) where
  reach : from.number ≤ head.number
  reach = before_le id files head from.number from.first from.before log.front log.ended

  -- where the files before the last are the same, the last has the same, and none is born behind it, it is the same log
  pub log_moved : (c : Files) → ((m : ℕ) → m < head.number → c m ≡ files m) → Has (spelled head ∷ log.these) (c head.number)
      → IsUnborn (c (head.number + 1)) → ((m : ℕ) → head.number + 1 < m → c m ≡ []) → IsLog id c from head records
  log_moved c same has unborn above = record {
    front = log.front;
    these = log.these;
    ended = before_same id files c head from.number from.first from.before log.front same log.ended;
    last = record { wide = log.last.wide; some = log.last.some; has = has };
    all = log.all;
    there = log.there;
    none_below = λ m lt. same m (omega (arith, lt, reach)) ∙ log.none_below m lt;
    unborn = unborn;
    none_above = above;
  }

  pub log_same : (c : Files) → ((m : ℕ) → c m ≡ files m) → IsLog id c from head records
  log_same c same =
      log_moved c (λ m lt. same m) (subst (λ f. Has (spelled head ∷ log.these) f) (sym (same head.number)) log.last.has)
      (subst IsUnborn (sym (same (head.number + 1))) log.unborn) (λ m lt. same m ∙ log.none_above m lt)

  module _ (last top : ℕ) (is : head.number ≡ last) (at : IsTop files last top) where
    pub log_trimmed : (c : Files) → IsTrimmed last top files c → IsLog id c from head records
    log_trimmed c trimmed = ⊎_elim kept gone trimmed.here
      where
        kept : c top ≡ files top → IsLog id c from head records
        kept same = log_same c (λ m. elim (cases_eq m top) [
          | inl here ↦ subst (λ k. c k ≡ files k) (sym here) same
          | inr differs ↦ trimmed.others m differs
        ])

        gone : (top ≢ last) × (c top ≡ []) → IsLog id c from head records
        gone both =
            let next : head.number + 1 ≡ top = omega (arith, is, both.0, at.low, at.high) in
            log_moved c (λ m lt. trimmed.others m (λ here. omega (arith, here, lt, next)))
            (subst (λ f. Has (spelled head ∷ log.these) f) (sym (trimmed.others head.number (λ here. omega (arith, here, next)))) log.last.has)
            (no_file (c (head.number + 1)) (ap (λ (k : ℕ). c k) next ∙ both.1))
            (λ m lt. trimmed.others m (λ here. omega (arith, here, next, lt)) ∙ log.none_above m lt)

    -- the end of the last file is repaired, once the other is gone
    pub log_repaired : (mid c : Files) (rows : List (List ℕ)) → ((m : ℕ) → m ≢ top → mid m ≡ files m) → (top ≢ last → mid top ≡ []) → Has rows (files last)
        → Changes last (Has rows) mid c → IsLog id c from head records
    log_repaired mid c rows others gone has changes =
        let rows_are = one_way (files head.number) rows (spelled head ∷ log.these) (subst (λ k. Has rows (files k)) (sym is) has) log.last.has in
        log_moved c
        (λ m lt. changes.others m (λ here. omega (arith, here, lt, is)) ∙ others m (λ here. omega (arith, here, lt, is, at.low)))
        (subst (λ k. Has (spelled head ∷ log.these) (c k)) (sym is) (subst (λ l. Has l (c last)) rows_are changes.here))
        (no_file (c (head.number + 1)) (clear (head.number + 1) (omega (arith, is))))
        (λ m lt. clear m (omega (arith, lt, is)))
      where
        clear : (m : ℕ) → last < m → c m ≡ []
        clear m lt = elim (cases_eq m top) [
          | inl here ↦ changes.others m (λ same. omega (arith, same, lt)) ∙ ap (λ (k : ℕ). mid k) here ∙ gone (λ same. omega (arith, same, here, lt))
          | inr differs ↦ changes.others m (λ same. omega (arith, same, lt)) ∙ others m differs ∙ at.none m (omega (arith, lt, differs, at.high))
        ]

-- ---- what was read before a step, of what is there after it

pub up_same : (f g : Files) (n end reach size : ℕ) (rows : List (List ℕ)) → f ≡ g → UpTo (f n) end reach size rows → UpTo (g n) end reach size rows
up_same f g n end reach size rows is up = subst (λ (h : Files). UpTo (h n) end reach size rows) is up

pub begins_same : (id n a b o : ℕ) (f g : Files) → f ≡ g → BeginsAs id n a b o (f n) → BeginsAs id n a b o (g n)
begins_same id n a b o f g is begins = subst (λ (h : Files). BeginsAs id n a b o (h n)) is begins

pub last_same : (first top n : ℕ) (f g : Files) → f ≡ g → IsLastOf first top n f → IsLastOf first top n g
last_same first top n f g is last = subst (IsLastOf first top n) is last

pub top_so : (first top n : ℕ) (files : Files) → AreEnds first top files → n ≤ top → top ≤ n + 1 → IsTop files n top
top_so first top n files ends low high = record {
  low = low;
  high = high;
  none = λ m lt. listless (files m) (λ some. let within = ends.within m some in omega (arith, within.1, lt));
}

pub sealed_as : (a b : List (Vec ℕ Global)) → a ≡ b → IsSealed (records_of a) → IsSealed (records_of b)
sealed_as a b is sealed = subst (λ l. IsSealed (records_of l)) is sealed

pub only_read : {D : Type 0} (seen : D → Files) (may_leave : D → Files → Type 0) (moment : D → ℕ) (left_since : D → ℕ → Files → Type 0) (honest : D → Type 0) (old new : D)
    → Reads seen may_leave moment left_since honest old new → Only (seen old) (may_leave old) → Only (seen new) (may_leave new)
only_read seen may_leave moment left_since honest old new reads only c may m = only c (reads.crash c may) m ∙ sym (ap (λ (f : Files). f m) reads.same)

pub trimmed_as : (last top : ℕ) (f g c : Files) → f ≡ g → IsTrimmed last top f c → IsTrimmed last top g c
trimmed_as last top f g c is trimmed = subst (λ h. IsTrimmed last top h c) is trimmed

pub last_kept : (last top : ℕ) (files was mid : Files) → was ≡ files → ((m : ℕ) → m ≢ top → mid m ≡ was m) → (top ≡ last → mid top ≡ was top) → files last ≡ mid last
last_kept last top files was mid is others kept = sym (elim (cases_eq last top) [
  | inl here ↦ subst (λ k. mid k ≡ was k) (sym here) (kept (sym here))
  | inr differs ↦ others last differs
] ∙ ap (λ (f : Files). f last) is)

-- ---- the log

module _ {D : Type 0} (seen : D → Files) (may_leave : D → Files → Type 0) (id : ℕ) (base : Files) (from : Origin) (head : Head) (records : List (List ℕ)) (log : IsLog id base from head records)
    (disk : D) (number end first keep least count : ℕ) where
  abbrev at : SegmentState D
  at = record { disk = disk; number = number; end = end; reach = end; broken = false }

  abbrev over : SegmentState D → LogState D
  over segment = record { segment = segment; id = id; first = first; count = count; keep = keep; least = least }

  pub opened : (s : SegmentState D) (rows : List (List ℕ)) → s ≡ at → Has rows (base number) → IsFound from head number first keep least
      → IsStaged seen may_leave 2 disk number end end rows [] → ((m : ℕ) → m < number → seen disk m ≡ base m) → ((m : ℕ) → number < m → seen disk m ≡ [])
      → count ≡ length rows - 1 → Holds seen may_leave (over s) from head records
  opened s rows is has found staged below above count_is =
      let rows_are = one_way (base head.number) rows (spelled head ∷ log.these) (subst (λ k. Has rows (base k)) (sym found.its_number) has) log.last.has in
      let low : from.number ≤ number = omega (arith, reach id base from head records log, found.its_number) in
      subst (λ t. Holds seen may_leave (over t) from head records) (sym is) (record {
        front = log.front;
        these = log.these;
        ended = before_same id base (seen disk) head from.number from.first from.before log.front (λ m lt. below m (omega (arith, lt, found.its_number))) log.ended;
        wide = log.last.wide;
        some = log.last.some;
        stands = record {
          unbroken = refl;
          these = rows;
          last = [];
          all = sym rows_are ∙ sym (append-nil rows);
          staged = staged;
        };
        number = found.its_number;
        all = log.all;
        there = log.there;
        none_below = λ m lt. below m (omega (arith, lt, low)) ∙ log.none_below m lt;
        none_above = λ m lt. above m (omega (arith, lt, found.its_number));
        first = found.its_first;
        count = omega (arith, count_is, ap length rows_are);
        keep = found.its_keep;
        least = found.its_least;
      })

pub none_behind : (files : Files) (last top : ℕ) → IsTop files last top → (n : ℕ) → last + 1 < n → files n ≡ []
none_behind files last top at n lt = at.none n (omega (arith, lt, at.high))

pub head_at : (id n k first before keep : ℕ) (files : Files) → n ≡ k → BeginsAs id k first before keep (files k)
    → (length_before : ℕ) × BeginsAs id n first length_before keep (files n)
head_at id n k first before keep files is begins = (before, subst (λ m. BeginsAs id m first before keep (files m)) (sym is) begins)

-- one file more is linked
pub link_more : (id first n : ℕ) (files : Files) → AreLinked id files first n → IsPlaced id (n + 1) (length (files n)) (files (n + 1)) → AreLinked id files first (n + 1)
link_more id first n files linked placed = record {
  before = linked.before;
  start = linked.start;
  next = λ k low lt. elim (cases_eq k n) [
    | inl is ↦ subst (λ j. IsPlaced id (j + 1) (length (files j)) (files (j + 1))) (sym is) placed
    | inr differs ↦ linked.next k low (omega (arith, lt, differs))
  ];
}

pub placed_so : (id n first before keep size : ℕ) (files : Files) → BeginsAs id (n + 1) first before keep (files (n + 1)) → before ≡ size → size ≡ length (files n)
    → IsPlaced id (n + 1) (length (files n)) (files (n + 1))
placed_so id n first before keep size files begins is long = record {
  first = first;
  keep = keep;
  begins = subst (λ b. BeginsAs id (n + 1) first b keep (files (n + 1))) (is ∙ long) begins;
}

-- the first file of those that are linked
pub begins_by : (id n first before keep place : ℕ) (file : List ℕ) → BeginsAs id n first before keep file → first ≤ place → BeginsBy id n place file
begins_by id n first before keep place file begins le = record { first = first; before = before; keep = keep; begins = begins; within = le }

pub by_same : (id n place : ℕ) (f g : Files) → f ≡ g → BeginsBy id n place (f n) → BeginsBy id n place (g n)
by_same id n place f g is begins = subst (λ (h : Files). BeginsBy id n place (h n)) is begins

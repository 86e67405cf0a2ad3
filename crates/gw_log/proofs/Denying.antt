-- A folder that is reported damaged is no log.
use Rattle.std.proofs.Common.{◌≡◌, inl, inr, ℕ, ◌+◌, ◌-◌, ◌<◌, ◌≤◌, List, ◌∷◌, length, drop, refl, sym, ◌∙◌, ap, subst, arith, Result, Ok, Err, IsErr, IsErrAnd, IsErrOf}
use Rattle.std.proofs.lemmas.Bool.{cases_eq}
use Rattle.gw_log.specs.Disk.{Files, AreEnds}
use Rattle.gw_log.specs.File.{Has, HasNoRecord, HasRecordAt, IsDamagedAt}
use Rattle.gw_log.specs.Chain.{Head, spelled, IsWide, ended, AreBefore, none, more, Origin, IsLog, IsNoLog, HasHead}
use Rattle.gw_log.specs.Opening.{BeginsAs, IsSealed}
use Rattle.gw_log.specs.Opening.{IsOnlyOf}
use Rattle.gw_log.specs.own.Opens.{HasNoHead, IsHeadedBy, IsNoLogOf, IsNoLogUpTo}
use Rattle.gw_log.specs.own.Steps.{UpTo}
use Rattle.gw_log.proofs.Ways.{first_there, first_is, not_both}
use Rattle.gw_log.proofs.Placing.{same_numbers, first_of, next_of, has_ended}
use Rattle.gw_log.proofs.Founding.{first_counts, last_within, top_near, least_is, last_open}

-- the record at a file's front is its head
same_first : (id n b : ℕ) (bytes file : List ℕ) (h : HasHead id n b file) → HasRecordAt 0 bytes file → bytes ≡ spelled h.head
same_first id n b bytes file h here = first_is bytes (spelled h.head) h.records file here h.has

pub no_record_there : (id n : ℕ) (file : List ℕ) → HasNoRecord (drop 0 file) → HasNoHead id n file
no_record_there id n file bare b h =
    let it = first_there (spelled h.head) h.records file h.has in bare it.gate (spelled h.head) it.more it.short it.whole

pub no_head_there : (id n : ℕ) (read bytes file : List ℕ) → HasRecordAt 0 bytes file → read ≡ bytes → length read < 40 → HasNoHead id n file
no_head_there id n read bytes file here is short b h = omega (arith, short, ap length is, ap length (same_first id n b bytes file h here))

pub other_there : (id n : ℕ) (g : Head) (read bytes file : List ℕ) → HasRecordAt 0 bytes file → read ≡ bytes → read ≡ spelled g → IsWide g
    → (g.number ≡ n → g.id ≡ id → ⊥) → HasNoHead id n file
other_there id n g read bytes file here is spells wide differs b h =
    let same = same_numbers g h.head wide h.wide (sym spells ∙ is ∙ same_first id n b bytes file h here) in
    differs (same.0 ∙ h.its_number) (same.4 ∙ h.its_id)

-- a head of the file is one of the log whose head was read
pub headed_by : (g : Head) (read bytes file : List ℕ) → HasRecordAt 0 bytes file → read ≡ bytes → read ≡ spelled g → IsWide g → IsHeadedBy g.id file
headed_by g read bytes file here is spells wide other n b h =
    let same = same_numbers g h.head wide h.wide (sym spells ∙ is ∙ same_first other n b bytes file h here) in
    sym (same.4 ∙ h.its_id)

before_is : (id n b f before o : ℕ) (file : List ℕ) → HasHead id n b file → BeginsAs id n f before o file → before ≡ b
before_is id n b f before o file h begins =
    let same = same_numbers begins.head h.head begins.wide h.wide (same_first id n b (spelled begins.head) file h begins.here) in
    sym begins.its_before ∙ same.2 ∙ h.its_before

-- ---- the heads

module _ (id : ℕ) (files : Files) (from : Origin) (head : Head) (records : List (List ℕ)) (log : IsLog id files from head records) (first last : ℕ) (start : from.number ≡ first)
    (end : head.number ≡ last) where
  pub first_has : HasNoHead id first (files first) → ⊥
  first_has not = not from.before (subst (λ k. HasHead id k from.before (files k)) start (first_of id files from head records log))

  pub next_has : (n : ℕ) → first ≤ n → n < last → HasNoHead id (n + 1) (files (n + 1)) → ⊥
  next_has n le lt not = not (length (files n)) (next_of id files from head records log n (omega (arith, le, start)) (omega (arith, lt, end)))

  pub size_is : (n f before o : ℕ) → first ≤ n → n < last → BeginsAs id (n + 1) f before o (files (n + 1)) → before ≡ length (files n)
  size_is n f before o le lt begins =
      before_is id (n + 1) (length (files n)) f before o (files (n + 1)) (next_of id files from head records log n (omega (arith, le, start)) (omega (arith, lt, end))) begins

  pub keep_is : (n f before o g b p : ℕ) → n ≡ last → BeginsAs id n f before o (files n) → BeginsAs id first g b p (files first) → o < g → ⊥
  keep_is n f before o g b p is begins opens lt =
      let its : HasHead head.id head.number head.before (files head.number) = record {
        head = head;
        records = log.these;
        wide = log.last.wide;
        has = log.last.has;
        its_id = refl;
        its_number = refl;
        its_before = refl;
      } in
      let here = subst (λ k. HasRecordAt 0 (spelled begins.head) (files k)) (is ∙ sym end) begins.here in
      let same = same_numbers begins.head head begins.wide log.last.wide
      (same_first head.id head.number head.before (spelled begins.head) (files head.number) its here) in
      let counts = first_counts id files head log.these from.number from.first from.before log.front log.last log.ended g b p
      (subst (λ k. BeginsAs id k g b p (files k)) (sym start) opens) in
      omega (arith, lt, begins.its_keep, same.3, log.there, counts)

-- by the head of the first file
pub only_of : (id first last : ℕ) (files : Files) → AreEnds first last files → IsHeadedBy id (files first) → IsOnlyOf id files
only_of id first last files ends by other from head records log =
    let least = least_is other files from head records log first last ends in
    by other from.number from.before (subst (λ k. HasHead other from.number from.before (files k)) least (first_of other files from head records log))

pub none_of : (first last : ℕ) (files : Files) → AreEnds first last files → ((id n : ℕ) → HasNoHead id n (files first)) → (id : ℕ) → IsNoLog id files
none_of first last files ends not id from head records log =
    let least = least_is id files from head records log first last ends in
    not id from.number from.before (subst (λ k. HasHead id from.number from.before (files k)) least (first_of id files from head records log))

-- ---- the last file

-- each file before the last has records
has_at : (id : ℕ) (files : Files) (last : Head) (n f b at : ℕ) (front : List (List ℕ)) (m : ℕ) → n ≤ m → m < last.number
    → AreBefore id files last n f b front → IsDamagedAt at (files m) → ⊥
has_at id files last n f b at _ m le lt (none _ _ _ fol) damage = absurd (omega (arith, le, lt, fol.its_number))
has_at id files last n f b at _ m le lt (more _ _ _ h these those fol is rest) damage = elim (cases_eq m n) [
  | inl here ↦ not_both (files n) (ended h these) at (has_ended h these (files n) is) (subst (λ k. IsDamagedAt at (files k)) here damage)
  | inr differs ↦ has_at id files last (n + 1) (f + length these) (length (files n)) at those m (omega (arith, le, differs)) lt rest damage
]

module _ (id : ℕ) (files : Files) (from : Origin) (head : Head) (records : List (List ℕ)) (log : IsLog id files from head records) (first top : ℕ) (ends : AreEnds first top files) where
  at_last : (at n : ℕ) → n ≡ head.number → IsDamagedAt at (files n) → ⊥
  at_last at n is damage =
      not_both (files head.number) (spelled head ∷ log.these) at log.last.has (subst (λ k. IsDamagedAt at (files k)) is damage)

  pub top_whole : (at : ℕ) → IsDamagedAt at (files top) → ⊥
  top_whole at damage = elim (cases_eq top head.number) [
    | inl is ↦ at_last at top is damage
    | inr differs ↦
        let next : top ≡ head.number + 1 = omega (arith, differs, (last_within id files from head records log first top ends).1, top_near id files from head records log first top ends) in
        not_both (files (head.number + 1)) log.unborn.records at log.unborn.has (subst (λ k. IsDamagedAt at (files k)) next damage)
  ]

  pub former_whole : (at : ℕ) → first < top → IsDamagedAt at (files (top - 1)) → ⊥
  former_whole at lt damage = elim (cases_eq top head.number) [
    | inl is ↦ has_at id files head from.number from.first from.before at log.front (top - 1)
        (omega (arith, lt, least_is id files from head records log first top ends)) (omega (arith, lt, is)) log.ended damage
    | inr differs ↦
        at_last at (top - 1) (omega (arith, differs, (last_within id files from head records log first top ends).1, top_near id files from head records log first top ends)) damage
  ]

  pub last_is_open : (rows : List (List ℕ)) (end reach size : ℕ) → head.number ≡ top → UpTo (files top) end reach size rows → IsSealed rows → ⊥
  last_is_open rows end reach size is up sealed =
      last_open head log.these rows (files head.number) log.last (subst (λ k. Has rows (files k)) (sym is) up.has) sealed

-- ---- what was read before a step, of what is there after it

pub no_head_same : (id n : ℕ) (f g : Files) → f ≡ g → HasNoHead id n (f n) → HasNoHead id n (g n)
no_head_same id n f g is denied = subst (λ (h : Files). HasNoHead id n (h n)) is denied

pub headed_same : (id n : ℕ) (f g : Files) → f ≡ g → IsHeadedBy id (f n) → IsHeadedBy id (g n)
headed_same id n f g is by = subst (λ (h : Files). IsHeadedBy id (h n)) is by

pub unheaded_same : (k : ℕ) (f g : Files) → f ≡ g → ((id n : ℕ) → HasNoHead id n (f k)) → (id n : ℕ) → HasNoHead id n (g k)
unheaded_same k f g is denied = subst (λ (h : Files). (id n : ℕ) → HasNoHead id n (h k)) is denied

pub damaged_same : (at n : ℕ) (f g : Files) → f ≡ g → IsDamagedAt at (f n) → IsDamagedAt at (g n)
damaged_same at n f g is damage = subst (λ (h : Files). IsDamagedAt at (h n)) is damage

pub none_of_same : (id first last : ℕ) (f g : Files) → f ≡ g → IsNoLogOf id first last f → IsNoLogOf id first last g
none_of_same id first last f g is denied = subst (λ (h : Files). IsNoLogOf id first last h) is denied

pub none_up_same : (first top : ℕ) (f g : Files) → f ≡ g → IsNoLogUpTo first top f → IsNoLogUpTo first top g
none_up_same first top f g is denied = subst (λ (h : Files). IsNoLogUpTo first top h) is denied

-- what a call answers where a `?` hands its fault on
pub handed_on : {T U E : Type 0} (r : Result U E) (e d : E) → IsErr r × IsErrAnd r (λ f. f ≡ e) → IsErrOf r d → IsErrOf {T = T} (Err e) d
handed_on (Ok u) e d both is = absurd both.1
handed_on {E = E} (Err f) e d both is =
    let same : f ≡ d = cc (is) in
    ap (λ (x : E). Err x) (sym both.1 ∙ same)

-- The files of a log are known by their heads.
use Rattle.std.proofs.Common.{◌≡◌, ◌≢◌, inl, inr, ℕ, zero, suc, ◌+◌, ◌<◌, ◌≤◌, ◌^◌, List, [], ◌∷◌, ◌++◌, length, refl, sym, ◌∙◌, ap, subst, arith}
use Rattle.std.specs.Int.{w64, to_be_bytes, from_be_bytes}
use Rattle.std.proofs.lemmas.Nat.{from_be_bytes-to_be_bytes_8}
use Rattle.std.proofs.lemmas.Bool.{cases_eq, cases_lt}
use Rattle.gw_log.specs.Disk.{Files, AreEnds}
use Rattle.gw_log.specs.File.{Has}
use Rattle.gw_log.specs.State.{Stands}
use Rattle.gw_log.specs.Chain.{Head, spelled, IsWide, IsEnded, ended, AreBefore, none, more, Origin, IsLast, IsLog, LogState, Holds, HasHead, first_head, beginning}
use Rattle.gw_log.proofs.Batches.{has_lone}
use Rattle.gw_log.proofs.Ways.{fronts, one_way, first_there}

-- ---- a file has one head

one_number : (n m : ℕ) → n < 2 ^ 64 → m < 2 ^ 64 → to_be_bytes w64 n ≡ to_be_bytes w64 m → n ≡ m
one_number n m wide fits same = sym (from_be_bytes-to_be_bytes_8 n wide) ∙ ap (from_be_bytes w64) same ∙ from_be_bytes-to_be_bytes_8 m fits

split : (n m : ℕ) (x y : List ℕ) → to_be_bytes w64 n ++ x ≡ to_be_bytes w64 m ++ y → (to_be_bytes w64 n ≡ to_be_bytes w64 m) × (x ≡ y)
split n m x y same = fronts 8 (to_be_bytes w64 n) (to_be_bytes w64 m) x y refl refl same

first_same : (a b : List ℕ) (xs ys : List (List ℕ)) → a ∷ xs ≡ b ∷ ys → a ≡ b
first_same a b xs ys same = cc (same)

-- and so is each of its numbers
pub same_numbers : (g h : Head) → IsWide g → IsWide h → spelled g ≡ spelled h → (g.number ≡ h.number) × (g.first ≡ h.first) × (g.before ≡ h.before) × (g.keep ≡ h.keep) × (g.id ≡ h.id)
same_numbers g h wide fits same =
    let s1 = split g.number h.number _ _ same in
    let s2 = split g.first h.first _ _ s1.1 in
    let s3 = split g.before h.before _ _ s2.1 in
    let s4 = split g.keep h.keep _ _ s3.1 in
    let s5 = split g.id h.id _ _ s4.1 in (
      one_number g.number h.number wide.its_number fits.its_number s1.0,
      one_number g.first h.first wide.its_first fits.its_first s2.0,
      one_number g.before h.before wide.its_before fits.its_before s3.0,
      one_number g.keep h.keep wide.its_keep fits.its_keep s4.0,
      one_number g.id h.id wide.its_id fits.its_id s5.0,
    )

-- a head is its numbers and its checkpoint
abbrev pub head_from : (number first before keep id : ℕ) → List ℕ → Head
head_from number first before keep id checkpoint =
    record { number = number; first = first; before = before; keep = keep; id = id; checkpoint = checkpoint }

pub same_heads : (g h : Head) → IsWide g → IsWide h → spelled g ≡ spelled h → g ≡ h
same_heads g h wide fits same =
    let are = same_numbers g h wide fits same in
    let s1 = split g.number h.number _ _ same in
    let s2 = split g.first h.first _ _ s1.1 in
    let s3 = split g.before h.before _ _ s2.1 in
    let s4 = split g.keep h.keep _ _ s3.1 in
    let s5 = split g.id h.id _ _ s4.1 in
    ap (λ (n : ℕ). head_from n g.first g.before g.keep g.id g.checkpoint) are.0
    ∙ ap (λ (n : ℕ). head_from h.number n g.before g.keep g.id g.checkpoint) are.1
    ∙ ap (λ (n : ℕ). head_from h.number h.first n g.keep g.id g.checkpoint) are.2
    ∙ ap (λ (n : ℕ). head_from h.number h.first h.before n g.id g.checkpoint) are.3
    ∙ ap (λ (n : ℕ). head_from h.number h.first h.before h.keep n g.checkpoint) are.4
    ∙ ap (λ (l : List ℕ). head_from h.number h.first h.before h.keep h.id l) s5.1

pub one_headed : (id other n m b c : ℕ) (file : List ℕ) → HasHead id n b file → HasHead other m c file → (id ≡ other) × (n ≡ m) × (b ≡ c)
one_headed id other n m b c file these those =
    let g = these.head in
    let h = those.head in
    let same = first_same (spelled g) (spelled h) these.records those.records (one_way file (spelled g ∷ these.records) (spelled h ∷ those.records) these.has those.has) in
    let s1 = split g.number h.number _ _ same in
    let s2 = split g.first h.first _ _ s1.1 in
    let s3 = split g.before h.before _ _ s2.1 in
    let s4 = split g.keep h.keep _ _ s3.1 in
    let s5 = split g.id h.id _ _ s4.1 in (
      sym these.its_id ∙ one_number g.id h.id these.wide.its_id those.wide.its_id s5.0 ∙ those.its_id,
      sym these.its_number ∙ one_number g.number h.number these.wide.its_number those.wide.its_number s1.0 ∙ those.its_number,
      sym these.its_before ∙ one_number g.before h.before these.wide.its_before those.wide.its_before s3.0 ∙ those.its_before,
    )

-- ---- each in its place

pub has_ended : (h : Head) (records : List (List ℕ)) (file : List ℕ) → IsEnded h records file → Has (ended h records) file
has_ended h records file is = has_lone (ended h records) 0 file is.short is.whole

first_place : (id : ℕ) (files : Files) (last : Head) (these : List (List ℕ)) (n f b : ℕ) (records : List (List ℕ)) → IsLast last these (files last.number)
    → AreBefore id files last n f b records → HasHead id n b (files n)
first_place id files last these n f b _ is (none _ _ _ fol) = record {
  head = last;
  records = these;
  wide = is.wide;
  has = subst (λ k. Has (spelled last ∷ these) (files k)) fol.its_number is.has;
  its_id = fol.its_id;
  its_number = fol.its_number;
  its_before = fol.its_before;
}
first_place id files last these n f b _ is (more _ _ _ h some those fol here rest) = record {
  head = h;
  records = some ++ [] ∷ [];
  wide = here.wide;
  has = has_ended h some (files n) here;
  its_id = fol.its_id;
  its_number = fol.its_number;
  its_before = fol.its_before;
}

next_place : (id : ℕ) (files : Files) (last : Head) (these : List (List ℕ)) (n f b : ℕ) (records : List (List ℕ)) → IsLast last these (files last.number)
    → AreBefore id files last n f b records → (m : ℕ) → n ≤ m → m < last.number → HasHead id (m + 1) (length (files m)) (files (m + 1))
next_place id files last these n f b _ is (none _ _ _ fol) m le lt = absurd (omega (arith, le, lt, fol.its_number))
next_place id files last these n f b _ is (more _ _ _ h some those fol here rest) m le lt = elim (cases_eq m n) [
  | inl same ↦ subst (λ k. HasHead id (k + 1) (length (files k)) (files (k + 1))) (sym same)
      (first_place id files last these (n + 1) (f + length some) (length (files n)) those is rest)
  | inr differs ↦ next_place id files last these (n + 1) (f + length some) (length (files n)) those is rest m (omega (arith, le, differs)) lt
]

pub first_of : (id : ℕ) (files : Files) (from : Origin) (head : Head) (records : List (List ℕ)) → IsLog id files from head records → HasHead id from.number from.before (files from.number)
first_of id files from head records is = first_place id files head is.these from.number from.first from.before is.front is.last is.ended

pub next_of : (id : ℕ) (files : Files) (from : Origin) (head : Head) (records : List (List ℕ)) (is : IsLog id files from head records) (n : ℕ) → from.number ≤ n → n < head.number
    → HasHead id (n + 1) (length (files n)) (files (n + 1))
next_of id files from head records is = next_place id files head is.these from.number from.first from.before is.front is.last is.ended

-- a file with a head has a byte
not_none : (id n b : ℕ) (file : List ℕ) → HasHead id n b file → file ≡ [] → ⊥
not_none id n b file head is = omega (arith, ap length (sym is ∙ (first_there (spelled head.head) head.records file head.has).whole))

-- each file from the first to the last has a byte
pub some_there : (id : ℕ) (files : Files) (from : Origin) (head : Head) (records : List (List ℕ)) (is : IsLog id files from head records) (n : ℕ) → from.number ≤ n → n ≤ head.number
    → files n ≡ [] → ⊥
some_there id files from head records is zero le lt here =
    let at : from.number ≡ zero = omega (arith, le) in
    not_none id from.number from.before (files from.number) (first_of id files from head records is) (ap (λ (k : ℕ). files k) at ∙ here)
some_there id files from head records is (suc n) le lt here = elim (cases_eq (suc n) from.number) [
  | inl same ↦ not_none id from.number from.before (files from.number) (first_of id files from head records is) (ap (λ (k : ℕ). files k) (sym same) ∙ here)
  | inr differs ↦
      let one : n + 1 ≡ suc n = omega arith in
      not_none id (n + 1) (length (files n)) (files (n + 1))
      (next_of id files from head records is n (omega (arith, le, differs)) (omega (arith, lt))) (ap (λ (k : ℕ). files k) one ∙ here)
]

pub gap : (id : ℕ) (files : Files) (from : Origin) (head : Head) (records : List (List ℕ)) (n : ℕ) → IsLog id files from head records → files n ≡ [] → files (n + 1) ≢ []
    → n < from.number
gap id files from head records n is here next = elim (cases_lt n from.number) [
  | inl lt ↦ lt
  | inr below ↦ elim (cases_lt head.number n) [
    | inl above ↦ absurd (next (is.none_above (n + 1) (omega (arith, above))))
    | inr within ↦ absurd (some_there id files from head records is n (omega (arith, below)) (omega (arith, within)) here)
  ]
]

-- ---- a new log

pub listless : (l : List ℕ) → (l ≢ [] → ⊥) → l ≡ []
listless [] not_some = refl
listless (x ∷ l) not_some = absurd (not_some (λ is. omega (arith, ap length is)))

pub none_within : (first last : ℕ) (files : Files) → last < first → AreEnds first last files → (n : ℕ) → files n ≡ []
none_within first last files lt are n = listless (files n) (λ some. let ends = are.within n some in omega (arith, ends.0, ends.1, lt))

pub created : {D : Type 0} (seen : D → Files) (may_leave : D → Files → Type 0) (t : LogState D) (base : Files) (id : ℕ) (checkpoint : List ℕ) (batch : List (List ℕ))
    → batch ≡ spelled (first_head id checkpoint) ∷ [] → IsWide (first_head id checkpoint) → Stands seen may_leave t.segment batch → t.segment.number ≡ 1
    → ((m : ℕ) → base m ≡ []) → ((m : ℕ) → m ≢ 1 → seen t.segment.disk m ≡ base m) → t.id ≡ id → t.first ≡ 0 → t.count ≡ 0 → t.keep ≡ 0 → t.least ≡ 1
    → Holds seen may_leave t beginning (first_head id checkpoint) []
created seen may_leave t base id checkpoint batch is wide stands number nothing same id_is first count keep least = record {
  front = [];
  these = [];
  ended = subst (λ k. AreBefore k (seen t.segment.disk) (first_head id checkpoint) 1 0 0 []) (sym id_is)
      (none 1 0 0 (record { its_id = refl; its_number = refl; its_first = refl; its_before = refl }));
  wide = wide;
  some = tt;
  stands = subst (Stands seen may_leave t.segment) is stands;
  number = sym number;
  all = refl;
  there = omega arith;
  none_below = λ m lt. same m (λ is. omega (arith, is, lt)) ∙ nothing m;
  none_above = λ m lt. same m (λ is. omega (arith, is, lt)) ∙ nothing m;
  first = sym first;
  count = count;
  keep = sym keep;
  least = sym least;
}

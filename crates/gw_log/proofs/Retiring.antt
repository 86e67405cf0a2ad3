-- The first file of a log is removed.
use Rattle.std.proofs.Common.{◌≡◌, ◌≢◌, inl, inr, ℕ, ◌+◌, ◌<◌, ◌≤◌, List, [], ◌∷◌, ◌++◌, length, refl, sym, ◌∙◌, ap, subst, arith, append_assoc}
use Rattle.std.proofs.lemmas.Bool.{cases_eq}
use Rattle.gw_log.specs.Disk.{Files, Changes, IsGone}
use Rattle.gw_log.specs.File.{Has}
use Rattle.gw_log.specs.State.{Stands}
use Rattle.gw_log.specs.Chain.{Head, spelled, IsEnded, AreBefore, none, more, IsUnborn, Origin, IsLast, LogState, Holds, IsFewer, HasRetired, IsLogOrFewer, with_disk}
use Rattle.gw_log.specs.Opening.{BeginsAs, BeginsBy}
use Rattle.gw_log.specs.own.Opens.{Reads}
use Rattle.gw_log.proofs.Sound.{has_stands}
use Rattle.gw_log.proofs.Logs.{before_le, no_file, log_as_is}
use Rattle.gw_log.proofs.Turning.{moved_staged}
use Rattle.gw_log.proofs.Founding.{first_counts, only_read}

-- what is left of the files before the last
record Rest (id : ℕ) (files : Files) (last : Head) (n f : ℕ) (records : List (List ℕ)) : Type 0 where
  gone : List (List ℕ)
  kept : List (List ℕ)
  rest : AreBefore id files last (n + 1) (f + length gone) (length (files n)) kept
  split : records ≡ gone ++ kept

shorten : (id : ℕ) (files : Files) (last : Head) (n f b : ℕ) (records : List (List ℕ)) → n < last.number → AreBefore id files last n f b records
    → Rest id files last n f records
shorten id files last n f b _ lt (none _ _ _ fol) = absurd (omega (arith, lt, fol.its_number))
shorten id files last n f b _ lt (more _ _ _ h these those fol is rest) = record { gone = these; kept = those; rest = rest; split = refl }

before_from : (id : ℕ) (files c : Files) (last : Head) (n f b : ℕ) (records : List (List ℕ)) → ((m : ℕ) → n ≤ m → m < last.number → c m ≡ files m)
    → AreBefore id files last n f b records → AreBefore id c last n f b records
before_from id files c last n f b _ same (none _ _ _ fol) = none n f b fol
before_from id files c last n f b _ same (more _ _ _ h these those fol is rest) =
    let le = before_le id files last (n + 1) (f + length these) (length (files n)) those rest in
    let here : files n ≡ c n = sym (same n (omega arith) (omega (arith, le))) in
    more n f b h these those fol (subst (λ l. IsEnded h these l) here is)
    (subst (λ (l : List ℕ). AreBefore id c last (n + 1) (f + length these) (length l) those) here
    (before_from id files c last (n + 1) (f + length these) (length (files n)) those (λ m le lt. same m (omega (arith, le)) lt) rest))

module _ {D : Type 0} (seen : D → Files) (may_leave : D → Files → Type 0) (s : LogState D) (from : Origin) (head : Head) (records : List (List ℕ))
    (h : Holds seen may_leave s from head records) (is_least : s.least < s.segment.number)
    (next : BeginsBy s.id (s.least + 1) s.keep (seen s.segment.disk (s.least + 1))) where
  abbrev files : Files
  files = seen s.segment.disk

  abbrev mine : List (List ℕ)
  mine = spelled head ∷ h.these

  below_last : from.number < head.number
  below_last = omega (arith, is_least, h.least, h.number)

  rest : Rest s.id files head from.number from.first h.front
  rest = shorten s.id files head from.number from.first from.before h.front below_last h.ended

  abbrev to : Origin
  to = record { number = from.number + 1; first = from.first + length rest.gone; before = length (files from.number) }

  fewer : IsFewer from records to (rest.kept ++ h.these)
  fewer = record {
    gone = rest.gone;
    split = h.all ∙ ap (λ (l : List (List ℕ)). l ++ h.these) rest.split ∙ append_assoc rest.gone rest.kept h.these;
    number = refl;
    first = refl;
  }

  has_mine : (file : List ℕ) → file ≡ files s.segment.number → Has mine file
  has_mine file is = has_stands seen may_leave s.segment mine h.stands file is

  there : to.first ≤ head.keep
  there =
      let last : IsLast head h.these (files head.number) =
      record { wide = h.wide; some = h.some; has = has_mine (files head.number) (ap (λ (k : ℕ). files k) h.number) } in
      let begins : BeginsAs s.id (from.number + 1) next.first next.before next.keep (files (from.number + 1)) =
      subst (λ k. BeginsAs s.id (k + 1) next.first next.before next.keep (files (k + 1))) (sym h.least) next.begins in
      let counts = first_counts s.id files head h.these (from.number + 1) to.first (length (files from.number)) rest.kept last rest.rest
      next.first next.before next.keep begins in
      let within = next.within in
      omega (arith, counts, within, h.keep)

  -- what is there where the first file may be gone
  pub shortened : (c : Files) → Changes s.least (IsGone (files s.least)) files c → IsLogOrFewer s.id from head records c
  shortened c changes = by changes.here
    where
      at : s.least ≡ from.number
      at = sym h.least

      others : (m : ℕ) → m ≢ from.number → c m ≡ files m
      others m differs = changes.others m (λ is. differs (is ∙ at))

      last_is : IsLast head h.these (c head.number)
      last_is = record {
        wide = h.wide;
        some = h.some;
        has = has_mine (c head.number) (others head.number (λ is. omega (arith, is, below_last)) ∙ ap (λ (k : ℕ). files k) h.number);
      }

      unborn : IsUnborn (c (head.number + 1))
      unborn = no_file (c (head.number + 1)) (others (head.number + 1) (λ is. omega (arith, is, below_last)) ∙ h.none_above (head.number + 1) (omega arith))

      above : (m : ℕ) → head.number + 1 < m → c m ≡ []
      above m lt = others m (λ is. omega (arith, is, below_last, lt)) ∙ h.none_above m (omega (arith, lt))

      by : IsGone (files s.least) (c s.least) → IsLogOrFewer s.id from head records c
      by (inl kept) =
          let all : (m : ℕ) → c m ≡ files m = λ m. elim (cases_eq m from.number) [
            | inl is ↦ ap (λ (k : ℕ). c k) (is ∙ sym at) ∙ kept ∙ ap (λ (k : ℕ). files k) (at ∙ sym is)
            | inr differs ↦ others m differs
          ] in
          inl (log_as_is seen may_leave s from head records h c all)
      by (inr gone) = inr (record {
        to = to;
        kept = rest.kept ++ h.these;
        fewer = fewer;
        log = record {
          front = rest.kept;
          these = h.these;
          ended = before_from s.id files c head (from.number + 1) (from.first + length rest.gone) (length (files from.number)) rest.kept
              (λ m le lt. others m (λ is. omega (arith, is, le))) rest.rest;
          last = last_is;
          all = refl;
          there = there;
          none_below = λ m lt. elim (cases_eq m from.number) [
            | inl is ↦ ap (λ (k : ℕ). c k) (is ∙ sym at) ∙ gone
            | inr differs ↦ others m differs ∙ h.none_below m (omega (arith, lt, differs))
          ];
          unborn = unborn;
          none_above = above;
        };
      })

  -- and then the log holds the others
  pub retired : (t : LogState D) → Stands seen may_leave t.segment mine → t.segment.number ≡ s.segment.number
      → Changes s.least (λ file. file ≡ []) files (seen t.segment.disk) → t.id ≡ s.id → t.first ≡ s.first → t.count ≡ s.count → t.keep ≡ s.keep
      → t.least ≡ s.least + 1 → HasRetired seen may_leave t from head records
  retired t stands number changes id first count keep least =
      let c = seen t.segment.disk in
      let others : (m : ℕ) → m ≢ from.number → c m ≡ files m = λ m differs. changes.others m (λ is. differs (is ∙ sym h.least)) in
      record {
        to = to;
        kept = rest.kept ++ h.these;
        fewer = fewer;
        holds = record {
          front = rest.kept;
          these = h.these;
          ended = subst (λ k. AreBefore k c head (from.number + 1) (from.first + length rest.gone) (length (files from.number)) rest.kept) (sym id)
              (before_from s.id files c head (from.number + 1) (from.first + length rest.gone) (length (files from.number)) rest.kept
              (λ m le lt. others m (λ is. omega (arith, is, le))) rest.rest);
          wide = h.wide;
          some = h.some;
          stands = stands;
          number = h.number ∙ sym number;
          all = refl;
          there = there;
          none_below = λ m lt. elim (cases_eq m from.number) [
            | inl is ↦ ap (λ (k : ℕ). c k) (is ∙ h.least) ∙ changes.here
            | inr differs ↦ others m differs ∙ h.none_below m (omega (arith, lt, differs))
          ];
          none_above = λ m lt. others m (λ is. omega (arith, is, below_last, lt)) ∙ h.none_above m lt;
          first = h.first ∙ sym first;
          count = count ∙ h.count;
          keep = h.keep ∙ sym keep;
          least = omega (arith, least, h.least);
        };
      }

-- ---- what was only read

-- a state that is opened is the one that was left
pub opened_on : {D : Type 0} (s x y : LogState D) → y ≡ x → x ≡ with_disk x.segment.disk s → y ≡ with_disk y.segment.disk s
opened_on s x y at kept = subst (λ z. z ≡ with_disk z.segment.disk s) (sym at) kept

pub reads_on : {D : Type 0} (seen : D → Files) (may_leave : D → Files → Type 0) (moment : D → ℕ) (left_since : D → ℕ → Files → Type 0) (honest : D → Type 0)
    (s x y : LogState D) → y ≡ x → Reads seen may_leave moment left_since honest s.segment.disk x.segment.disk
    → Reads seen may_leave moment left_since honest s.segment.disk y.segment.disk
reads_on seen may_leave moment left_since honest s x y at reads =
    subst (λ z. Reads seen may_leave moment left_since honest s.segment.disk z.segment.disk) (sym at) reads

module _ {D : Type 0} (seen : D → Files) (may_leave : D → Files → Type 0) (moment : D → ℕ) (left_since : D → ℕ → Files → Type 0) (honest : D → Type 0)
    (s x : LogState D) (is : x ≡ with_disk x.segment.disk s) (reads : Reads seen may_leave moment left_since honest s.segment.disk x.segment.disk) where
  abbrev disk : D
  disk = x.segment.disk

  -- the log holds what it held
  pub held_on : (from : Origin) (head : Head) (records : List (List ℕ)) → Holds seen may_leave s from head records → Holds seen may_leave x from head records
  held_on from head records h =
      let st = h.stands in
      let only = only_read seen may_leave moment left_since honest s.segment.disk disk reads st.staged.durable in
      let at : (m : ℕ) → seen disk m ≡ seen s.segment.disk m = λ m. ap (λ (f : Files). f m) reads.same in
      subst (λ (y : LogState D). Holds seen may_leave y from head records) (sym is) (record {
        front = h.front;
        these = h.these;
        ended = subst (λ f. AreBefore s.id f head from.number from.first from.before h.front) (sym reads.same) h.ended;
        wide = h.wide;
        some = h.some;
        stands = record {
          unbroken = st.unbroken;
          these = st.these;
          last = st.last;
          all = st.all;
          staged = moved_staged seen may_leave s.segment.disk disk s.segment.number s.segment.end s.segment.reach st.these st.last st.staged
              (at s.segment.number) only;
        };
        number = h.number;
        all = h.all;
        there = h.there;
        none_below = λ m lt. at m ∙ h.none_below m lt;
        none_above = λ m lt. at m ∙ h.none_above m lt;
        first = h.first;
        count = h.count;
        keep = h.keep;
        least = h.least;
      })

  pub behind_on : s.least < s.segment.number → x.least < x.segment.number
  behind_on lt = subst (λ (y : LogState D). y.least < y.segment.number) (sym is) lt

  pub next_on : BeginsBy s.id (s.least + 1) s.keep (seen s.segment.disk (s.least + 1)) → BeginsBy x.id (x.least + 1) x.keep (seen x.segment.disk (x.least + 1))
  next_on next =
      let here = subst (λ (f : Files). BeginsBy s.id (s.least + 1) s.keep (f (s.least + 1))) (sym reads.same) next in
      subst (λ (y : LogState D). BeginsBy y.id (y.least + 1) y.keep (seen disk (y.least + 1))) (sym is) here

-- What a crash leaves of a batch that is written behind the last one.
use Rattle.std.proofs.Common.{◌≡◌, ◌≢◌, ◌⊎◌, inl, inr, refl, ℕ, ◌≤◌, List, [], ◌∷◌, ◌++◌, length, sym, ◌∙◌, ap, subst, arith, append_assoc, length-append}
use Rattle.std.proofs.lemmas.Bool.{cases_eq}
use Rattle.std.proofs.lemmas.List.{append-nil}
use Rattle.gw_log.specs.Disk.{IsMixed}
use Rattle.gw_log.specs.File.{item, nonzero, counted, body, blocks, batch, AreShort, IsWhole, ends_here, goes_on, IsUnsynced, Has}
use Rattle.gw_log.specs.own.Steps.{HasAdded}
use Rattle.gw_log.proofs.Losing.{lost_item, lost_same}
use Rattle.gw_log.proofs.Ends.{shut, whole_some}

pub batch_is : (close : ℕ) (r : List ℕ) (more : List (List ℕ)) → batch close (r ∷ more) ≡ body r ++ (blocks more ++ close ∷ [])
batch_is close r more = append_assoc (body r) (blocks more) (close ∷ [])

pub batch_size : (close : ℕ) (records : List (List ℕ)) → length (batch close records) ≡ length (blocks records)
batch_size close [] = refl
batch_size close (r ∷ more) = omega (arith, length-append (body r ++ blocks more) (close ∷ []))

-- a batch with its gate open
pub opened_is : (close : ℕ) (records : List (List ℕ)) (rest : List ℕ) → 1 ≤ length records → 1 ∷ (batch close records ++ rest) ≡ blocks records ++ close ∷ rest
opened_is close [] rest some = absurd (omega (arith, some))
opened_is close (r ∷ more) rest some = ap (λ (l : List ℕ). 1 ∷ l) (append_assoc (body r ++ blocks more) (close ∷ []) rest)

-- a batch with a gate of 2 behind it is whole
pub batch_whole : (records : List (List ℕ)) (rest : List ℕ) → 1 ≤ length records → AreShort records → IsWhole (batch 2 records ++ rest)
batch_whole [] rest some short = absurd (omega (arith, some))
batch_whole (r ∷ []) rest some short =
    subst IsWhole (sym (ap (λ (l : List ℕ). l ++ rest) (batch_is 2 r []) ∙ append_assoc (body r) (2 ∷ []) rest)) (ends_here (item r) rest short.0)
batch_whole (r ∷ s ∷ more) rest some short =
    subst IsWhole (sym (ap (λ (l : List ℕ). l ++ rest) (batch_is 2 r (s ∷ more)) ∙ append_assoc (body r) (1 ∷ batch 2 (s ∷ more)) rest))
    (goes_on (item r) (batch 2 (s ∷ more) ++ rest) short.0 (batch_whole (s ∷ more) rest (omega arith) short.1))

-- where a byte was lost, or a gate of 2 isn't behind it, none is whole
pub whole_same : (close : ℕ) (records : List (List ℕ)) (c : List ℕ) → AreShort records → IsMixed [] (batch close records) c → IsWhole c
    → (close ≡ 2) × (c ≡ batch close records)
whole_same close [] c short mixed whole = absurd (whole_some c whole mixed)
whole_same close (r ∷ []) _ short mixed (ends_here j m lt) =
    let it = lost_item (item r) j (close ∷ []) (2 ∷ m) short.0 lt (subst (λ b. IsMixed [] b (counted j ++ 2 ∷ m)) (batch_is close r []) mixed) in
    let is : close ≡ 2 = two close it.1.0 in (
      is,
      ap (λ (l : List ℕ). l ++ 2 ∷ m) (ap counted (sym it.0)) ∙ ap (λ (l : List ℕ). body r ++ 2 ∷ l) it.1.1
          ∙ ap (λ (n : ℕ). body r ++ n ∷ []) (sym is) ∙ sym (batch_is close r []),
    )
  where
    two : (n : ℕ) → (◌≡◌ {A = ℕ} 2 0) ⊎ (◌≡◌ {A = ℕ} 2 n) → n ≡ 2
    two n (inl is) = absurd (omega (arith, is))
    two n (inr is) = sym is
whole_same close (r ∷ []) _ short mixed (goes_on j m lt whole) =
    let it = lost_item (item r) j (close ∷ []) (1 ∷ m) short.0 lt (subst (λ b. IsMixed [] b (counted j ++ 1 ∷ m)) (batch_is close r []) mixed) in
    absurd (whole_some m whole it.1.1)
whole_same close (r ∷ s ∷ more) _ short mixed (ends_here j m lt) =
    let it = lost_item (item r) j (blocks (s ∷ more) ++ close ∷ []) (2 ∷ m) short.0 lt
    (subst (λ b. IsMixed [] b (counted j ++ 2 ∷ m)) (batch_is close r (s ∷ more)) mixed) in
    absurd (not it.1.0)
  where
    not : (◌≡◌ {A = ℕ} 2 0) ⊎ (◌≡◌ {A = ℕ} 2 1) → ⊥
    not (inl is) = omega (arith, is)
    not (inr is) = omega (arith, is)
whole_same close (r ∷ s ∷ more) _ short mixed (goes_on j m lt whole) =
    let it = lost_item (item r) j (blocks (s ∷ more) ++ close ∷ []) (1 ∷ m) short.0 lt
    (subst (λ b. IsMixed [] b (counted j ++ 1 ∷ m)) (batch_is close r (s ∷ more)) mixed) in
    let rest = whole_same close (s ∷ more) m short.1 it.1.1 whole in (
      rest.0,
      ap (λ (l : List ℕ). l ++ 1 ∷ m) (ap counted (sym it.0)) ∙ ap (λ (l : List ℕ). body r ++ 1 ∷ l) rest.1
          ∙ sym (batch_is close r (s ∷ more)),
    )

-- ---- files

-- these records, and an end without a whole batch
pub has_unsynced : (records : List (List ℕ)) (end file : List ℕ) → AreShort records → IsUnsynced end → file ≡ blocks records ++ end → Has records file
has_unsynced records end file short unsynced is = record {
  front = records;
  last = [];
  end = end;
  all = sym (append-nil records);
  whole = is;
  short = short;
  ends = inl (refl, unsynced);
}

pub has_lone : (records : List (List ℕ)) (gate : ℕ) (file : List ℕ) → AreShort records → file ≡ blocks records ++ gate ∷ [] → Has records file
has_lone records gate file short is = has_unsynced records (gate ∷ []) file short tt is

-- these, and a whole batch behind a gate that isn't open
pub has_shut : (records last : List (List ℕ)) (gate : ℕ) (more file : List ℕ) → gate ≢ 1 → AreShort records → AreShort last
    → file ≡ blocks records ++ gate ∷ (batch 2 last ++ more) → 1 ≤ length last → Has (records ++ last) file
has_shut records last gate more file differs short fits is some = record {
  front = records;
  last = last;
  end = gate ∷ (batch 2 last ++ more);
  all = refl;
  whole = is;
  short = short;
  ends = inr (record { gate = gate; more = more; not_open = differs; whole = refl; some = some; short = fits });
}

-- a batch that was written behind these records: a crash leaves them, or them with the batch
module _ (close gate : ℕ) (all more : List (List ℕ)) (left file : List ℕ) (differs : gate ≢ 1) (short : AreShort all) (fits : AreShort more)
    (mixed : IsMixed [] (batch close more) left) (is : file ≡ blocks all ++ gate ∷ left) where
  old : (IsWhole left → ⊥) → HasAdded close all more file
  old not = inl (has_unsynced all (gate ∷ left) file short (shut gate left differs not) is)

  none_written : more ≡ [] → left ≡ []
  none_written none = subst (λ l. IsMixed [] (batch close l) left) none mixed

  all_there : (rs : List (List ℕ)) → more ≡ rs → left ≡ batch close more → HasAdded close all more file
  all_there [] none same = old (λ whole. whole_some left whole (none_written none))
  all_there (r ∷ rs) some same = elim (cases_eq close 2) [
    | inl two ↦ inr (
      two,
      has_shut all more gate [] file differs short fits
          (is ∙ ap (λ (l : List ℕ). blocks all ++ gate ∷ l) (same ∙ ap (λ (n : ℕ). batch n more) two ∙ sym (append-nil (batch 2 more))))
          (omega (arith, ap length some)),
    )
    | inr not ↦ old (λ whole. not (whole_same close more left fits mixed whole).0)
  ]

  pub torn_batch : HasAdded close all more file
  torn_batch = elim (cases_eq (length (batch close more)) (length left)) [
    | inl long ↦ elim (cases_eq (nonzero (batch close more)) (nonzero left)) [
      | inl same ↦ all_there more refl (sym (lost_same (batch close more) left mixed long same))
      | inr not ↦ old (λ whole. not (ap nonzero (sym (whole_same close more left fits mixed whole).1)))
    ]
    | inr not ↦ old (λ whole. not (ap length (sym (whole_same close more left fits mixed whole).1)))
  ]

-- How many segments of a name a message has.
use Rattle.std.proofs.Common.{◌≡◌, ℕ, zero, suc, ◌+◌, ◌^◌, ◌<◌, ◌≤◌, ◌⊎◌, inl, inr, Bool, true, false, List, [], ◌∷◌, refl, sym, ap, ◌∙◌, arith, length, take, get_or}
use Rattle.std.specs.Prelude.{filter}
use Rattle.std.specs.List.{count_by, AllByRecursion}
use Rattle.std.specs.Str.{bytes_eq}
use Rattle.std.proofs.lemmas.List.Sums.{count_by_more_yes, count_by_more_no, length-filter}
use Rattle.gw_er7.specs.Message.{SegmentValue, IsMessage, IsOther}
use Rattle.gw_er7.specs.Names.{header_name}
use Rattle.gw_profile.specs.Deterministic.{Name}
use Rattle.gw_validate.specs.Conforming.{segment_at, named}
use Rattle.gw_validate.proofs.Names.{names_equal}

got : (m : List SegmentValue) (i : ℕ) → get_or m i (segment_at m i) ≡ segment_at m i
got [] i = refl
got (s ∷ m) zero = refl
got (s ∷ m) (suc i) = got m i

module _ (m : List SegmentValue) (i : ℕ) (name : Name) (lt : i < length m) (count : ℕ) (so_far : count ≡ count_by (λ s. bytes_eq s.name name) (take i m)) where
  pub counted_yes : bytes_eq (named m i) name ≡ true → count + 1 ≡ count_by (λ s. bytes_eq s.name name) (take (i + 1) m)
  counted_yes e =
      ap (λ n. n + 1) so_far
      ∙ sym (count_by_more_yes (λ (s : SegmentValue). bytes_eq s.name name) m i (segment_at m i) lt (ap (λ (s : SegmentValue). bytes_eq s.name name) (got m i) ∙ e))

  pub counted_no : bytes_eq (named m i) name ≡ false → count ≡ count_by (λ s. bytes_eq s.name name) (take (i + 1) m)
  counted_no e =
      so_far ∙ sym (count_by_more_no (λ (s : SegmentValue). bytes_eq s.name name) m i (segment_at m i) lt (ap (λ (s : SegmentValue). bytes_eq s.name name) (got m i) ∙ e))

none_named : (name : Name) (ss : List SegmentValue) → name ≡ header_name → AllByRecursion IsOther ss → (n : ℕ) → length (filter (λ s. bytes_eq s.name name) (take n ss)) ≡ 0
none_named name ss e a zero = refl
none_named name [] e a (suc n) = refl
none_named name (s ∷ ss) e a (suc n) = by (bytes_eq s.name name) refl (none_named name ss e a.1 n)
  where
    by : (b : Bool) → bytes_eq s.name name ≡ b → length (filter (λ s. bytes_eq s.name name) (take n ss)) ≡ 0 → length (filter (λ s. bytes_eq s.name name) (take (suc n) (s ∷ ss))) ≡ 0
    by true f r = absurd (a.0.name (names_equal s.name name f ∙ e))
    by false f r = rw f r

at_most_all : (p : SegmentValue → Bool) (n : ℕ) (ss : List SegmentValue) → length (filter p (take n ss)) ≤ length ss
at_most_all p zero ss = omega arith
at_most_all p (suc n) [] = omega arith
at_most_all p (suc n) (s ∷ ss) = by (p s) refl (at_most_all p n ss)
  where
    by : (b : Bool) → p s ≡ b → length (filter p (take n ss)) ≤ length ss → length (filter p (take (suc n) (s ∷ ss))) ≤ suc (length ss)
    by true f r = rw f (omega (arith, r))
    by false f r = rw f (omega (arith, r))

-- of a name there are fewer than all segments, or one at most
few_named : (m : List SegmentValue) → IsMessage m → (name : Name) (n : ℕ) → (length (filter (λ s. bytes_eq s.name name) (take n m)) < length m) ⊎ (length (filter (λ s. bytes_eq s.name name) (take n m)) ≤ 1)
few_named [] h name n = absurd h
few_named (s ∷ ss) h name zero = inr (omega arith)
few_named (s ∷ ss) h name (suc n) = by (bytes_eq s.name name) refl
  where
    by : (b : Bool) → bytes_eq s.name name ≡ b → (length (filter (λ s. bytes_eq s.name name) (take (suc n) (s ∷ ss))) < suc (length ss)) ⊎ (length (filter (λ s. bytes_eq s.name name) (take (suc n) (s ∷ ss))) ≤ 1)
    by true f = inr (rw f (omega (arith, none_named name ss (sym (names_equal s.name name f) ∙ h.0.name) h.1 n)))
    by false f = inl (rw f (omega (arith, at_most_all (λ (x : SegmentValue). bytes_eq x.name name) n ss)))

pub small_named : (m : List SegmentValue) → IsMessage m → (name : Name) (n count : ℕ) → count ≡ count_by (λ s. bytes_eq s.name name) (take n m) → length m < 2 ^ 64 → count + 1 < 2 ^ 64
small_named m h name n count e lt =
    let f : count ≡ length (filter (λ (s : SegmentValue). bytes_eq s.name name) (take n m)) = e ∙ sym (length-filter (λ (s : SegmentValue). bytes_eq s.name name) (take n m)) in
    elim (few_named m h name n) [
      | inl a ↦ omega (arith, a, f, lt)
      | inr a ↦ omega (arith, a, f)
    ]

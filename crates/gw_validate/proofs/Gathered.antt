-- The numbers that were found by names.
use Rattle.std.proofs.Common.{◌≡◌, ℕ, zero, suc, ◌+◌, ◌<◌, Bool, true, false, List, [], ◌∷◌, ◌++◌, refl, sym, ap, ◌∙◌, arith, length, take, ◌≤◌}
use Rattle.std.proofs.lemmas.List.{take_all}
use Rattle.std.specs.Prelude.{if◌then◌else◌}
use Rattle.gw_er7.specs.Message.{SegmentValue}
use Rattle.gw_profile.specs.Shapes.{Forest}
use Rattle.gw_profile.specs.Deterministic.{Name}
use Rattle.gw_profile.specs.Names.{stands}
use Rattle.gw_validate.specs.Conforming.{numbers, segment_at, named}
use Rattle.gw_validate.proofs.Listed.{numbers_step}

pub take_segment : (m : List SegmentValue) (i : ℕ) → i < length m → take (suc i) m ≡ take i m ++ segment_at m i ∷ []
take_segment [] i lt = absurd (omega arith)
take_segment (s ∷ m) zero lt = refl
take_segment (s ∷ m) (suc i) lt = ap (λ l. s ∷ l) (take_segment m i (omega arith))

length_take : (m : List SegmentValue) (i : ℕ) → i < length m → length (take i m) ≡ i
length_take [] i lt = absurd (omega arith)
length_take (s ∷ m) zero lt = refl
length_take (s ∷ m) (suc i) lt = ap suc (length_take m i (omega arith))

numbers_next : (f : Forest) (m : List SegmentValue) (i : ℕ) → i < length m → numbers f (take (i + 1) m) ≡ numbers f (take i m) ++ (if stands f (named m i) then i ∷ [] else [])
numbers_next f m i lt =
    let one : i + 1 ≡ suc i = omega arith in
    ap (λ n. numbers f (take n m)) one ∙ ap (numbers f) (take_segment m i lt) ∙ numbers_step f (take i m) (segment_at m i)
    ∙ ap (λ n. numbers f (take i m) ++ (if stands f (named m i) then n ∷ [] else [])) (length_take m i lt)

module _ (f : Forest) (m : List SegmentValue) (i : ℕ) (lt : i < length m) (found : List ℕ) (so_far : found ≡ numbers f (take i m)) (name : Name) (is : name ≡ named m i) (there : Bool) (tells : there ≡ stands f name) where
  same : stands f (named m i) ≡ there
  same = ap (stands f) (sym is) ∙ sym tells

  pub number_found : there ≡ true → (new : List ℕ) → new ≡ found ++ i ∷ [] → new ≡ numbers f (take (i + 1) m)
  number_found so new pushed =
      pushed ∙ ap (λ l. l ++ i ∷ []) so_far ∙ sym (numbers_next f m i lt ∙ ap (λ b. numbers f (take i m) ++ (if b then i ∷ [] else [])) (same ∙ so))

  pub number_passed : there ≡ false → found ≡ numbers f (take (i + 1) m)
  number_passed never =
      so_far ∙ sym (nil (numbers f (take i m))) ∙ sym (numbers_next f m i lt ∙ ap (λ b. numbers f (take i m) ++ (if b then i ∷ [] else [])) (same ∙ never))
    where
      nil : (l : List ℕ) → l ++ [] ≡ l
      nil [] = refl
      nil (x ∷ l) = ap (λ k. x ∷ k) (nil l)

pub numbers_all : (f : Forest) (m : List SegmentValue) (i count : ℕ) (found : List ℕ) → count ≡ length m → count ≤ i → found ≡ numbers f (take i m) → found ≡ numbers f m
numbers_all f m i count found long end so_far = so_far ∙ ap (numbers f) (take_all i m (omega arith))

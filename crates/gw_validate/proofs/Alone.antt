-- One breach alone is the least.
use Rattle.std.proofs.Common.{◌≡◌, ℕ, zero, suc, ◌⊎◌, inl, inr, List, [], ◌∷◌, Some, None, refl, sym, ap, ◌∙◌, subst, arith, length, slice_get}
use Rattle.std.proofs.lemmas.Option.{slice_get_past}
use Rattle.gw_er7.specs.Message.{SegmentValue}
use Rattle.gw_profile.specs.Shapes.{ProfileValue}
use Rattle.gw_profile.specs.Deterministic.{Name, Determined, NoName}
use Rattle.gw_validate.specs.declared.breach.Breach.{Breach}
use Rattle.gw_validate.specs.declared.breach.Kind.{Kind}
use Rattle.gw_validate.specs.declared.breach.Kind.TheVariants.{OutOfOrder, MissingSegment, MissingValue, Forbidden, TooManyReps, TooLong, NotInTable}
use Rattle.gw_validate.specs.Kinds.{number_of}
use Rattle.gw_validate.specs.Cuts.{IsShortest}
use Rattle.gw_validate.specs.Conforming.{names}
use Rattle.gw_validate.specs.Broken.{Breaks, out_of_order, missing, in_segment, sequence, spot_of, IsLeast}
use Rattle.gw_validate.proofs.Runs.{one_completion}
use Rattle.gw_validate.specs.Breaches.{NotAfter}

both_ways : (p q : List ℕ) → length p ≡ length q → NotAfter p q → NotAfter q p → p ≡ q
both_ways [] [] e a b = refl
both_ways [] (y ∷ q) e a b = absurd (omega arith)
both_ways (x ∷ p) [] e a b = absurd (omega arith)
both_ways (x ∷ p) (y ∷ q) e (inl a) (inl b) = absurd (omega arith)
both_ways (x ∷ p) (y ∷ q) e (inl a) (inr b) = absurd (omega (arith, b.0))
both_ways (x ∷ p) (y ∷ q) e (inr a) (inl b) = absurd (omega (arith, a.0))
both_ways (x ∷ p) (y ∷ q) e (inr a) (inr b) =
    ap (λ z. z ∷ p) a.0 ∙ ap (λ l. y ∷ l) (both_ways p q (omega arith) a.1 b.1)

abbrev kind_from : ℕ → Kind
kind_from zero = OutOfOrder
kind_from (suc zero) = OutOfOrder
kind_from (suc (suc zero)) = MissingSegment
kind_from (suc (suc (suc zero))) = MissingValue
kind_from (suc (suc (suc (suc zero)))) = Forbidden
kind_from (suc (suc (suc (suc (suc zero))))) = TooManyReps
kind_from (suc (suc (suc (suc (suc (suc zero)))))) = TooLong
kind_from (suc (suc (suc (suc (suc (suc (suc n))))))) = NotInTable

kind_back : (k : Kind) → kind_from (number_of k) ≡ k
kind_back OutOfOrder = refl
kind_back MissingSegment = refl
kind_back MissingValue = refl
kind_back Forbidden = refl
kind_back TooManyReps = refl
kind_back TooLong = refl
kind_back NotInTable = refl

module _ (p : ProfileValue) (m : List SegmentValue) where
  -- what a breach's name is: that of a segment, or that of a missing one
  abbrev Called : ℕ → Name → Type 0
  Called i name =
      ((s : SegmentValue) × (slice_get m i ≡ Some s) × (name ≡ s.name)) ⊎ ((i ≡ length m) × (rest : List Name) × IsShortest p.nodes (names p.nodes m) (name ∷ rest))

  called : (i : ℕ) (name : Name) (spot : List ℕ) → Breaks p m i name spot → Called i name
  called i name spot (out_of_order s there first stop) = inl (s, there, refl)
  called i name spot (missing rest none short) = inr (refl, rest, short)
  called i name spot (in_segment t shape s is a there b) = inl (s, there, refl)

  past : (i : ℕ) (s : SegmentValue) → slice_get m i ≡ Some s → i ≡ length m → ⊥
  past i s there e = let none : slice_get m i ≡ None = slice_get_past m i (omega arith) in cc

  same_name : Determined p.nodes NoName → (i : ℕ) (a b : Name) → Called i a → Called i b → a ≡ b
  same_name wf i a b (inl x) (inl y) = x.2 ∙ ap (λ (s : SegmentValue). s.name) (let e : x.0 ≡ y.0 = cc in e) ∙ sym y.2
  same_name wf i a b (inl x) (inr y) = absurd (past i x.0 x.1 y.0)
  same_name wf i a b (inr x) (inl y) = absurd (past i y.0 y.1 x.0)
  same_name wf i a b (inr x) (inr y) =
      let e : a ∷ x.1 ≡ b ∷ y.1 = one_completion p.nodes NoName wf (names p.nodes m) (a ∷ x.1) (b ∷ y.1) x.2 y.2 in cc

  pub one_least : Determined p.nodes NoName → (a b : Breach) → IsLeast p m a → IsLeast p m b → a ≡ b
  one_least wf a b x y =
      let all : x.number ∷ spot_of a ≡ y.number ∷ spot_of b = both_ways (x.number ∷ spot_of a) (y.number ∷ spot_of b) refl (x.least y.number b.segment (spot_of b) y.breaks) (y.least x.number a.segment (spot_of a) x.breaks) in
      let number : x.number ≡ y.number = cc in
      let field : a.field ≡ b.field = cc in
      let rep : a.rep ≡ b.rep = cc in
      let comp : a.comp ≡ b.comp = cc in
      let sub : a.sub ≡ b.sub = cc in
      let said : number_of a.kind ≡ number_of b.kind = cc in
      let kind : a.kind ≡ b.kind = sym (kind_back a.kind) ∙ ap kind_from said ∙ kind_back b.kind in
      let name : a.segment ≡ b.segment =
      same_name wf y.number a.segment b.segment (subst (λ n. Called n a.segment) number (called x.number a.segment (spot_of a) x.breaks)) (called y.number b.segment (spot_of b) y.breaks) in
      let count : a.sequence ≡ b.sequence = x.counted ∙ ap (λ n. sequence m n a.segment) number ∙ ap (sequence m y.number) name ∙ sym y.counted in
      λ i. record { kind = kind i; segment = name i; sequence = count i; field = field i; rep = rep i; comp = comp i; sub = sub i }

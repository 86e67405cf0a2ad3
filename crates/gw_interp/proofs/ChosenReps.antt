-- A field with a made repetition for each that a condition chooses of another.
use Rattle.std.proofs.Common.{◌≡◌, ℕ, ◌+◌, inl, inr, ◌<◌, ◌≤◌, ◌⊎◌, List, Some, None, refl, sym, subst, arith}
use Rattle.std.proofs.lemmas.Bool.{cases_lt}
use Rattle.gw_er7.specs.Message.{Texts, SegmentValue}
use Rattle.gw_er7.specs.Presence.{RepAt, IsLast}
use Rattle.gw_validate.specs.Breaches.{Counted}
use Rattle.gw_validate.proofs.Nexts.{some_counted}
use Rattle.gw_maplang.specs.Shapes.{Condition}
use Rattle.gw_resolve.specs.Resolved.{Reference, At, repeat}
use Rattle.gw_interp.specs.Occurrences.{texts_at}
use Rattle.gw_interp.specs.Meaning.{IsNth, IsChosen, Walked, walking, MakingMeans}
use Rattle.gw_interp.specs.own.Sourced.{IsNext, IsNextOne}
use Rattle.gw_interp.specs.own.Making.{rep_key, LeavesMean, MayFillRep, IsRepFilled, MayMakeBy, IsMadeBy}
use Rattle.gw_interp.proofs.Makings.{none_made, may_next, next_made, all_made}
use Rattle.gw_interp.proofs.Copies.{In, RepsUpTo}
use Rattle.gw_interp.proofs.Chosen.{chosen_there, counted_next, counted_less}
use Rattle.gw_interp.proofs.Ruled.{may_as, made_as}

-- so many were counted up to a repetition of the source, and their repetitions were made
pub record ChosenUpTo (P : ℕ → Type 0) (field : ℕ) (Means : ℕ → ℕ → ℕ → List ℕ → Type 0) (old : List SegmentValue) (rep made : ℕ) (new : List SegmentValue) : Type 0 where
  pub counted : Counted P rep made
  pub low : made ≤ rep
  pub reps : RepsUpTo field Means old made new

abbrev pub chosen_in : Walked → Reference → Condition → ℕ → Type 0
chosen_in w from c = IsChosen (Some c) (texts_at w.message w.scope from.place) from.field

module _ (w : Walked) (leaves : List At) (field : ℕ) (from : Reference) (c : Condition) where
  abbrev pub Numbered : ℕ → ℕ → ℕ → List ℕ → Type 0
  Numbered rep comp sub text = MakingMeans w (repeat from (Some c) leaves) rep comp sub text

  abbrev pub MadeUpTo : List SegmentValue → ℕ → ℕ → List SegmentValue → Type 0
  MadeUpTo old rep made new = ChosenUpTo (chosen_in w from c) field Numbered old rep made new

  module _ (m : Texts) (is : m ≡ texts_at w.message w.scope from.place) (old : List SegmentValue) (may : MayMakeBy w (repeat from (Some c) leaves) field old) where
    pub chosen_begin : (last : ℕ) → IsLast (RepAt m from.field) last → MadeUpTo old 0 0 old
    chosen_begin last is_last =
        record { counted = refl; low = omega arith; reps = none_made (ℕ × ℕ) (rep_key field) (In Numbered) old may.make (λ p. inr ((λ n. none n.0 n.1), refl)) }
      where
        none : (n : ℕ) → IsNth (chosen_in w from c) 0 n → ⊥
        none n number =
            let at : RepAt m from.field n = subst (λ t. RepAt t from.field n) (sym is) (chosen_there (Some c) (texts_at w.message w.scope from.place) from.field n number.holds) in
            let lt = some_counted (chosen_in w from c) n n 0 number.holds (is_last.within n at).0 (omega arith) number.counted in
            omega (arith, lt)

    module _ (rep made next : ℕ) (mid : List SegmentValue) (found : IsNext (IsChosen (Some c) m from.field) rep next) (up : MadeUpTo old rep made mid) where
      next_is : IsNext (chosen_in w from c) rep next
      next_is = subst (λ t. IsNext (IsChosen (Some c) t from.field) rep next) is found

      number : IsNth (chosen_in w from c) (made + 1) next
      number = record { holds = next_is.holds; counted = counted_next (chosen_in w from c) next rep made up.counted next_is }

      so : (p : ℕ × ℕ) (text : List ℕ) → LeavesMean (walking w from next) leaves p text → In Numbered (made + 1) p text
      so p text means = inl (next, number, means)

      pub may_number : MayFillRep (walking w from next) field (made + 1) leaves mid
      may_number = record {
        distinct = may.lawful.distinct;
        no_faults = may.no_faults next next_is.holds;
        make = may_as (ℕ × ℕ) (rep_key field (made + 1)) (In Numbered (made + 1)) (LeavesMean (walking w from next) leaves) mid so
            (may_next (ℕ × ℕ) (rep_key field) (In Numbered) old made (made + 1) mid (omega arith) may.make up.reps);
      }

      pub number_made : (new : List SegmentValue) → IsRepFilled (walking w from next) field (made + 1) leaves mid new → MadeUpTo old next (made + 1) new
      number_made new filled = record {
        counted = number.counted;
        low = omega (arith, up.low, found.behind);
        reps = next_made (ℕ × ℕ) (rep_key field) (In Numbered) old (λ k j i h e. let same : k ≡ j = cc in same) made (made + 1) mid new (omega arith)
            (λ k more less p. absurd (omega (arith, more, less))) up.reps (made_as (ℕ × ℕ) (rep_key field (made + 1)) (In Numbered (made + 1)) (LeavesMean (walking w from next) leaves) mid new so filled);
      }

    pub all_numbers : (rep made : ℕ) (new : List SegmentValue) → IsNextOne (IsChosen (Some c) m from.field) rep None → MadeUpTo old rep made new → IsMadeBy w (repeat from (Some c) leaves) field old new
    all_numbers rep made new none up = all_made (ℕ × ℕ) (rep_key field) (In Numbered) old made new (λ k lt p. inr ((λ n. over k lt n.0 n.1 (cases_lt rep n.0)), refl)) up.reps
      where
        over : (k : ℕ) → made < k → (n : ℕ) → IsNth (chosen_in w from c) k n → (rep < n) ⊎ (n ≤ rep) → ⊥
        over k lt n number (inl behind) = none n behind (subst (λ t. IsChosen (Some c) t from.field n) (sym is) number.holds)
        over k lt n number (inr le) =
            let few = counted_less (chosen_in w from c) rep n k made le number.counted up.counted in
            omega (arith, few, lt)

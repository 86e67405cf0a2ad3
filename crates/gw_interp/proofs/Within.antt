-- The occurrences that a condition chooses.
use Rattle.std.proofs.Common.{◌≡◌, ℕ, suc, ◌≤◌, Bool, true, false, cond, List, [], ◌∷◌, ◌++◌, Option, Some, None, refl, sym, ap, ◌∙◌, subst, arith, length, map}
use Rattle.std.specs.Prelude.{filter, flat_map}
use Rattle.std.specs.List.{AllByRecursion}
use Rattle.gw_er7.specs.Message.{SegmentValue}
use Rattle.gw_profile.specs.Shapes.{ProfileValue}
use Rattle.gw_profile.specs.Deterministic.{AtMost}
use Rattle.gw_resolve.specs.Intervals.{Interval}
use Rattle.gw_resolve.specs.Places.{Element}
use Rattle.gw_resolve.specs.Resolved.{FieldCondition}
use Rattle.gw_leaves.specs.Counts.{chosen_count}
use Rattle.gw_interp.specs.Occurrences.{Occurrence}
use Rattle.gw_validate.specs.Cuts.{Cut}
use Rattle.gw_interp.specs.Meaning.{meets, chosen, ForEach}
use Rattle.gw_interp.specs.own.Sourced.{is_met}
use Rattle.gw_interp.specs.own.Parts.{names_so, MaySo, GivesSo}
use Rattle.gw_interp.proofs.Walks.{IsOccurrence}
use Rattle.gw_interp.proofs.Paths.{Several}

module _ {A : Type 0} (test : A → Bool) where
  all_filter : (P : A → Type 0) (xs : List A) → AllByRecursion P xs → AllByRecursion P (filter test xs)
  all_filter P [] h = tt
  all_filter P (x ∷ xs) h = by (test x) (all_filter P xs h.1)
    where
      by : (b : Bool) → AllByRecursion P (filter test xs) → AllByRecursion P (cond b (x ∷ filter test xs) (filter test xs))
      by true later = (h.0, later)
      by false later = later

  fewer_filter : (xs : List A) → length (filter test xs) ≤ length xs
  fewer_filter [] = omega arith
  fewer_filter (x ∷ xs) = by (test x) (fewer_filter xs)
    where
      by : (b : Bool) → length (filter test xs) ≤ length xs → length (cond b (x ∷ filter test xs) (filter test xs)) ≤ suc (length xs)
      by true later = omega (arith, later)
      by false later = omega (arith, later)

pub at_most_fewer : (most : Option ℕ) (fewer count : ℕ) → fewer ≤ count → AtMost most count → AtMost most fewer
at_most_fewer None fewer count low few = tt
at_most_fewer (Some most) fewer count low few = omega (arith, low, few)

module _ (profile : ProfileValue) (m : List SegmentValue) (e : Element) (scope : List Occurrence) where
  -- what holds of each occurrence holds of those that are chosen
  pub chosen_each : (condition : Option FieldCondition) (os : List Occurrence) → AllByRecursion (IsOccurrence profile m e) os → AllByRecursion (IsOccurrence profile m e) (chosen m scope condition os)
  chosen_each None os h = h
  chosen_each (Some c) os h = all_filter (λ o. meets m (o ∷ scope) c) (IsOccurrence profile m e) os h

  -- maybe none of the occurrences is chosen, and no more than there are
  pub chosen_several : (condition : Option FieldCondition) (count : Interval) (os : List Occurrence) → Several profile m e count os → Several profile m e (chosen_count condition count) (chosen m scope condition os)
  chosen_several None count os h = h
  chosen_several (Some c) count os h =
      record {
        enough = omega arith;
        few = at_most_fewer count.greatest (length (filter (λ o. meets m (o ∷ scope) c) os)) (length os) (fewer_filter (λ o. meets m (o ∷ scope) c) os) h.few;
        each = chosen_each (Some c) os h.each;
      }

-- ---- a part for each that is chosen, as the program makes it: for each, and none where the condition doesn't hold

pub one_name : (name : List ℕ) (os : List Occurrence) → map (λ o. name) os ≡ flat_map (λ o. name ∷ []) os
one_name name [] = refl
one_name name (o ∷ os) = ap (λ l. name ∷ l) (one_name name os)

module _ (m : List SegmentValue) (scope : List Occurrence) where
  module _ (c : FieldCondition) where
    abbrev test : Occurrence → Bool
    test o = meets m (o ∷ scope) c

    some_names : (names : Occurrence → List (List ℕ)) (os : List Occurrence) → flat_map names (filter test os) ≡ flat_map (λ o. names_so (test o) (names o)) os
    some_names names [] = refl
    some_names names (o ∷ os) = by (test o) (some_names names os)
      where
        by : (b : Bool) → flat_map names (filter test os) ≡ flat_map (λ p. names_so (test p) (names p)) os →
            flat_map names (cond b (o ∷ filter test os) (filter test os)) ≡ names_so b (names o) ++ flat_map (λ p. names_so (test p) (names p)) os
        by true later = ap (λ l. names o ++ l) later
        by false later = later

    some_may : (May : Occurrence → Type 0) (os : List Occurrence) → AllByRecursion May (filter test os) → AllByRecursion (λ o. MaySo (test o) (May o)) os
    some_may May [] h = tt
    some_may May (o ∷ os) h = by (test o) (some_may May os) h
      where
        by : (b : Bool) → (AllByRecursion May (filter test os) → AllByRecursion (λ p. MaySo (test p) (May p)) os) →
            AllByRecursion May (cond b (o ∷ filter test os) (filter test os)) → MaySo b (May o) × AllByRecursion (λ p. MaySo (test p) (May p)) os
        by true later h = (h.0, later h.1)
        by false later h = (tt, later h)

    some_given : (Part : Occurrence → List SegmentValue → Type 0) (os : List Occurrence) (list : List SegmentValue) → ForEach (λ o. GivesSo (test o) (Part o)) os list → ForEach Part (filter test os) list
    some_given Part [] list h = h
    some_given Part (o ∷ os) list h = by (test o) (some_given Part os) h
      where
        by : (b : Bool) → ((back : List SegmentValue) → ForEach (λ p. GivesSo (test p) (Part p)) os back → ForEach Part (filter test os) back) →
            Cut (GivesSo b (Part o)) (ForEach (λ p. GivesSo (test p) (Part p)) os) list → ForEach Part (cond b (o ∷ filter test os) (filter test os)) list
        by true later h = record { front = h.front; back = h.back; joined = h.joined; here = h.here; there = later h.back h.there }
        by false later h = subst (ForEach Part (filter test os)) (sym (h.joined ∙ ap (λ l. l ++ h.back) h.here)) (later h.back h.there)

  pub names_chosen : (condition : Option FieldCondition) (names : Occurrence → List (List ℕ)) (os : List Occurrence) → flat_map names (chosen m scope condition os) ≡ flat_map (λ o. names_so (is_met m (o ∷ scope) condition) (names o)) os
  names_chosen None names os = refl
  names_chosen (Some c) names os = some_names c names os

  pub may_chosen : (condition : Option FieldCondition) (May : Occurrence → Type 0) (os : List Occurrence) → AllByRecursion May (chosen m scope condition os) → AllByRecursion (λ o. MaySo (is_met m (o ∷ scope) condition) (May o)) os
  may_chosen None May os h = h
  may_chosen (Some c) May os h = some_may c May os h

  pub each_chosen : (condition : Option FieldCondition) (Part : Occurrence → List SegmentValue → Type 0) (os : List Occurrence) (list : List SegmentValue) → ForEach (λ o. GivesSo (is_met m (o ∷ scope) condition) (Part o)) os list → ForEach Part (chosen m scope condition os) list
  each_chosen None Part os list h = h
  each_chosen (Some c) Part os list h = some_given c Part os list h

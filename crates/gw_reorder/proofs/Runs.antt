-- A desk after calls: its due numbers, what was given out and what was kept are those of the calls.
use Rattle.std.proofs.Common.{◌≡◌, ℕ, ◌+◌, ◌<◌, List, [], ◌∷◌, ◌++◌, get_or, take, None, sym, ap, ◌∙◌, arith, length-append}
use Rattle.std.specs.List.Sorted.{IsStrictlyIncreasing}
use Rattle.std.proofs.lemmas.Grind.{common_steps}
use Rattle.gw_reorder.specs.Runs.{Call, due, hold, release, room, restart, desk_after, due_in, given_in, kept_for, IsGivenInOrder}
use Rattle.gw_reorder.specs.State.{nothing_due}
use Rattle.gw_reorder.specs.own.Standing.{Stands}
use Rattle.gw_reorder.proofs.Steps.{none_due, more_due, more_given, after_release, after_hold, roomier}

rising_before : (xs : List ℕ) (n : ℕ) → IsStrictlyIncreasing (xs ++ n ∷ []) → IsStrictlyIncreasing xs
rising_before xs n rising k lt =
    let less : get_or (xs ++ n ∷ []) k 0 < get_or (xs ++ n ∷ []) (k + 1) 0 = rising k (omega (arith, length-append xs (n ∷ []))) in
    let left : get_or (xs ++ n ∷ []) k 0 ≡ get_or xs k 0 = grind (arith, common_steps) in
    let right : get_or (xs ++ n ∷ []) (k + 1) 0 ≡ get_or xs (k + 1) 0 = grind (arith, common_steps) in
    omega arith

module _ {T : Type 0} where
  pub stands : (calls : List (Call T)) → IsStrictlyIncreasing (due_in calls) → Stands (desk_after calls) (due_in calls) (given_in calls) (kept_for calls)
  stands [] rising = none_due
  stands (due n ∷ before) rising = more_due (desk_after before) (due_in before) (given_in before) (kept_for before) n (stands before (rising_before (due_in before) n rising)) rising
  stands (hold m x ∷ before) rising = after_hold (desk_after before) (due_in before) (given_in before) (kept_for before) m x (stands before rising) rising
  stands (release ∷ before) rising = after_release (desk_after before) (due_in before) (given_in before) (kept_for before) (stands before rising)
  stands (room n ∷ before) rising = roomier (desk_after before) (due_in before) (given_in before) (kept_for before) n (stands before rising)
  stands (restart ∷ before) rising = roomier nothing_due [] [] (λ n. None) (desk_after before).room none_due

  pub given_in_order : (calls : List (Call T)) → IsStrictlyIncreasing (due_in calls) → IsGivenInOrder calls
  given_in_order calls rising =
      let all = stands calls rising in
      record {
        numbers = all.numbers ∙ ap (λ n. take n (due_in calls)) (sym all.count);
        values = all.values;
        next = more_given (desk_after calls) (due_in calls) (given_in calls) (kept_for calls) all;
      }

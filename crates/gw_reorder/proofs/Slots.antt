-- What a due number is, by what stands at its place.
use Rattle.std.proofs.Common.{◌≡◌, ◌==◌, ℕ, ◌+◌, ◌-◌, ◌<◌, ◌≤◌, true, false, List, length, position, get_or, is_some, Option, Some, None, refl, sym, ap, ◌∙◌, arith, slice_get, slice_set}
use Rattle.std.proofs.lemmas.Grind.{common_steps}
use Rattle.std.proofs.lemmas.Option.{slice_get_read}
use Rattle.std.proofs.lemmas.List.Quantifiers.{position-Some}
use Rattle.gw_reorder.specs.State.{DeskState}
use Rattle.gw_reorder.specs.Calls.{place_of, status_of, status_at, slot_status, held_as, after_holding, after_bringing, kept_with, with_value}
use Rattle.gw_reorder.specs.declared.desk.Status.{Status}
use Rattle.gw_reorder.specs.declared.desk.Status.TheVariants.{Waiting, Repeat, Stranger}

-- where the number stands among those due, by where it was found
pub place_here : (n : ℕ) (numbers due : List ℕ) (found at : Option ℕ) → numbers ≡ due → found ≡ position (λ m. m == n) numbers → found ≡ at → position (λ m. m == n) due ≡ at
place_here n numbers due found at same told is = ap (position (λ m. m == n)) (sym same) ∙ (sym told ∙ is)

-- a due number that was not released has a place in the window
pub in_window : (due : List ℕ) (n place released waiting all slots : ℕ) → position (λ m. m == n) due ≡ Some place → released ≤ place
    → released + waiting ≡ all → all ≡ length due → waiting ≡ slots → place - released < slots
in_window due n place released waiting all slots here behind places long same =
    let found = position-Some (λ m. m == n) due place 0 here in
    omega (arith, found.0)

module _ {T : Type 0} where
  none_inside : (x : Option T) → is_some x ≡ false → x ≡ None
  none_inside None e = refl
  none_inside (Some x) e = absurd cc

  some_inside : (x : Option T) → is_some x ≡ true → (y : T) × (x ≡ Some y)
  some_inside None e = absurd cc
  some_inside (Some x) e = (x, refl)

  at_place : (s : DeskState T) (place : ℕ) → s.released ≤ place → status_at s (Some place) ≡ slot_status (slice_get s.kept (place - s.released))
  at_place s place behind = grind (arith, common_steps)

  pub before : (s : DeskState T) (place : ℕ) → place < s.released → status_at s (Some place) ≡ Repeat
  before s place past = grind (arith, common_steps)

  pub status_here : (s : DeskState T) (n place : ℕ) → place_of s n ≡ Some place → s.released ≤ place → status_of s n ≡ slot_status (slice_get s.kept (place - s.released))
  status_here s n place here behind = ap (status_at s) here ∙ at_place s place behind

  -- what the number is, where the state is seen in another form
  pub stranger : {seen s : DeskState T} (view : seen ≡ s) (n : ℕ) → place_of seen n ≡ None → status_of s n ≡ Stranger
  stranger {seen} view n none = ap (λ s. status_of s n) (sym view) ∙ ap (status_at seen) none

  pub released : {seen s : DeskState T} (view : seen ≡ s) (n place : ℕ) → place_of seen n ≡ Some place → place < seen.released → status_of s n ≡ Repeat
  released {seen} view n place here past = ap (λ s. status_of s n) (sym view) ∙ (ap (status_at seen) here ∙ before seen place past)

  pub answered : (s : DeskState T) (n : ℕ) (x : T) (told : Status) → status_of s n ≡ told → held_as told x ≡ held_as (status_of s n) x
  answered s n x told is = ap (λ t. held_as t x) (sym is)

  pub left : (s : DeskState T) (n : ℕ) (x : T) (told : Status) → status_of s n ≡ told → after_bringing s told n x ≡ after_holding s n x
  left s n x told is = ap (λ t. after_bringing s t n x) (sym is)

  pub repeated : {seen s : DeskState T} (view : seen ≡ s) (n place : ℕ) (at : Option T) → place_of seen n ≡ Some place → seen.released ≤ place → place - seen.released < length seen.kept → at ≡ get_or seen.kept (place - seen.released) at → is_some at ≡ true
      → status_of s n ≡ Repeat
  repeated {seen} view n place at here behind inside read taken =
      let there = slice_get_read seen.kept (length seen.kept) (place - seen.released) at refl inside read in
      let value = some_inside at taken in
      ap (λ s. status_of s n) (sym view) ∙ (status_here seen n place here behind ∙ ap slot_status (there ∙ ap Some value.1))

  pub waits : {seen s : DeskState T} (view : seen ≡ s) (n place : ℕ) (at : Option T) → place_of seen n ≡ Some place → seen.released ≤ place → place - seen.released < length seen.kept → at ≡ get_or seen.kept (place - seen.released) at → is_some at ≡ false
      → status_of s n ≡ Waiting
  waits {seen} view n place at here behind inside read free =
      let there = slice_get_read seen.kept (length seen.kept) (place - seen.released) at refl inside read in
      ap (λ s. status_of s n) (sym view) ∙ (status_here seen n place here behind ∙ ap slot_status (there ∙ ap Some (none_inside at free)))

  -- the first value for a number is kept
  pub kept : {seen s : DeskState T} (view : seen ≡ s) (n place : ℕ) (x : T) → place_of seen n ≡ Some place → status_of s n ≡ Waiting → record seen { kept = slice_set seen.kept (place - seen.released) (Some x) } ≡ after_holding s n x
  kept {seen} {s} view n place x here free =
      ap (λ at. record seen { kept = kept_with seen at x }) (sym here) ∙ (ap (λ s. with_value s n x) view ∙ ap (λ told. after_bringing s told n x) (sym free))

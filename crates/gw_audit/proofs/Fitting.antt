-- From which number of its own entries on a note fits a chapter.
use Rattle.std.proofs.Common.{◌≡◌, ◌≢◌, ℕ, ◌+◌, ◌-◌, ◌<◌, ◌≤◌, ◌==◌, ◌&&◌, ◌⊎◌, inl, inr, Bool, true, false, List, length, None, Some, slice_get, sym, ap, ◌∙◌, arith}
use Rattle.std.proofs.lemmas.List.{length-take}
use Rattle.std.proofs.lemmas.Bool.{cases_eq}
use Rattle.gw_reorder.proofs.Places.{equals, differs}
use Rattle.gw_gate.specs.Parts.{PlanSeen}
use Rattle.gw_gate.specs.Journal.{Journal, current}
use Rattle.gw_gate.specs.Replies.{most}
use Rattle.gw_crew.specs.Notes.{WasFull}
use Rattle.gw_audit.specs.Turns.{HoldsFrom, IsFirstFrom, Passes}
use Rattle.gw_audit.specs.own.Joins.{IsFirstIn, PlansAt, begun, in_force, is_suited}
use Rattle.gw_audit.proofs.Turning.{passed}

-- the place of a version among a chapter's plans
pub place_is : (v first start : ℕ) → first ≡ start → first ≤ v → v ≡ start + (v - first)
place_is v first start same le = omega (arith, same, le)

-- ---- a plan that was in force as some version

module _ (j : Journal) (swaps : List ℕ) (seen : List PlanSeen) (tells : PlansAt j swaps seen) (v : ℕ) (test : PlanSeen → Bool) where
  -- where w is the version's place among the plans
  module _ (w : ℕ) (is_version : v ≡ j.start.version + w) where
    suits_other : (k i : ℕ) → Passes swaps k i → i ≢ w → in_force j v test k ≡ false
    suits_other k i there other =
        let number = tells.number k i there in
        let apart : (current (begun j k)).number ≢ v = λ e. other (omega (arith, number, e, is_version)) in
        ap (λ b. b && test (current (begun j k)).plan) (differs (current (begun j k)).number v apart)

    suits_same : (k i : ℕ) → Passes swaps k i → i ≡ w → in_force j v test k ≡ test (current (begun j k)).plan
    suits_same k i there same =
        let number = tells.number k i there in
        ap (λ b. b && test (current (begun j k)).plan) (equals (current (begun j k)).number v (omega (arith, number, same, is_version)))

    suited_there : (k i : ℕ) → Passes swaps k i → i ≡ w → is_suited test (slice_get seen w) ≡ test (current (begun j k)).plan
    suited_there k i there same = ap (is_suited test) (ap (slice_get seen) (sym same) ∙ tells.plan k i there)

    pub suits_from : is_suited test (slice_get seen w) ≡ true → HoldsFrom (in_force j v test) w swaps
    suits_from suited = record { rising = tells.rising; tells = λ k i there. by k i there (cases_eq i w) }
      where
        by : (k i : ℕ) → Passes swaps k i → (i ≡ w) ⊎ (i ≢ w) → in_force j v test k ≡ (i == w)
        by k i there (inl same) = suits_same k i there same ∙ sym (suited_there k i there same) ∙ suited ∙ sym (equals i w same)
        by k i there (inr other) = suits_other k i there other ∙ sym (differs i w other)

    pub suits_never : is_suited test (slice_get seen w) ≡ false → (low : ℕ) → IsFirstFrom low (in_force j v test) None
    suits_never none low k above = at (passed swaps tells.rising k)
      where
        by : (i : ℕ) → Passes swaps k i → (i ≡ w) ⊎ (i ≢ w) → in_force j v test k ≡ false
        by i there (inl same) = suits_same k i there same ∙ sym (suited_there k i there same) ∙ none
        by i there (inr other) = suits_other k i there other

        at : ((i : ℕ) × Passes swaps k i) → in_force j v test k ≡ false
        at (i, there) = by i there (cases_eq i w)

  -- a version from before the chapter was never in force in it
  pub suits_before : v < j.start.version → (low : ℕ) → IsFirstFrom low (in_force j v test) None
  suits_before early low k above = at (passed swaps tells.rising k)
    where
      at : ((i : ℕ) × Passes swaps k i) → in_force j v test k ≡ false
      at (i, there) =
          let number = tells.number k i there in
          ap (λ b. b && test (current (begun j k)).plan) (differs (current (begun j k)).number v (λ e. omega (arith, number, e, early)))

-- ---- a full journal

pub then_full : (j : Journal) (low : ℕ) → most ≤ length j.entries → low ≤ most → IsFirstIn j low WasFull (Some most)
then_full j low more early = record {
  above = early;
  holds = equals (length (begun j most).entries) most (omega (arith, length-take most j.entries, more));
  before = λ k a b. differs (length (begun j k).entries) most (λ e. omega (arith, length-take k j.entries, e, b));
}

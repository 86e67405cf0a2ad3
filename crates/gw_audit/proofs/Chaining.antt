-- The first number of entries over all chapters at which a note fits.
use Rattle.std.proofs.Common.{◌≡◌, ℕ, ◌+◌, ◌-◌, ◌<◌, ◌≤◌, ◌&&◌, ◌⊎◌, inl, inr, Bool, true, false, if◌then◌else◌, List, [], ◌∷◌, length, Option, None, Some}
use Rattle.std.proofs.Common.{refl, sym, ap, subst, ◌∙◌, arith}
use Rattle.std.specs.Prelude.{nat_le, nat_lt, ◌||◌}
use Rattle.std.proofs.lemmas.Grind.{common_steps}
use Rattle.std.proofs.Math.Bool.{or-false}
use Rattle.std.proofs.lemmas.Bool.{and_from, and_left, and_right, cases_lt, false≢true, le-leb, lt-leb, or_from}
use Rattle.gw_gate.specs.Journal.{Journal, end}
use Rattle.gw_crew.specs.Notes.{NoteSeen}
use Rattle.gw_audit.specs.Settled.{GoOn, first_of, fits, fits_at, reaches, until}
use Rattle.gw_audit.specs.Turns.{First, IsFirstFrom}
use Rattle.gw_audit.specs.own.Joins.{IsFirst, IsFirstIn, begun, first_in}

-- ---- one chapter

off : (r f : Bool) → f ≡ false → ((r && f) || false) ≡ false
off r f e = or_from (r && f) false (and_right r f e) refl

out : (r f : Bool) → r ≡ false → ((r && f) || false) ≡ false
out r f e = or_from (r && f) false (and_left r f e) refl

module _ (j : Journal) (low : ℕ) (note : NoteSeen) where
  abbrev start : ℕ
  start = j.start.entries

  abbrev count : ℕ
  count = length j.entries

  reached : (k : ℕ) → start ≤ k → k ≤ end j → reaches j k ≡ true
  reached k above below = and_from (nat_le start k) (nat_le k (end j)) (le-leb start k above) (le-leb k (end j) below)

  not_before : (k : ℕ) → k < start → reaches j k ≡ false
  not_before k below = and_left (nat_le start k) (nat_le k (end j)) (lt-leb start k below)

  not_behind : (k : ℕ) → end j < k → reaches j k ≡ false
  not_behind k past = and_right (nat_le start k) (nat_le k (end j)) (lt-leb k (end j) past)

  -- it doesn't fit where it doesn't by the chapter's own number
  not_there : (k : ℕ) → (start ≤ k → k - start ≤ count → fits (begun j (k - start)) note ≡ false) → fits_at (j ∷ []) k note ≡ false
  not_there k none = by (cases_lt k start)
    where
      from : start ≤ k → (end j < k) ⊎ (k ≤ end j) → fits_at (j ∷ []) k note ≡ false
      from above (inl past) = out (reaches j k) (fits (until j k) note) (not_behind k past)
      from above (inr within) = off (reaches j k) (fits (until j k) note) (none above (omega (arith, above, within)))

      by : (k < start) ⊎ (start ≤ k) → fits_at (j ∷ []) k note ≡ false
      by (inl before) = out (reaches j k) (fits (until j k) note) (not_before k before)
      by (inr above) = from above (cases_lt (end j) k)

  fits_there : (k : ℕ) → k ≤ count → fits (begun j k) note ≡ true → fits_at (j ∷ []) (start + k) note ≡ true
  fits_there k within holds =
      let own : start + k - start ≡ k = omega arith in
      let fit : fits (until j (start + k)) note ≡ true = ap (λ n. fits (begun j n) note) own ∙ holds in
      ap (λ b. (b && fits (until j (start + k)) note) || false) (reached (start + k) (omega arith) (omega (arith, within))) ∙ ap (λ b. b || false) fit

  -- the first number over all chapters, by the first of the chapter's own
  first_over : (o : Option ℕ) → IsFirstIn j (low - start) note o → IsFirst (j ∷ []) low note (first_in (end j) count o)
  first_over None none = λ k a. not_there k (λ above within. none (k - start) (omega (arith, a, above)))
  first_over (Some k) first = by (cases_lt count k)
    where
      before : (p : ℕ) → low ≤ p → p < start + k → fits_at (j ∷ []) p note ≡ false
      before p a lt = not_there p (λ above within. first.before (p - start) (omega (arith, a, above)) (omega (arith, lt, above)))

      by : (count < k) ⊎ (k ≤ count) → IsFirst (j ∷ []) low note (first_in (end j) count (Some k))
      by (inl past) =
          let far : nat_lt count k ≡ true = grind (arith, common_steps) in
          subst (λ b. IsFirst (j ∷ []) low note (if b then None else Some (end j - (count - k)))) (sym far)
          (λ n a. not_there n (λ above within. first.before (n - start) (omega (arith, a, above)) (omega (arith, within, past))))
      by (inr within) =
          let near : nat_lt count k ≡ false = grind (arith, common_steps) in
          let above = first.above in
          subst (λ b. IsFirst (j ∷ []) low note (if b then None else Some (end j - (count - k)))) (sym near)
          (subst (λ n. IsFirst (j ∷ []) low note (Some n)) (let e : start + k ≡ end j - (count - k) = omega (arith, within) in e)
          (record { above = omega (arith, above); holds = fits_there k within first.holds; before = before }))

pub first_fits : (j : Journal) (low from : ℕ) (note : NoteSeen) (o : Option ℕ) → from ≡ low - j.start.entries → IsFirstIn j from note o
    → IsFirst (j ∷ []) low note (first_in (end j) (length j.entries) o)
first_fits j low from note o is first = first_over j low note o (subst (λ n. IsFirstIn j n note o) is first)

-- ---- all chapters

-- the first number at which one of two tests holds, where the second doesn't hold before the first does
module _ (a b test : ℕ → Bool) (low : ℕ) (either : (k : ℕ) → test k ≡ (a k || b k)) where
  first_found : (first : ℕ) → First low a first → ((k : ℕ) → low ≤ k → k < first → b k ≡ false) → First low test first
  first_found first is none = record {
    above = is.above;
    holds = either first ∙ ap (λ x. x || b first) is.holds;
    before = λ k above below. either k ∙ ap (λ x. x || b k) (is.before k above below) ∙ none k above below;
  }

  module _ (none : (k : ℕ) → low ≤ k → a k ≡ false) where
    same : (k : ℕ) → low ≤ k → test k ≡ b k
    same k above = either k ∙ ap (λ x. x || b k) (none k above)

    first_later : (o : Option ℕ) → IsFirstFrom low b o → IsFirstFrom low test o
    first_later None is = λ k above. same k above ∙ is k above
    first_later (Some first) is = record {
      above = is.above;
      holds = same first is.above ∙ is.holds;
      before = λ k above below. same k above ∙ is.before k above below;
    }

-- no chapter is reached before the first one starts
none_before : (js : List Journal) (note : NoteSeen) (k : ℕ) → GoOn js → k < first_of js → fits_at js k note ≡ false
none_before [] note k go lt = refl
none_before (j ∷ []) note k go lt = out (reaches j k) (fits (until j k) note) (not_before j 0 note k lt)
none_before (j ∷ next ∷ js) note k go lt =
    let starts : next.start.entries ≡ end j = ap (λ s. s.entries) go.0 in
    ap (λ r. (r && fits (until j k) note) || fits_at (next ∷ js) k note) (not_before j 0 note k lt)
    ∙ none_before (next ∷ js) note k go.1 (omega (arith, lt, starts))

either_chapter : (j : Journal) (js : List Journal) (note : NoteSeen) (k : ℕ) → fits_at (j ∷ js) k note ≡ (fits_at (j ∷ []) k note || fits_at js k note)
either_chapter j js note k = ap (λ b. b || fits_at js k note) (sym (or-false (reaches j k && fits (until j k) note)))

-- a note that fits the first chapter fits it up to its end
reached_only : (j : Journal) (note : NoteSeen) (k : ℕ) → fits_at (j ∷ []) k note ≡ true → k ≤ end j
reached_only j note k fits = by (cases_lt (end j) k)
  where
    by : (end j < k) ⊎ (k ≤ end j) → k ≤ end j
    by (inl past) = absurd (false≢true (sym (out (reaches j k) _ (not_behind j 0 note k past)) ∙ fits))
    by (inr within) = within

-- the first number in the first chapter, where there is one, is the first of all
pub first_here : (j : Journal) (js : List Journal) (low : ℕ) (note : NoteSeen) (first : ℕ) → GoOn (j ∷ js) → IsFirst (j ∷ []) low note (Some first)
    → IsFirst (j ∷ js) low note (Some first)
first_here j js low note first go is =
    first_found (λ k. fits_at (j ∷ []) k note) (λ k. fits_at js k note) (λ k. fits_at (j ∷ js) k note) low (either_chapter j js note) first is
    (λ k above below. by js go k below)
  where
    within : first ≤ end j
    within = reached_only j note first is.holds

    by : (ks : List Journal) → GoOn (j ∷ ks) → (k : ℕ) → k < first → fits_at ks k note ≡ false
    by [] on k below = refl
    by (next ∷ ks) on k below =
        let starts : next.start.entries ≡ end j = ap (λ s. s.entries) on.0 in
        none_before (next ∷ ks) note k on.1 (omega (arith, below, within, starts))

-- else it is that of the others
pub first_beyond : (j : Journal) (js : List Journal) (low : ℕ) (note : NoteSeen) (o : Option ℕ) → IsFirst (j ∷ []) low note None → IsFirst js low note o
    → IsFirst (j ∷ js) low note o
first_beyond j js low note o none is =
    first_later (λ k. fits_at (j ∷ []) k note) (λ k. fits_at js k note) (λ k. fits_at (j ∷ js) k note) low (either_chapter j js note) none o is

-- A field that is copied, or its first repetition: how often it is there, and what it holds.
use Rattle.std.proofs.Common.{◌≡◌, ℕ, ◌<◌, ◌≤◌, ◌-◌, ◌⊎◌, inl, inr, min, Bool, true, false, List, [], ◌∷◌, Option, Some, None, refl, sym, ap, ◌∙◌, subst, arith, length}
use Rattle.std.specs.Prelude.{if◌then◌else◌}
use Rattle.gw_er7.specs.Message.{Texts, text_of}
use Rattle.gw_er7.specs.Presence.{CompAt, RepAt, IsLast}
use Rattle.gw_profile.specs.declared.shape.Usage.{Usage}
use Rattle.gw_profile.specs.declared.shape.Usage.TheVariants.{R, RE, O, X}
use Rattle.gw_profile.specs.declared.shape.Card.{Card}
use Rattle.gw_profile.specs.Shapes.{FieldValue, ProfileValue}
use Rattle.gw_profile.specs.WellFormed.{Agrees}
use Rattle.gw_profile.proofs.Facts.{tells}
use Rattle.gw_validate.specs.Breaches.{Counted, is_forbidden, too_few, field_forbidden, in_reps, in_rep, one_too_many}
use Rattle.gw_resolve.specs.Intervals.{Interval, never, is_sure, is_never, at_most_one}
use Rattle.gw_resolve.specs.Places.{Known}
use Rattle.gw_profile.specs.Numbered.{field_of}
use Rattle.gw_leaves.specs.Counts.{repetitions, reference_count}
use Rattle.gw_interp.specs.Meaning.{IsFirst, InFirstOf, Where}
use Rattle.gw_interp.proofs.Walks.{IsKnown}
use Rattle.gw_interp.proofs.Shaped.{text_there}
use Rattle.gw_interp.proofs.Held.{HasTables}
use Rattle.gw_interp.proofs.Sources.{IsHeld, known_held, sure_held, no_rep}
use Rattle.gw_interp.proofs.Repetitions.{IsCounted, last_none, surplus, first_exists, first_once, never_counted, counted_never, single, counted_alike}
use Rattle.std.proofs.lemmas.Bool.{cases_lt}

-- ---- how often a source field is there

none_least : (u : Usage) (card : Card) → Agrees u card → is_forbidden u ≡ true → card.min ≡ 0
none_least R card a e = absurd (cc)
none_least RE card a e = absurd (cc)
none_least O card a e = absurd (cc)
none_least X card a e = a.0

module _ (names : List (List ℕ)) (profile : ProfileValue) (m : Texts) (number : ℕ) where
  held_limited : (o : Option FieldValue) → IsHeld names profile m number o → (most r k : ℕ) → (repetitions o).greatest ≡ Some most → RepAt m number r → Counted (RepAt m number) (r - 1) k → most ≤ k → ⊥
  held_limited None held most r k e at c le = cc
  held_limited (Some f) held most r k e at c le =
      by (tells (is_forbidden f.usage)) (subst (λ i. RepAt m i r) (sym held.numbered) at) (subst (λ i. Counted (RepAt m i) (r - 1) k) (sym held.numbered) c)
    where
      too_many : is_forbidden f.usage ≡ false → (q : ℕ) → RepAt m f.number q → Counted (RepAt m f.number) (q - 1) most → ⊥
      too_many u q at c = held.unbroken (q ∷ 0 ∷ 0 ∷ 5 ∷ []) (in_reps (in_rep at (one_too_many u e c)))

      over : is_forbidden f.usage ≡ false → RepAt m f.number r → Counted (RepAt m f.number) (r - 1) k → (most < k) ⊎ (k ≤ most) → ⊥
      over u at c (inl lt) = let q = surplus (RepAt m f.number) (r - 1) k most c lt in too_many u q.0 q.1 q.2
      over u at c (inr ge) = too_many u r at (subst (Counted (RepAt m f.number) (r - 1)) (let same : k ≡ most = omega arith in same) c)

      by : (is_forbidden f.usage ≡ true) ⊎ (is_forbidden f.usage ≡ false) → RepAt m f.number r → Counted (RepAt m f.number) (r - 1) k → ⊥
      by (inl u) at c = held.unbroken (0 ∷ 0 ∷ 0 ∷ 4 ∷ []) (field_forbidden u (r, at))
      by (inr u) at c = over u at c (cases_lt most k)

  held_counted : (o : Option FieldValue) → IsHeld names profile m number o → IsCounted (RepAt m number) (repetitions o)
  held_counted None held = record { enough = λ last count l c lt. omega arith; limited = held_limited None held }
  held_counted (Some f) held = record {
    enough = λ last count l c lt. by (tells (is_forbidden f.usage)) last count (subst (λ i. IsLast (RepAt m i) last) (sym held.numbered) l) (subst (λ i. Counted (RepAt m i) last count) (sym held.numbered) c) lt;
    limited = held_limited (Some f) held;
  }
    where
      by : (is_forbidden f.usage ≡ true) ⊎ (is_forbidden f.usage ≡ false) → (last count : ℕ) → IsLast (RepAt m f.number) last → Counted (RepAt m f.number) last count → count < f.card.min → ⊥
      by (inl u) last count l c lt = let least = none_least f.usage f.card held.lawful.agrees u in omega arith
      by (inr u) last count l c lt = held.unbroken (0 ∷ 0 ∷ 0 ∷ 3 ∷ []) (too_few u l c lt)

-- the field of a reference is there as often as is said
pub source_counted : (names : List (List ℕ)) (profile : ProfileValue) (has : HasTables names profile.tables) (k : Known) (m : Texts) → IsKnown names profile k m → (number : ℕ) → IsCounted (RepAt m number) (reference_count k (field_of k.fields number))
source_counted names profile has k m is number = by (is_never k.count.greatest) refl (is_sure k.count) refl
  where
    by : (n : Bool) → is_never k.count.greatest ≡ n → (c : Bool) → is_sure k.count ≡ c → IsCounted (RepAt m number) (if n then never else if c then repetitions (field_of k.fields number) else record { least = 0; greatest = (repetitions (field_of k.fields number)).greatest })
    by true e c f = never_counted (RepAt m number) (λ r at. no_rep m number r (is.never e) at)
    by false e true f = held_counted names profile m number (field_of k.fields number) (sure_held names profile has k m is number f)
    by false e false f = record {
      enough = λ last count l c lt. omega arith;
      limited = λ most r j e at c le. held_limited names profile m number (field_of k.fields number) (known_held names profile has k m is number r at) most r j e at c le;
    }

-- ---- a copy

-- the texts of one field are those of another
abbrev pub IsCopy : Texts → ℕ → Texts → ℕ → Type 0
IsCopy m number source field = (rep comp sub : ℕ) → text_of m number rep comp sub ≡ text_of source field rep comp sub

pub copy_comp : (m : Texts) (number : ℕ) (source : Texts) (field : ℕ) → IsCopy m number source field → (r c : ℕ) → CompAt m number r c → CompAt source field r c
copy_comp m number source field same r c at = (at.0, subst (λ text. 0 < length text) (same r c at.0) at.1)

pub copy_rep : (m : Texts) (number : ℕ) (source : Texts) (field : ℕ) → IsCopy m number source field → (r : ℕ) → RepAt m number r → RepAt source field r
copy_rep m number source field same r at = (at.0, copy_comp m number source field same r at.0 at.1)

pub copy_back : (m : Texts) (number : ℕ) (source : Texts) (field : ℕ) → IsCopy m number source field → IsCopy source field m number
copy_back m number source field same = λ rep comp sub. sym (same rep comp sub)

pub copy_counted : (m : Texts) (number : ℕ) (source : Texts) (field : ℕ) → IsCopy m number source field → (i : Interval) → IsCounted (RepAt source field) i → IsCounted (RepAt m number) i
copy_counted m number source field same =
    counted_alike (RepAt m number) (RepAt source field) (copy_rep m number source field same) (copy_rep source field m number (copy_back m number source field same))

-- ---- the first repetition

-- repetition 1 of a field has the texts of the first of these repetitions of another, and there is no more
abbrev pub IsFirstOf : Texts → ℕ → (ℕ → Type 0) → Texts → ℕ → Type 0
IsFirstOf m number P source field = (rep comp sub : ℕ) → Where (rep ≡ 1) (InFirstOf P source field comp sub) (text_of m number rep comp sub)

module _ (m : Texts) (number : ℕ) (P : ℕ → Type 0) (source : Texts) (field : ℕ) (so : (r : ℕ) → P r → RepAt source field r) (means : IsFirstOf m number P source field) where
  pub first_only : (r : ℕ) → RepAt m number r → r ≡ 1
  first_only r at = by (means r at.0 at.1.0)
    where
      by : Where (r ≡ 1) (InFirstOf P source field at.0 at.1.0) (text_of m number r at.0 at.1.0) → r ≡ 1
      by (inl h) = h.0
      by (inr h) = absurd (text_there _ at.1.1 h.1)

  -- a text of it is one of the other's first repetition
  pub first_taken : (r c k : ℕ) → 0 < length (text_of m number r c k) → (q : ℕ) × IsFirst P q × (text_of m number r c k ≡ text_of source field q c k)
  first_taken r c k lt = by (means r c k)
    where
      inner : InFirstOf P source field c k (text_of m number r c k) → (q : ℕ) × IsFirst P q × (text_of m number r c k ≡ text_of source field q c k)
      inner (inl h) = (h.0, h.1, h.2)
      inner (inr h) = absurd (text_there _ lt h.1)

      by : Where (r ≡ 1) (InFirstOf P source field c k) (text_of m number r c k) → (q : ℕ) × IsFirst P q × (text_of m number r c k ≡ text_of source field q c k)
      by (inl h) = inner h.1
      by (inr h) = absurd (text_there _ lt h.1)

  -- the texts of repetition 1, where there is a first repetition
  pub first_text : (q : ℕ) → IsFirst P q → (c k : ℕ) → text_of m number 1 c k ≡ text_of source field q c k
  first_text q is c k = by (means 1 c k)
    where
      inner : InFirstOf P source field c k (text_of m number 1 c k) → text_of m number 1 c k ≡ text_of source field q c k
      inner (inl h) = h.2 ∙ ap (λ r. text_of source field r c k) (first_once P h.0 q h.1 is)
      inner (inr h) = absurd (h.0 (q, is.holds))

      by : Where (◌≡◌ {A = ℕ} 1 1) (InFirstOf P source field c k) (text_of m number 1 c k) → text_of m number 1 c k ≡ text_of source field q c k
      by (inl h) = inner h.1
      by (inr h) = absurd (h.0 refl)

  first_given : (r : ℕ) → P r → (RepAt m number 1 → ⊥) → ⊥
  first_given r p none =
      first_exists P r p
      (λ q is. let at = so q is.holds in none (at.0, (at.1.0, subst (λ text. 0 < length text) (sym (first_text q is at.0 at.1.0)) at.1.1)))

  pub first_counted : (i : Interval) → IsCounted P i → IsCounted (RepAt m number) (at_most_one i)
  first_counted i is = by i.greatest refl
    where
      there : 1 ≤ min i.least 1 → (RepAt m number 1 → ⊥) → ⊥
      there le none = is.enough 0 0 (last_none P (λ r p. first_given r p none)) refl (omega (arith, le))

      gone : (g : ℕ) → i.greatest ≡ Some g → min g 1 ≡ 0 → RepAt m number 1 → ⊥
      gone g e z at =
          let taken = first_taken 1 at.0 at.1.0 at.1.1 in
          counted_never P i is (e ∙ ap Some (let zero_is : g ≡ 0 = omega (arith, z) in zero_is)) taken.0 taken.1.holds

      by : (o : Option ℕ) → i.greatest ≡ o → IsCounted (RepAt m number) (at_most_one (record { least = i.least; greatest = o }))
      by None e = single (RepAt m number) (min i.least 1) 1 first_only there (omega arith) (λ z at. omega (arith, z))
      by (Some g) e = single (RepAt m number) (min i.least 1) (min g 1) first_only there (omega arith) (gone g e)

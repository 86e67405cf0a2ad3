-- What the source's profile says of the texts that a map reads.
use Rattle.std.proofs.Common.{◌≡◌, ℕ, ◌≤◌, ◌⊎◌, inl, inr, Bool, true, false, List, [], ◌∷◌, Option, Some, None, refl, sym, ap, ◌∙◌, subst, arith, length}
use Rattle.std.specs.Prelude.{◌==◌, ◌&&◌, nat_le, if◌then◌else◌}
use Rattle.std.specs.List.{AllByRecursion}
use Rattle.std.proofs.lemmas.Bool.Decides.{Decides-eqb}
use Rattle.gw_er7.specs.Message.{Texts, text_of}
use Rattle.gw_er7.specs.Presence.{CompAt, RepAt, FieldAt, IsLast}
use Rattle.gw_profile.specs.declared.shape.Usage.{Usage}
use Rattle.gw_profile.specs.declared.shape.Usage.TheVariants.{R, RE, O, X}
use Rattle.gw_profile.specs.Shapes.{FieldValue, ProfileValue}
use Rattle.gw_profile.specs.WellFormed.{LawfulField}
use Rattle.gw_profile.proofs.Facts.{le_is}
use Rattle.gw_profile.proofs.Facts as facts
use Rattle.gw_profile.specs.Lengths.{len_count}
use Rattle.gw_validate.specs.Breaches.{is_required, is_forbidden, is_null, FieldBreach, too_few, field_forbidden, Meets}
use Rattle.gw_leaves.specs.declared.shape.Presence.TheVariants.{Always, Maybe, Never}
use Rattle.gw_resolve.specs.Intervals.{is_sure, is_never}
use Rattle.gw_resolve.specs.Places.{Known, known}
use Rattle.gw_resolve.specs.Resolved.{Source, of_field, of_current}
use Rattle.gw_leaves.specs.Leaves as leaves
use Rattle.gw_leaves.specs.Leaves.{IsOf, Sources, is_always, is_absent, by_usage, comp_presence, sub_presence, rep_presence, field_presence, sub_values, source_shape}
use Rattle.gw_profile.specs.Numbered.{field_of, comp_of, sub_of}
use Rattle.gw_interp.specs.Occurrences.{texts_at}
use Rattle.gw_interp.specs.Meaning.{InFirst, Walked, SourceMeans}
use Rattle.gw_interp.proofs.Walks.{NoText, IsKnown, IsCurrent, IsWalked}
use Rattle.gw_interp.proofs.Lists.{found_test, found_all}
use Rattle.gw_interp.proofs.Shaped.{IsShaped, always_required, absent_forbidden, both_always, both_absent}
use Rattle.gw_interp.proofs.Held.{HasTables, in_found, shaped_any, comp_there, comp_gone, copied_here, rep_shaped}

-- a field of this number, which breaks nothing
pub record IsUnbroken (names : List (List ℕ)) (profile : ProfileValue) (m : Texts) (number : ℕ) (f : FieldValue) : Type 0 where
  pub numbered : f.number ≡ number
  pub lawful : LawfulField names f
  pub unbroken : (spot : List ℕ) → FieldBreach profile m f spot → ⊥

abbrev pub IsHeld : List (List ℕ) → ProfileValue → Texts → ℕ → Option FieldValue → Type 0
IsHeld names profile m number None = Unit {0}
IsHeld names profile m number (Some f) = IsUnbroken names profile m number f

pub always_allowed : (u : Usage) → is_required u ≡ true → is_forbidden u ≡ false
always_allowed R e = refl
always_allowed RE e = refl
always_allowed O e = refl
always_allowed X e = absurd (cc)

-- ---- a repetition that is there, of a field that may be known

module _ (names : List (List ℕ)) (profile : ProfileValue) (has : HasTables names profile.tables) (m : Texts) where
  pub held_shaped : (number : ℕ) (o : Option FieldValue) → IsHeld names profile m number o → (r : ℕ) → RepAt m number r → (n k : ℕ) → IsShaped (record { presence = rep_presence o n k; values = sub_values profile (sub_of (comp_of o n) k) }) (text_of m number r n k)
  held_shaped number None held r at n k = shaped_any (len_count profile) (text_of m number r n k)
  held_shaped number (Some f) held r at n k =
      subst (λ i. RepAt m i r → IsShaped (record { presence = rep_presence (Some f) n k; values = sub_values profile (sub_of (comp_of (Some f) n) k) }) (text_of m i r n k)) held.numbered
      (λ there. rep_shaped names profile has m f held.lawful held.unbroken r there n k) at

  pub held_comp_there : (number : ℕ) (o : Option FieldValue) → IsHeld names profile m number o → (r : ℕ) → RepAt m number r → (n : ℕ) → is_always (comp_presence (comp_of o n)) ≡ true → (CompAt m number r n → ⊥) → ⊥
  held_comp_there number None held r at n e = absurd (cc)
  held_comp_there number (Some f) held r at n e =
      subst (λ i. RepAt m i r → (CompAt m i r n → ⊥) → ⊥) held.numbered (λ there. comp_there names profile has m f held.lawful held.unbroken r there n e) at

  pub held_comp_gone : (number : ℕ) (o : Option FieldValue) → IsHeld names profile m number o → (r : ℕ) → RepAt m number r → (n : ℕ) → is_absent (comp_presence (comp_of o n)) ≡ true → CompAt m number r n → ⊥
  held_comp_gone number None held r at n e = absurd (cc)
  held_comp_gone number (Some f) held r at n e =
      subst (λ i. RepAt m i r → CompAt m i r n → ⊥) held.numbered (λ there. comp_gone names profile has m f held.lawful held.unbroken r there n e) at

  pub held_copied : (number : ℕ) (o : Option FieldValue) → IsHeld names profile m number o → (r : ℕ) → RepAt m number r → (n k : ℕ) → CompAt m number r n → IsShaped (record { presence = sub_presence (comp_of o n) (sub_of (comp_of o n) k); values = sub_values profile (sub_of (comp_of o n) k) }) (text_of m number r n k)
  held_copied number None held r at n k c = shaped_any (len_count profile) (text_of m number r n k)
  held_copied number (Some f) held r at n k c =
      subst (λ i. RepAt m i r → CompAt m i r n → IsShaped (record { presence = sub_presence (comp_of (Some f) n) (sub_of (comp_of (Some f) n) k); values = sub_values profile (sub_of (comp_of (Some f) n) k) }) (text_of m i r n k)) held.numbered
      (λ there c. copied_here names profile has m f held.lawful held.unbroken r there n k c) at c

-- ---- a field at a place

pub no_rep : (m : Texts) (number r : ℕ) → NoText m → RepAt m number r → ⊥
no_rep m number r none at = let e = ap length (none number r at.0 at.1.0) in omega (arith, e, at.1.1)

pub held_of : (names : List (List ℕ)) (profile : ProfileValue) (m : Texts) (fields : List FieldValue) (number : ℕ) → AllByRecursion (LawfulField names) fields → Meets profile fields m → IsHeld names profile m number (field_of fields number)
held_of names profile m fields number lawful meets = by (field_of fields number) refl
  where
    by : (o : Option FieldValue) → field_of fields number ≡ o → IsHeld names profile m number o
    by None e = tt
    by (Some f) e = record {
      numbered = (Decides-eqb f.number number).0 (found_test (λ (g : FieldValue). g.number == number) fields f e);
      lawful = found_all (λ (g : FieldValue). g.number == number) (LawfulField names) fields f e lawful;
      unbroken = λ spot b. meets (f.number ∷ spot) (in_found (λ (g : FieldValue). g.number) (FieldBreach profile m) (λ (g : FieldValue). g.number == number) fields f spot e b);
    }

module _ (names : List (List ℕ)) (profile : ProfileValue) (has : HasTables names profile.tables) (k : Known) (m : Texts) (is : IsKnown names profile k m) (number : ℕ) where
  pub known_held : (r : ℕ) → RepAt m number r → IsHeld names profile m number (field_of k.fields number)
  known_held r at = by is.meets
    where
      by : Meets profile k.fields m ⊎ NoText m → IsHeld names profile m number (field_of k.fields number)
      by (inl meets) = held_of names profile m k.fields number is.lawful meets
      by (inr none) = absurd (no_rep m number r none at)

  pub sure_held : is_sure k.count ≡ true → IsHeld names profile m number (field_of k.fields number)
  sure_held e = held_of names profile m k.fields number is.lawful (is.sure e)

  -- a field that needs a repetition is there
  pub needed : (f : FieldValue) → IsUnbroken names profile m number f → is_required f.usage ≡ true → 1 ≤ f.card.min → (FieldAt m number → ⊥) → ⊥
  needed f held u le none =
      let gone : (r : ℕ) → RepAt m f.number r → ⊥ = λ r at. none (r, subst (λ i. RepAt m i r) held.numbered at) in
      held.unbroken (0 ∷ 0 ∷ 0 ∷ 3 ∷ []) (too_few (always_allowed f.usage u) (empty f.number gone) refl (omega (arith, le)))
    where
      empty : (i : ℕ) → ((r : ℕ) → RepAt m i r → ⊥) → IsLast (RepAt m i) 0
      empty i gone = record { there = λ lt. absurd (omega arith); within = λ r at. absurd (gone r at) }

  always_if : (b : Bool) → is_always (if b then Always else Maybe) ≡ true → b ≡ true
  always_if true e = refl
  always_if false e = absurd (cc)

  absent_if : (b : Bool) → is_absent (if b then Always else Maybe) ≡ true → ⊥
  absent_if true e = cc
  absent_if false e = cc

  pub field_there : is_always (field_presence k (field_of k.fields number)) ≡ true → (FieldAt m number → ⊥) → ⊥
  field_there a none = by (field_of k.fields number) refl (is_never k.count.greatest) refl a
    where
      by : (o : Option FieldValue) → field_of k.fields number ≡ o → (b : Bool) → is_never k.count.greatest ≡ b → is_always (field_presence k o) ≡ true → ⊥
      by None e true n a = let f : is_always (if true then Never else Maybe) ≡ true = subst (λ b. is_always (if b then Never else Maybe) ≡ true) n a in cc
      by None e false n a = let f : is_always (if false then Never else Maybe) ≡ true = subst (λ b. is_always (if b then Never else Maybe) ≡ true) n a in cc
      by (Some f) e true n a =
          let g : is_always Never ≡ true = subst (λ b. is_always (if b then Never else leaves.both (by_usage (Some f.usage)) (if is_sure k.count && nat_le 1 f.card.min then Always else Maybe)) ≡ true) n a in
          cc
      by (Some f) e false n a =
          let p =
          both_always (by_usage (Some f.usage)) (if is_sure k.count && nat_le 1 f.card.min then Always else Maybe)
          (subst (λ b. is_always (if b then Never else leaves.both (by_usage (Some f.usage)) (if is_sure k.count && nat_le 1 f.card.min then Always else Maybe)) ≡ true) n a) in
          let q = facts.both (is_sure k.count) (nat_le 1 f.card.min) (always_if _ p.1) in
          let held : IsUnbroken names profile m number f = subst (IsHeld names profile m number) e (sure_held q.0) in
          needed f held (always_required f.usage p.0) (le_is 1 f.card.min q.1) none

  pub field_gone : is_absent (field_presence k (field_of k.fields number)) ≡ true → FieldAt m number → ⊥
  field_gone a at = by (field_of k.fields number) refl (is_never k.count.greatest) refl a
    where
      by : (o : Option FieldValue) → field_of k.fields number ≡ o → (b : Bool) → is_never k.count.greatest ≡ b → is_absent (field_presence k o) ≡ true → ⊥
      by o e true n a = no_rep m number at.0 (is.never n) at.1
      by None e false n a = let f : is_absent (if false then Never else Maybe) ≡ true = subst (λ b. is_absent (if b then Never else Maybe) ≡ true) n a in cc
      by (Some f) e false n a =
          let held : IsUnbroken names profile m number f = subst (IsHeld names profile m number) e (known_held at.0 at.1) in
          forbidden held
          (both_absent (by_usage (Some f.usage)) (if is_sure k.count && nat_le 1 f.card.min then Always else Maybe)
          (subst (λ b. is_absent (if b then Never else leaves.both (by_usage (Some f.usage)) (if is_sure k.count && nat_le 1 f.card.min then Always else Maybe)) ≡ true) n a))
        where
          forbidden : IsUnbroken names profile m number f → (is_absent (by_usage (Some f.usage)) ≡ true) ⊎ (is_absent (if is_sure k.count && nat_le 1 f.card.min then Always else Maybe) ≡ true) → ⊥
          forbidden held (inl u) = held.unbroken (0 ∷ 0 ∷ 0 ∷ 4 ∷ []) (field_forbidden (absent_forbidden f.usage u) (at.0, subst (λ i. RepAt m i at.0) (sym held.numbered) at.1))
          forbidden held (inr u) = absent_if _ u

  -- the text in the first repetition that is there
  pub first_shaped : (comp sub : ℕ) (text : List ℕ) → InFirst m number comp sub text → IsShaped (record { presence = leaves.both (field_presence k (field_of k.fields number)) (rep_presence (field_of k.fields number) comp sub); values = sub_values profile (sub_of (comp_of (field_of k.fields number) comp) sub) }) text
  first_shaped comp sub text (inl there) =
      let shaped = held_shaped names profile has m number (field_of k.fields number) (known_held there.0 there.1.holds) there.0 there.1.holds comp sub in
      record {
        always = λ e none. shaped.always (both_always (field_presence k (field_of k.fields number)) _ e).1 (sym there.2 ∙ none);
        absent = λ e. there.2 ∙ gone shaped (both_absent (field_presence k (field_of k.fields number)) _ e);
        values = λ some other. subst (IsOf (sub_values profile (sub_of (comp_of (field_of k.fields number) comp) sub))) (sym there.2) (shaped.values (λ e. some (there.2 ∙ e)) (subst (λ t. is_null t ≡ false) there.2 other));
      }
    where
      gone : IsShaped (record { presence = rep_presence (field_of k.fields number) comp sub; values = sub_values profile (sub_of (comp_of (field_of k.fields number) comp) sub) }) (text_of m number there.0 comp sub) → (is_absent (field_presence k (field_of k.fields number)) ≡ true) ⊎ (is_absent (rep_presence (field_of k.fields number) comp sub) ≡ true) → text_of m number there.0 comp sub ≡ []
      gone shaped (inl e) = absurd (field_gone e (there.0, there.1.holds))
      gone shaped (inr e) = shaped.absent e
  first_shaped comp sub text (inr gone) = record {
    always = λ e none. field_there (both_always (field_presence k (field_of k.fields number)) _ e).0 gone.0;
    absent = λ e. gone.1;
    values = λ some other. absurd (some gone.1);
  }

-- ---- a source

module _ (names : List (List ℕ)) (s : Sources) (w : Walked) (has : HasTables names s.profile.tables) (is : IsWalked names s w) where
  pub source_shaped : (source : Source) (text : List ℕ) → SourceMeans w source text → IsShaped (source_shape s source) text
  source_shaped (of_field from comp sub) text means =
      first_shaped names s.profile has (known s.scope from.place) (texts_at w.message w.scope from.place) (is.places from.place) from.field comp sub text means
  source_shaped (of_current comp sub) text means = by s.current is.current
    where
      by : (o : Option FieldValue) → IsCurrent names s.profile o w.current → IsShaped (record { presence = rep_presence o comp sub; values = sub_values s.profile (sub_of (comp_of o comp) sub) }) text
      by None c = shaped_any (len_count s.profile) text
      by (Some f) c = subst (IsShaped (record { presence = rep_presence (Some f) comp sub; values = sub_values s.profile (sub_of (comp_of (Some f) comp) sub) })) (sym (means ∙ c.current_is comp sub)) (rep_shaped names s.profile has c.texts f c.lawful c.unbroken c.rep c.present comp sub)

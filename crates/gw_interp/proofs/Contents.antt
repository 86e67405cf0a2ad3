-- What a field copied from another holds breaks nothing, where no rule fails for it.
use Rattle.std.proofs.Common.{◌≡◌, ℕ, ◌<◌, Bool, true, false, List, [], ◌∷◌, Option, refl, sym, ap, ◌∙◌, subst, arith, length}
use Rattle.std.specs.Prelude.{◌&&◌, not, flat_map}
use Rattle.std.specs.List.{AllByRecursion}
use Rattle.gw_er7.specs.Message.{Texts, text_of}
use Rattle.gw_er7.specs.Presence.{CompAt, RepAt}
use Rattle.gw_profile.specs.Shapes.{SubValue, CompValue, FieldValue, ProfileValue}
use Rattle.gw_profile.proofs.Facts.{no_clash}
use Rattle.gw_validate.specs.Breaches.{is_required, is_forbidden, is_null, SubBreach, sub_absent, sub_forbidden, too_long, not_listed, InAny, in_first, in_later, CompBreach, comp_absent, comp_forbidden, in_sub}
use Rattle.gw_resolve.specs.Failures.{Mark, fails}
use Rattle.gw_leaves.specs.Leaves.{Shape, is_always, is_absent, comp_presence, sub_presence, sub_values}
use Rattle.gw_profile.specs.Numbered.{comp_of, sub_of}
use Rattle.gw_leaves.specs.Components.{comp_in, sub_in, value_failures, copied_sub, copied_comp}
use Rattle.gw_interp.proofs.Lists.{all_as, none_fails, three_empty, each_empty}
use Rattle.gw_interp.proofs.Shaped.{IsShaped, IsFit, fit_values, no_text, text_there}
use Rattle.gw_interp.proofs.Held.{HasTables}
use Rattle.gw_interp.proofs.Sources.{IsHeld, held_copied, held_comp_there, held_comp_gone}
use Rattle.gw_interp.proofs.Carried.{IsCopy, copy_rep, IsFirstOf, first_only, first_taken, first_text}

-- ---- breaches

-- no shape is broken, so none of them is
pub none_broken : {A : Type 0} (number : A → ℕ) (B : A → List ℕ → Type 0) (xs : List A) → AllByRecursion (λ x. (spot : List ℕ) → B x spot → ⊥) xs → (spot : List ℕ) → InAny number B xs spot → ⊥
none_broken number B [] h spot b = elim b [ ]
none_broken number B (x ∷ xs) h spot (in_first {spot = p} b) = h.0 p b
none_broken number B (x ∷ xs) h spot (in_later b) = none_broken number B xs h.1 spot b

-- where a demand doesn't fail
pub demanded : (asked met : Bool) → asked && not met ≡ false → asked ≡ true → met ≡ true
demanded true true e f = refl
demanded true false e f = absurd (cc)
demanded false met e f = absurd (cc)

empty_text : (text : List ℕ) → length text ≡ 0 → text ≡ []
empty_text text e = no_text text (λ lt. omega arith)

-- what is needed is there, what is forbidden isn't, and what is there fits
pub sub_unbroken : (profile : ProfileValue) (s : SubValue) (text : List ℕ) → (is_required s.usage ≡ true → text ≡ [] → ⊥) → (is_forbidden s.usage ≡ true → text ≡ []) → ((text ≡ [] → ⊥) → is_null text ≡ false → IsFit profile s text) → (spot : List ℕ) → SubBreach profile s text spot → ⊥
sub_unbroken profile s text need gone fit spot (sub_absent u z) = need u (empty_text text z)
sub_unbroken profile s text need gone fit spot (sub_forbidden u lt) = text_there text lt (gone u)
sub_unbroken profile s text need gone fit spot (too_long lt n l) = no_clash (sym l ∙ (fit (text_there text lt) n).short)
sub_unbroken profile s text need gone fit spot (not_listed lt n l) = no_clash (sym l ∙ (fit (text_there text lt) n).in_its_table)

-- ---- copies

-- the texts of this repetition are those of one that is there
pub record IsCopied (m : Texts) (number : ℕ) (source : Texts) (field r : ℕ) : Type 0 where
  pub rep : ℕ
  pub there : RepAt source field rep
  pub texts : (c k : ℕ) → text_of m number r c k ≡ text_of source field rep c k

pub copied_whole : (m : Texts) (number : ℕ) (source : Texts) (field : ℕ) → IsCopy m number source field → (r : ℕ) → RepAt m number r → IsCopied m number source field r
copied_whole m number source field same r at = record { rep = r; there = copy_rep m number source field same r at; texts = λ c k. same r c k }

pub copied_first : (m : Texts) (number : ℕ) (P : ℕ → Type 0) (source : Texts) (field : ℕ) → ((r : ℕ) → P r → RepAt source field r) → IsFirstOf m number P source field → (r : ℕ) → RepAt m number r → IsCopied m number source field r
copied_first m number P source field so means r at =
    let taken = first_taken m number P source field so means r at.0 at.1.0 at.1.1 in
    record {
      rep = taken.0;
      there = so taken.0 taken.1.holds;
      texts = λ c k. ap (λ i. text_of m number i c k) (first_only m number P source field so means r at) ∙ first_text m number P source field so means taken.0 taken.1 c k;
    }

module _ (names : List (List ℕ)) (from to : ProfileValue) (has : HasTables names from.tables) (m : Texts) (number : ℕ) (source : Texts) (field : ℕ) (o : Option FieldValue) (held : IsHeld names from source field o) (r : ℕ) (is : IsCopied m number source field r) (mark : Mark) where
  sub_kept : (mark : Mark) (n : ℕ) (s : SubValue) → CompAt source field is.rep n → copied_sub from to mark (comp_of o n) s ≡ [] → (spot : List ℕ) → SubBreach to s (text_of m number r n s.number) spot → ⊥
  sub_kept mark n s at none =
      let shape : Shape = record { presence = sub_presence (comp_of o n) (sub_of (comp_of o n) s.number); values = sub_values from (sub_of (comp_of o n) s.number) } in
      let parts = three_empty _ _ (value_failures to (sub_in mark s.number) shape s) none in
      let shaped : IsShaped shape (text_of m number r n s.number) = subst (IsShaped shape) (sym (is.texts n s.number)) (held_copied names from has source field o held is.rep is.there n s.number at) in
      sub_unbroken to s (text_of m number r n s.number) (λ u. shaped.always (demanded (is_required s.usage) _ (none_fails 5 _ _ parts.0) u))
      (λ u. shaped.absent (demanded (is_forbidden s.usage) _ (none_fails 11 _ _ parts.1) u)) (fit_values to (sub_in mark s.number) shape s (text_of m number r n s.number) parts.2 shaped)

  comp_kept : (c : CompValue) → copied_comp from to mark o c ≡ [] → (spot : List ℕ) → CompBreach to m number r c spot → ⊥
  comp_kept c none = by (three_empty _ _ (flat_map (copied_sub from to (comp_in mark c.number) (comp_of o c.number)) c.subs) none)
    where
      there : CompAt m number r c.number → CompAt source field is.rep c.number
      there at = (at.0, subst (λ text. 0 < length text) (is.texts c.number at.0) at.1)

      back : CompAt source field is.rep c.number → CompAt m number r c.number
      back at = (at.0, subst (λ text. 0 < length text) (sym (is.texts c.number at.0)) at.1)

      by : (fails 5 (comp_in mark c.number) (is_required c.usage && not (is_always (comp_presence (comp_of o c.number)))) ≡ []) × (fails 11 (comp_in mark c.number) (is_forbidden c.usage && not (is_absent (comp_presence (comp_of o c.number)))) ≡ []) × (flat_map (copied_sub from to (comp_in mark c.number) (comp_of o c.number)) c.subs ≡ []) → (spot : List ℕ) → CompBreach to m number r c spot → ⊥
      by parts spot (comp_absent u gone) =
          held_comp_there names from has source field o held is.rep is.there c.number (demanded (is_required c.usage) _ (none_fails 5 _ _ parts.0) u) (λ at. gone (back at))
      by parts spot (comp_forbidden u at) =
          held_comp_gone names from has source field o held is.rep is.there c.number (demanded (is_forbidden c.usage) _ (none_fails 11 _ _ parts.1) u) (there at)
      by parts spot (in_sub at b) =
          none_broken (λ (s : SubValue). s.number) (λ (s : SubValue). SubBreach to s (text_of m number r c.number s.number)) c.subs
          (all_as (λ (s : SubValue). copied_sub from to (comp_in mark c.number) (comp_of o c.number) s ≡ []) (λ (s : SubValue). (spot : List ℕ) → SubBreach to s (text_of m number r c.number s.number) spot → ⊥)
          (λ s e. sub_kept (comp_in mark c.number) c.number s (there at) e) c.subs (each_empty (copied_sub from to (comp_in mark c.number) (comp_of o c.number)) c.subs parts.2)) spot b

  -- a repetition that is copied breaks no component
  pub comps_kept : (comps : List CompValue) → flat_map (copied_comp from to mark o) comps ≡ [] → (spot : List ℕ) → InAny (λ c. c.number) (CompBreach to m number r) comps spot → ⊥
  comps_kept comps none =
      none_broken (λ (c : CompValue). c.number) (CompBreach to m number r) comps
      (all_as (λ (c : CompValue). copied_comp from to mark o c ≡ []) (λ (c : CompValue). (spot : List ℕ) → CompBreach to m number r c spot → ⊥) (λ c e. comp_kept c e) comps (each_empty (copied_comp from to mark o) comps none))

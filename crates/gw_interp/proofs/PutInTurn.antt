-- Leaves that are put one after the other.
use Rattle.std.proofs.Common.{◌≡◌, ℕ, suc, inl, inr, List, [], ◌∷◌, None, refl, sym, ap, ◌∙◌, subst, arith, length, map}
use Rattle.std.specs.Prelude.{unwrap_or}
use Rattle.std.specs.List.{AllByRecursion}
use Rattle.std.specs.FinMap as texts
use Rattle.gw_er7.specs.Message.{Texts, SegmentValue}
use Rattle.gw_er7.specs.Building.{with_last}
use Rattle.gw_maplang.specs.Among.{Among}
use Rattle.gw_resolve.specs.Resolved.{At, alternatives}
use Rattle.gw_interp.specs.Meaning.{Walked, FirstText}
use Rattle.gw_interp.specs.own.Putting.{last_name, last_texts}
use Rattle.gw_interp.specs.own.Filling.{key_of, MayHold, IsHeld, MayFill, AreFilled}
use Rattle.gw_interp.proofs.Fills.{same_last}

abbrev pub at_last : Texts → SegmentValue → SegmentValue
at_last t s = record s { at = t }

pub same_name : (t : Texts) (old : List SegmentValue) → last_name (with_last (at_last t) old) ≡ last_name old
same_name t [] = refl
same_name t (s ∷ []) = refl
same_name t (s ∷ u ∷ []) = refl
same_name t (s ∷ u ∷ v ∷ ss) = same_name t (u ∷ v ∷ ss)

pub same_length : (t : Texts) (old : List SegmentValue) → length (with_last (at_last t) old) ≡ length old
same_length t [] = refl
same_length t (s ∷ []) = refl
same_length t (s ∷ u ∷ ss) = ap suc (same_length t (u ∷ ss))

pub twice : (t r : Texts) (old : List SegmentValue) → with_last (at_last r) (with_last (at_last t) old) ≡ with_last (at_last r) old
twice t r [] = refl
twice t r (s ∷ []) = refl
twice t r (s ∷ u ∷ []) = refl
twice t r (s ∷ u ∷ v ∷ ss) = ap (λ l. s ∷ l) (twice t r (u ∷ v ∷ ss))

module _ (w : Walked) (field rep : ℕ) where
  pub none_filled : (old : List SegmentValue) → AreFilled w field rep [] old old
  none_filled old = record { others = same_last old; each = tt; elsewhere = λ key apart. refl; keeps = λ h. h }

  free_on : (a : At) (old new : List SegmentValue) → IsHeld w field rep a old new → (leaves : List At) → (Among (key_of field rep a) (map (key_of field rep) leaves) → ⊥) → AllByRecursion (λ b. texts.get (last_texts old) (key_of field rep b) ≡ None) leaves → AllByRecursion (λ b. texts.get (last_texts new) (key_of field rep b) ≡ None) leaves
  free_on a old new held [] apart free = tt
  free_on a old new held (b ∷ leaves) apart free =
      (held.put.elsewhere (key_of field rep b) (λ e. apart (inl (sym e))) ∙ free.0, free_on a old new held leaves (λ h. apart (inr h)) free.1)

  pub may_go_on : (a : At) (leaves : List At) (old new : List SegmentValue) → MayFill w field rep (a ∷ leaves) old → IsHeld w field rep a old new → MayFill w field rep leaves new
  may_go_on a leaves old new may held =
      let name : last_name old ≡ last_name new = sym (ap last_name held.put.others ∙ same_name (last_texts new) old) in
      let long : length new ≡ length old = ap length held.put.others ∙ same_length (last_texts new) old in
      record {
        begun = omega (arith, may.begun, long);
        free = free_on a old new held leaves may.distinct.0 may.free.1;
        distinct = may.distinct.1;
        each = subst (λ n. AllByRecursion (MayHold w field rep n) leaves) name may.each.1;
      }

  pub more_filled : (a : At) (leaves : List At) (old mid new : List SegmentValue) → MayFill w field rep (a ∷ leaves) old → IsHeld w field rep a old mid → AreFilled w field rep leaves mid new → AreFilled w field rep (a ∷ leaves) old new
  more_filled a leaves old mid new may held filled =
      let text : unwrap_or (texts.get (last_texts new) (key_of field rep a)) [] ≡ held.text =
      ap (λ o. unwrap_or o []) (filled.elsewhere (key_of field rep a) may.distinct.0) ∙ held.put.here in
      record {
        others = filled.others ∙ ap (with_last (at_last (last_texts new))) held.put.others ∙ twice (last_texts mid) (last_texts new) old;
        each = (subst (FirstText w (alternatives a)) (sym text) held.means, filled.each);
        elsewhere = λ key apart. filled.elsewhere key (λ h. apart (inr h)) ∙ held.put.elsewhere key (λ e. apart (inl e));
        keeps = λ h. filled.keeps (held.put.keeps h);
      }

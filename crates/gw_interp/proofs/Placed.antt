-- Leaves at the places of a repetition.
use Rattle.std.proofs.Common.{◌≡◌, ℕ, inl, inr, Bool, true, false, cond, List, [], ◌∷◌, map, Option, Some, None, refl, sym, ap, ◌∙◌, subst}
use Rattle.std.specs.Prelude.{◌==◌, ◌&&◌, find, unwrap_or}
use Rattle.std.specs.List.{AllByRecursion}
use Rattle.std.proofs.lemmas.Bool.Decides.{Decides-eqb}
use Rattle.std.specs.FinMap as texts
use Rattle.gw_er7.specs.Message.{SegmentValue}
use Rattle.gw_profile.proofs.Facts.{and_of}
use Rattle.gw_maplang.specs.declared.rule.LeafPlace.{LeafPlace}
use Rattle.gw_maplang.specs.Among.{Among, Distinct}
use Rattle.gw_resolve.specs.Lawful.{place, places}
use Rattle.gw_resolve.specs.Resolved.{At, alternatives, leaf_at}
use Rattle.gw_interp.specs.Meaning.{Walked, FirstText, AtMeans}
use Rattle.gw_interp.specs.own.Sourced.{NoFaultOf}
use Rattle.gw_interp.specs.own.Putting.{last_name, last_texts}
use Rattle.gw_interp.specs.own.Filling.{key_of, MayHold, MayFill, AreFilled}
use Rattle.gw_interp.specs.own.Making.{rep_key, LeavesMean, MayFillRep, IsRepFilled}
use Rattle.gw_interp.proofs.Lists.{all_with, found_all, found_each}
use Rattle.gw_interp.proofs.Made.{own_number, same_place, comp_is, sub_is}

-- where none is found, none passes
pub none_passes : {A : Type 0} (test : A → Bool) (x : A) (xs : List A) → find test (x ∷ xs) ≡ None → (test x ≡ false) × (find test xs ≡ None)
none_passes test x xs e = by (test x) refl e
  where
    by : (b : Bool) → test x ≡ b → cond b (Some x) (find test xs) ≡ None → (test x ≡ false) × (find test xs ≡ None)
    by true f g = absurd (cc)
    by false f g = (f, g)

pub clash : (b : Bool) → b ≡ true → b ≡ false → ⊥
clash true e f = absurd (cc)
clash false e f = absurd (cc)

module _ (w : Walked) (field rep : ℕ) where
  key_place : (a b : At) → key_of field rep a ≡ key_of field rep b → place a ≡ place b
  key_place a b e =
      let comp : a.comp ≡ b.comp = cc in
      let sub : a.sub ≡ b.sub = cc in
      λ i. record { comp = comp i; sub = sub i }

  apart_key : (a : At) (leaves : List At) → (Among (place a) (places leaves) → ⊥) → Among (key_of field rep a) (map (key_of field rep) leaves) → ⊥
  apart_key a [] n h = h
  apart_key a (b ∷ leaves) n (inl e) = n (inl (key_place a b e))
  apart_key a (b ∷ leaves) n (inr h) = apart_key a leaves (λ x. n (inr x)) h

  apart_keys : (leaves : List At) → Distinct (places leaves) → Distinct (map (key_of field rep) leaves)
  apart_keys [] d = tt
  apart_keys (a ∷ leaves) d = (apart_key a leaves d.0, apart_keys leaves d.1)

  free_keys : (old : List SegmentValue) → ((p : ℕ × ℕ) → texts.get (last_texts old) (rep_key field rep p) ≡ None) → (leaves : List At) → AllByRecursion (λ a. texts.get (last_texts old) (key_of field rep a) ≡ None) leaves
  free_keys old free [] = tt
  free_keys old free (a ∷ leaves) = (free (a.comp, a.sub), free_keys old free leaves)

  pub may_fill : (leaves : List At) (old : List SegmentValue) → MayFillRep w field rep leaves old → MayFill w field rep leaves old
  may_fill leaves old may =
      record {
        begun = may.make.begun;
        free = free_keys old may.make.free leaves;
        distinct = apart_keys leaves may.distinct;
        each = all_with (λ (a : At). leaf_at leaves a.comp a.sub ≡ Some a) (λ (a : At). NoFaultOf w (alternatives a)) (MayHold w field rep (last_name old)) holds leaves found may.no_faults;
      }
    where
      found : AllByRecursion (λ (a : At). leaf_at leaves a.comp a.sub ≡ Some a) leaves
      found = found_each place (λ (p : LeafPlace) (a : At). a.comp == p.comp && a.sub == p.sub) (λ a. and_of (a.comp == a.comp) (a.sub == a.sub) (own_number a.comp) (own_number a.sub)) same_place leaves may.distinct

      holds : (a : At) → leaf_at leaves a.comp a.sub ≡ Some a → (NoFaultOf w (alternatives a)) → MayHold w field rep (last_name old) a
      holds a e no_fault = record { entry = λ text means some. may.make.entry (a.comp, a.sub) text (subst (λ o. AtMeans w o text) (sym e) means) some; no_fault = no_fault }

  some_key : (leaves : List At) (k : List ℕ) → Among k (map (key_of field rep) leaves) → ((p : ℕ × ℕ) → k ≡ rep_key field rep p → ⊥) → ⊥
  some_key [] k h away = h
  some_key (a ∷ leaves) k (inl e) away = away (a.comp, a.sub) e
  some_key (a ∷ leaves) k (inr h) away = some_key leaves k h away

  not_there : (leaves : List At) (c s : ℕ) → leaf_at leaves c s ≡ None → Among (rep_key field rep (c, s)) (map (key_of field rep) leaves) → ⊥
  not_there [] c s e h = h
  not_there (a ∷ leaves) c s e (inl same) =
      let comp : a.comp ≡ c = cc in
      let sub : a.sub ≡ s = cc in
      clash (a.comp == c && a.sub == s) (and_of (a.comp == c) (a.sub == s) ((Decides-eqb a.comp c).1 comp) ((Decides-eqb a.sub s).1 sub))
      (none_passes (λ (b : At). b.comp == c && b.sub == s) a leaves e).0
  not_there (a ∷ leaves) c s e (inr h) = not_there leaves c s (none_passes (λ (b : At). b.comp == c && b.sub == s) a leaves e).1 h

  pub rep_filled : (leaves : List At) (old new : List SegmentValue) → MayFillRep w field rep leaves old → AreFilled w field rep leaves old new → IsRepFilled w field rep leaves old new
  rep_filled leaves old new may filled =
      record {
        others = filled.others;
        each = λ p. by p.0 p.1 (leaf_at leaves p.0 p.1) refl;
        elsewhere = λ k away. filled.elsewhere k (λ h. some_key leaves k h away);
        keeps = filled.keeps;
      }
    where
      same_key : (c s : ℕ) (a : At) → leaf_at leaves c s ≡ Some a → key_of field rep a ≡ rep_key field rep (c, s)
      same_key c s a e = let comp = comp_is leaves c s a e in let sub = sub_is leaves c s a e in λ i. field ∷ rep ∷ comp i ∷ sub i ∷ []

      by : (c s : ℕ) (o : Option At) → leaf_at leaves c s ≡ o → LeavesMean w leaves (c, s) (unwrap_or (texts.get (last_texts new) (rep_key field rep (c, s))) [])
      by c s None e =
          subst (λ o. AtMeans w o (unwrap_or (texts.get (last_texts new) (rep_key field rep (c, s))) [])) (sym e)
          (ap (λ o. unwrap_or o []) (filled.elsewhere (rep_key field rep (c, s)) (not_there leaves c s e) ∙ may.make.free (c, s)))
      by c s (Some a) e =
          subst (λ o. AtMeans w o (unwrap_or (texts.get (last_texts new) (rep_key field rep (c, s))) [])) (sym e)
          (subst (λ k. FirstText w (alternatives a) (unwrap_or (texts.get (last_texts new) k) [])) (same_key c s a e)
          (found_all (λ (b : At). b.comp == c && b.sub == s) (λ (b : At). FirstText w (alternatives b) (unwrap_or (texts.get (last_texts new) (key_of field rep b)) [])) leaves a e filled.each))

-- Texts that are put number by number: of components, of repetitions.
use Rattle.std.proofs.Common.{◌≡◌, ◌⊎◌, inl, inr, ℕ, ◌<◌, ◌≤◌, List, [], None, refl, sym, ap, ◌∙◌, subst, arith, length}
use Rattle.std.specs.Prelude.{unwrap_or}
use Rattle.std.proofs.lemmas.Bool.Decides.{leb_tells}
use Rattle.std.specs.FinMap as texts
use Rattle.gw_er7.specs.Message.{SegmentValue, first_field, IsEntry}
use Rattle.gw_er7.specs.Building.{IsBegun, with_last}
use Rattle.gw_interp.specs.own.Putting.{last_name, last_texts}
use Rattle.gw_interp.specs.own.Making.{MayMake, AreMade}
use Rattle.gw_interp.proofs.Fills.{same_last}
use Rattle.gw_interp.proofs.PutInTurn.{at_last, same_name, same_length, twice}

pub split_at : (k n : ℕ) → (k ≤ n) ⊎ (n < k)
split_at k n =
    elim (leb_tells k n) [
      | inl x ↦ inl x.1
      | inr x ↦ inr (omega (arith, x.1))
    ]

pub no_text_there : (old : List SegmentValue) (key : List ℕ) → texts.get (last_texts old) key ≡ None → [] ≡ unwrap_or (texts.get (last_texts old) key) []
no_text_there old key e = sym (ap (λ o. unwrap_or o []) e)

pub others_on : (old mid new : List SegmentValue) → mid ≡ with_last (at_last (last_texts mid)) old → new ≡ with_last (at_last (last_texts new)) mid → new ≡ with_last (at_last (last_texts new)) old
others_on old mid new e f = f ∙ ap (with_last (at_last (last_texts new))) e ∙ twice (last_texts mid) (last_texts new) old

pub name_on : (old new : List SegmentValue) → new ≡ with_last (at_last (last_texts new)) old → last_name old ≡ last_name new
name_on old new e = sym (ap last_name e ∙ same_name (last_texts new) old)

pub begun_on : (old new : List SegmentValue) → new ≡ with_last (at_last (last_texts new)) old → 0 < length old → 0 < length new
begun_on old new e lt = let long : length new ≡ length old = ap length e ∙ same_length (last_texts new) old in omega (arith, lt, long)

-- the places up to this number have their texts, and those behind have none yet
pub record UpTo (I : Type 0) (key : ℕ → I → List ℕ) (Means : ℕ → I → List ℕ → Type 0) (old : List SegmentValue) (n : ℕ) (new : List SegmentValue) : Type 0 where
  pub others : new ≡ with_last (λ s. record s { at = last_texts new }) old
  pub each : (k : ℕ) → k ≤ n → (i : I) → Means k i (unwrap_or (texts.get (last_texts new) (key k i)) [])
  pub later : (k : ℕ) → n < k → (i : I) → texts.get (last_texts new) (key k i) ≡ None
  pub elsewhere : (k : List ℕ) → ((p : ℕ × I) → k ≡ key p.0 p.1 → ⊥) → texts.get (last_texts new) k ≡ texts.get (last_texts old) k
  pub keeps : IsBegun old → IsBegun new

module _ (I : Type 0) (key : ℕ → I → List ℕ) (Means : ℕ → I → List ℕ → Type 0) (old : List SegmentValue) where
  pub none_made : MayMake (ℕ × I) (λ p. key p.0 p.1) (λ p. Means p.0 p.1) old → ((i : I) → Means 0 i []) → UpTo I key Means old 0 old
  none_made may absent =
      record {
        others = same_last old;
        each = λ k le i. let zero_is : 0 ≡ k = omega (arith, le) in subst (λ j. Means j i (unwrap_or (texts.get (last_texts old) (key j i)) [])) zero_is (subst (Means 0 i) (no_text_there old (key 0 i) (may.free (0, i))) (absent i));
        later = λ k lt i. may.free (k, i);
        elsewhere = λ k apart. refl;
        keeps = λ h. h;
      }

  pub may_next : (n next : ℕ) (mid : List SegmentValue) → n < next → MayMake (ℕ × I) (λ p. key p.0 p.1) (λ p. Means p.0 p.1) old → UpTo I key Means old n mid → MayMake I (key next) (Means next) mid
  may_next n next mid lt may up =
      record {
        begun = begun_on old mid up.others may.begun;
        free = up.later next lt;
        entry = λ i text means some. subst (λ name. IsEntry (first_field name) (key next i, text)) (name_on old mid up.others) (may.entry (next, i) text means some);
      }

  module _ (apart : (k j : ℕ) (i h : I) → key k i ≡ key j h → k ≡ j) where
    pub next_made : (n next : ℕ) (mid new : List SegmentValue) → n < next → ((k : ℕ) → n < k → k < next → (i : I) → Means k i []) → UpTo I key Means old n mid → AreMade I (key next) (Means next) mid new → UpTo I key Means old next new
    next_made n next mid new lt between up made =
        record {
          others = others_on old mid new up.others made.others;
          each = each;
          later = λ k more i. kept k i (λ e. omega (arith, more, e)) ∙ up.later k (omega (arith, lt, more)) i;
          elsewhere = λ k away. made.elsewhere k (λ i e. away (next, i) e) ∙ up.elsewhere k away;
          keeps = λ h. made.keeps (up.keeps h);
        }
      where
        kept : (k : ℕ) (i : I) → (k ≡ next → ⊥) → texts.get (last_texts new) (key k i) ≡ texts.get (last_texts mid) (key k i)
        kept k i other = made.elsewhere (key k i) (λ h e. other (apart k next i h e))

        each : (k : ℕ) → k ≤ next → (i : I) → Means k i (unwrap_or (texts.get (last_texts new) (key k i)) [])
        each k le i = by (split_at k n) (split_at next k)
          where
            by : (k ≤ n) ⊎ (n < k) → (next ≤ k) ⊎ (k < next) → Means k i (unwrap_or (texts.get (last_texts new) (key k i)) [])
            by (inl below) h = subst (λ o. Means k i (unwrap_or o [])) (sym (kept k i (λ e. omega (arith, below, lt, e)))) (up.each k below i)
            by (inr behind) (inl at) = let same : next ≡ k = omega (arith, le, at) in subst (λ j. Means j i (unwrap_or (texts.get (last_texts new) (key j i)) [])) same (made.each i)
            by (inr behind) (inr before) = subst (Means k i) (no_text_there new (key k i) (kept k i (λ e. omega (arith, before, e)) ∙ up.later k behind i)) (between k behind before i)

  pub all_made : (n : ℕ) (new : List SegmentValue) → ((k : ℕ) → n < k → (i : I) → Means k i []) → UpTo I key Means old n new → AreMade (ℕ × I) (λ p. key p.0 p.1) (λ p. Means p.0 p.1) old new
  all_made n new absent up =
      record {
        others = up.others;
        each = λ p. by p.0 p.1 (split_at p.0 n);
        elsewhere = up.elsewhere;
        keeps = up.keeps;
      }
    where
      by : (k : ℕ) (i : I) → (k ≤ n) ⊎ (n < k) → Means k i (unwrap_or (texts.get (last_texts new) (key k i)) [])
      by k i (inl le) = up.each k le i
      by k i (inr lt) = subst (Means k i) (no_text_there new (key k i) (up.later k lt i)) (absent k lt i)

-- Cutting lists of names.
use Rattle.std.proofs.Common.{◌≡◌, ℕ, zero, suc, ◌-◌, ◌≤◌, List, [], ◌∷◌, ◌++◌, Option, Some, None, refl, sym, ap, ◌∙◌, subst, arith, append_assoc}
use Rattle.gw_validate.specs.Cuts.{Cut, Many, Times}
use Rattle.gw_validate.specs.own.Residual.{less}
use Rattle.gw_profile.specs.Deterministic.{Name, AtMost, Below}

nil_front : (a b : List Name) → [] ≡ a ++ b → a ≡ []
nil_front [] b e = refl
nil_front (y ∷ a) b e = cc

-- where the first name of a joined list stands
pub data Uncons (x : Name) (w a b : List Name) : Type 0 where
  in_back : a ≡ [] → b ≡ x ∷ w → Uncons x w a b
  in_front : (a' : List Name) → a ≡ x ∷ a' → w ≡ a' ++ b → Uncons x w a b

pub uncons : (x : Name) (w a b : List Name) → x ∷ w ≡ a ++ b → Uncons x w a b
uncons x w [] b e = in_back refl (sym e)
uncons x w (y ∷ a) b e = in_front a (cc) (cc)

pub at_most_one : (high : Option ℕ) (j : ℕ) → AtMost high (suc j) → Below 0 high
at_most_one None j h = tt
at_most_one (Some m) j h = omega arith

pub at_most_less : (high : Option ℕ) (j : ℕ) → AtMost high (suc j) → AtMost (less high) j
at_most_less None j h = tt
at_most_less (Some m) j h = omega arith

pub at_most_more : (high : Option ℕ) (j : ℕ) → Below 0 high → AtMost (less high) j → AtMost high (suc j)
at_most_more None j h i = tt
at_most_more (Some m) j h i = omega arith

pub at_most_zero : (high : Option ℕ) (j : ℕ) → AtMost high j → AtMost high 0
at_most_zero None j h = tt
at_most_zero (Some m) j h = omega arith

pub below_less : (low : ℕ) (high : Option ℕ) → Below (low - 1) (less high) → Below low high
below_less low None h = tt
below_less low (Some m) h = omega arith

pub less_least : (low : ℕ) (high : Option ℕ) → AtMost high low → AtMost (less high) (low - 1)
less_least low None h = tt
less_least low (Some m) h = omega arith

pub below_one : (high : Option ℕ) → Below 0 (less high) → Below 1 high
below_one None h = tt
below_one (Some m) h = omega arith

pub below_two : (high : Option ℕ) → Below 1 (less high) → Below 1 high
below_two None h = tt
below_two (Some m) h = omega arith

module _ (P R : List Name → Type 0) (low : ℕ) (high : Option ℕ) where
  -- how a list of several occurrences and what comes behind them begins
  pub data Starts (x : Name) (w : List Name) : Type 0 where
    passed : low ≡ 0 → R (x ∷ w) → Starts x w
    taken : Below 0 high → (p q : List Name) → w ≡ p ++ q → P (x ∷ p) → Cut (Times (low - 1) (less high) P) R q → Starts x w

  starts_many : (x : Name) (w front back : List Name) → (P [] → ⊥) → R back → (k : ℕ) → low ≤ k → AtMost high k → Many P k front → x ∷ w ≡ front ++ back → Starts x w
  starts_many x w front back full r zero le most many e =
      passed (omega arith) (subst R (sym (e ∙ ap (λ f. f ++ back) many)) r)
  starts_many x w front back full r (suc j) le most many e =
      let one = many in
      let e' : x ∷ w ≡ one.front ++ (one.back ++ back) = e ∙ ap (λ f. f ++ back) one.joined ∙ append_assoc one.front one.back back in
      elim (uncons x w one.front (one.back ++ back) e') [
        | in_back n _ ↦ absurd (full (subst P n one.here))
        | in_front p f g ↦
            taken (at_most_one high j most) p (one.back ++ back) g (subst P f one.here)
            (record { front = one.back; back = back; joined = refl; here = (j, omega arith, at_most_less high j most, one.there); there = r })
      ]

  pub starts : (x : Name) (w : List Name) → (P [] → ⊥) → Cut (Times low high P) R (x ∷ w) → Starts x w
  starts x w full c = starts_many x w c.front c.back full c.there c.here.0 c.here.1 c.here.2 c.here.3 c.joined

  pub begin_taken : (x : Name) (w p q : List Name) → Below 0 high → w ≡ p ++ q → P (x ∷ p) → Cut (Times (low - 1) (less high) P) R q → Cut (Times low high P) R (x ∷ w)
  begin_taken x w p q b e h c =
      record {
        front = (x ∷ p) ++ c.front;
        back = c.back;
        joined = ap (λ l. x ∷ l) (e ∙ ap (λ l. p ++ l) c.joined) ∙ sym (append_assoc (x ∷ p) c.front c.back);
        here = (suc c.here.0, omega (arith, c.here.1), at_most_more high c.here.0 b c.here.2, record { front = x ∷ p; back = c.front; joined = refl; here = h; there = c.here.3 });
        there = c.there;
      }

  pub begin_passed : (l : List Name) → low ≡ 0 → AtMost high 0 → R l → Cut (Times low high P) R l
  begin_passed l z m r = record { front = []; back = l; joined = refl; here = (0, omega arith, m, refl); there = r }

  -- where one occurrence is not empty, an empty list has none
  starts_none : (front back : List Name) → (P [] → ⊥) → R back → (k : ℕ) → low ≤ k → Many P k front → [] ≡ front ++ back → (low ≡ 0) × R []
  starts_none front back full r zero le many e = (omega arith, subst R (sym (e ∙ ap (λ f. f ++ back) many)) r)
  starts_none front back full r (suc j) le many e =
      let f : front ≡ [] = nil_front front back e in
      absurd (full (subst P (nil_front many.front many.back (sym f ∙ many.joined)) many.here))

  pub none : (P [] → ⊥) → Cut (Times low high P) R [] → (low ≡ 0) × R []
  none full c = starts_none c.front c.back full c.there c.here.0 c.here.1 c.here.3 c.joined

module _ (P Q R : List Name → Type 0) where
  pub cut_left : (l : List Name) → Cut P (Cut Q R) l → Cut (Cut P Q) R l
  cut_left l c =
      record { front = c.front ++ c.there.front; back = c.there.back; joined = c.joined ∙ ap (λ b. c.front ++ b) c.there.joined ∙ sym (append_assoc c.front c.there.front c.there.back); here = record { front = c.front; back = c.there.front; joined = refl; here = c.here; there = c.there.here }; there = c.there.there }

  pub cut_right : (l : List Name) → Cut (Cut P Q) R l → Cut P (Cut Q R) l
  cut_right l c =
      record { front = c.here.front; back = c.here.back ++ c.back; joined = c.joined ∙ ap (λ f. f ++ c.back) c.here.joined ∙ append_assoc c.here.front c.here.back c.back; here = c.here.here; there = record { front = c.here.back; back = c.back; joined = refl; here = c.here.there; there = c.there } }

  -- what stands behind may be another thing
  pub cut_map : (l : List Name) → ((b : List Name) → Q b → R b) → Cut P Q l → Cut P R l
  cut_map l f c = record { front = c.front; back = c.back; joined = c.joined; here = c.here; there = f c.back c.there }

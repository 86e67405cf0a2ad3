-- The first breach of a walk is the least, and what is present is counted in one way.
use Rattle.std.proofs.Common.{◌≡◌, ℕ, zero, suc, ◌≤◌, inl, inr, List, [], Some, None, sym, ap, ◌∙◌, subst, arith}
use Rattle.gw_er7.specs.Presence.{IsLast}
use Rattle.gw_validate.specs.declared.fields.Spot.{Spot}
use Rattle.gw_validate.specs.Breaches.{Counted, NotAfter}
use Rattle.gw_validate.specs.Every.{Has}
use Rattle.gw_validate.specs.own.Gathering.{Gathers, Stops}
use Rattle.gw_validate.specs.own.Least.{Least, segment_key}
use Rattle.gw_validate.specs.own.Walk.{IsCount}

no_added : (added : List (List ℕ)) (q : List ℕ) → added ≡ [] → Has added q → ⊥
no_added added q e h = subst (λ (l : List (List ℕ)). Has l q) e h

-- the spot that ended a walk which stops at the first breach is the least
pub first_least : (P : List ℕ → Type 0) (e : Spot) → Stops (λ (seen : List (List ℕ)) key (spot : Spot). (seen ≡ []) × (segment_key spot ≡ key)) P [] e → Least P (Some (segment_key e))
first_least P e s = (subst P (sym s.ends.1) s.here, λ q p. subst (λ (k : List ℕ). NotAfter k q) (sym s.ends.1) (elim (s.others q p) [ inl h ↦ absurd (no_added s.added q s.ends.0 h) | inr n ↦ n ]))

pub none_least : (P : List ℕ → Type 0) → Gathers P [] [] → Least P None
none_least P g q p = no_added g.added q (sym g.is) (g.all.every q p)

-- ---- what is counted

pub counted_once : (P : ℕ → Type 0) (n j k : ℕ) → Counted P n j → Counted P n k → j ≡ k
counted_once P zero j k a b = a ∙ sym b
counted_once P (suc n) j k (inl a) (inl b) = a.2 ∙ ap suc (counted_once P n a.1 b.1 a.3 b.3) ∙ sym b.2
counted_once P (suc n) j k (inl a) (inr b) = absurd (b.0 a.0)
counted_once P (suc n) j k (inr a) (inl b) = absurd (a.0 b.0)
counted_once P (suc n) j k (inr a) (inr b) = counted_once P n j k a.1 b.1

up : (P : ℕ → Type 0) (a b : ℕ) → IsLast P a → IsLast P b → a ≤ b
up P zero b x y = omega arith
up P (suc a) b x y = (y.within (suc a) (x.there (omega arith))).1

last_once : (P : ℕ → Type 0) (a b : ℕ) → IsLast P a → IsLast P b → a ≡ b
last_once P a b x y = let p = up P a b x y in let q = up P b a y x in omega arith

pub count_once : (P : ℕ → Type 0) (j k : ℕ) → IsCount P j → IsCount P k → j ≡ k
count_once P j k x y = counted_once P y.last j k (subst (λ n. Counted P n j) (last_once P x.last y.last x.is y.is) x.counted) y.counted

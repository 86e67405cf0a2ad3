-- The order of places, and entries in order.
use Rattle.std.proofs.Common.{◌≡◌, ℕ, zero, suc, ◌<◌, inl, inr, Bool, true, false, List, [], ◌∷◌, Some, refl, sym, subst, arith, length, slice_get}
use Rattle.std.specs.Prelude.{◌&&◌, ◌≢◌, T}
use Rattle.std.specs.declared.cmp.Ordering.{Ordering}
use Rattle.std.specs.declared.cmp.Ordering.TheVariants.{Less, Equal, Greater}
use Rattle.std.specs.Ordering.{nat_cmp, eq_by_cmp, is_lt, ordering_then, MatchOrdering}
use Rattle.std.specs.Cmp.{ranks, Equal-is}
use Rattle.std.proofs.lemmas.Cmp.{eq_by_cmp_equiv}
use Rattle.std.specs.Cmp.Lexicographic.{slice_cmp, nat_list_cmp_total}
use Rattle.std.specs.FinMap.{slice_cmp-IsAntisymmetric, nat_cmp-IsAntisymmetric, find, is_sorted}
use Rattle.std.specs.FinMap.Entries.{below_all}
use Rattle.gw_validate.specs.Breaches.{NotAfter}

abbrev pub order : List ℕ → List ℕ → Ordering
order = slice_cmp nat_cmp

abbrev Entry : Type 0
Entry = List ℕ × List ℕ

-- ---- keys

cons_not_less : (r : Ordering) (a b : ℕ) (p q : List ℕ) → MatchOrdering r (a < b) (a ≡ b) (b < a) → (order p q ≢ Less → NotAfter q p) → ordering_then r (order p q) ≢ Less → NotAfter (b ∷ q) (a ∷ p)
cons_not_less Less a b p q h on e = absurd (e refl)
cons_not_less Equal a b p q h on e = inr (sym h, on e)
cons_not_less Greater a b p q h on e = inl h

-- one that isn't less comes after
pub not_less : (p q : List ℕ) → length p ≡ length q → order p q ≢ Less → NotAfter q p
not_less [] [] l e = tt
not_less [] (b ∷ q) l e = absurd (omega arith)
not_less (a ∷ p) [] l e = absurd (omega arith)
not_less (a ∷ p) (b ∷ q) l e = cons_not_less (nat_cmp a b) a b p q (ranks a b) (not_less p q (omega arith)) e

cons_less : (r : Ordering) (a b : ℕ) (p q : List ℕ) → MatchOrdering r (a < b) (a ≡ b) (b < a) → (order p q ≡ Less → NotAfter p q) → ordering_then r (order p q) ≡ Less → NotAfter (a ∷ p) (b ∷ q)
cons_less Less a b p q h on e = inl h
cons_less Equal a b p q h on e = inr (h, on e)
cons_less Greater a b p q h on e = absurd (cc)

pub less_first : (p q : List ℕ) → length p ≡ length q → order p q ≡ Less → NotAfter p q
less_first [] [] l e = tt
less_first [] (b ∷ q) l e = absurd (omega arith)
less_first (a ∷ p) [] l e = absurd (omega arith)
less_first (a ∷ p) (b ∷ q) l e = cons_less (nat_cmp a b) a b p q (ranks a b) (less_first p q (omega arith)) e

cons_never : (r : Ordering) (a b : ℕ) (p q : List ℕ) → MatchOrdering r (a < b) (a ≡ b) (b < a) → (NotAfter q p → order p q ≢ Less) → NotAfter (b ∷ q) (a ∷ p) → ordering_then r (order p q) ≢ Less
cons_never Less a b p q h on (inl n) e = omega (arith, h, n)
cons_never Less a b p q h on (inr n) e = omega (arith, h, n.0)
cons_never Equal a b p q h on (inl n) e = omega (arith, h, n)
cons_never Equal a b p q h on (inr n) e = on n.1 e
cons_never Greater a b p q h on n e = absurd (cc)

-- one that comes after isn't less
pub never_less : (p q : List ℕ) → length p ≡ length q → NotAfter q p → order p q ≢ Less
never_less [] [] l n e = absurd (cc)
never_less [] (b ∷ q) l n e = absurd (omega arith)
never_less (a ∷ p) [] l n e = absurd (omega arith)
never_less (a ∷ p) (b ∷ q) l n e = cons_never (nat_cmp a b) a b p q (ranks a b) (never_less p q (omega arith)) n e

not_true : (v : Bool) → (v ≡ true → ⊥) → v ≡ false
not_true true never = absurd (never refl)
not_true false never = refl

tie : (k : List ℕ) → eq_by_cmp order k k ≡ true
tie k = (eq_by_cmp_equiv nat_list_cmp_total).refl k

no_tie : (xs ys : List ℕ) → (xs ≡ ys → ⊥) → eq_by_cmp order xs ys ≡ false
no_tie xs ys apart = not_true (eq_by_cmp order xs ys) (λ t. apart (slice_cmp-IsAntisymmetric nat_cmp-IsAntisymmetric xs ys ((Equal-is (order xs ys)).0 t)))

tied : (xs ys : List ℕ) → eq_by_cmp order xs ys ≡ true → xs ≡ ys
tied xs ys t = slice_cmp-IsAntisymmetric nat_cmp-IsAntisymmetric xs ys ((Equal-is (order xs ys)).0 t)

-- ---- entries

first : (a b : Bool) → T (a && b) → T a
first true b p = tt
first false b p = p

second : (a b : Bool) → T (a && b) → T b
second true b p = p
second false b p = absurd p

less : (o : Ordering) → T (is_lt o) → o ≡ Less
less Less p = refl
less Equal p = absurd p
less Greater p = absurd p

below_at : (k : List ℕ) (es : List Entry) (j : ℕ) (e : Entry) → T (below_all order k es) → slice_get es j ≡ Some e → order k e.0 ≡ Less
below_at k [] j e b g = absurd (cc)
below_at k (x ∷ es) zero e b g = let same : x ≡ e = cc in subst (λ (y : Entry). order k y.0 ≡ Less) same (less (order k x.0) (first _ _ b))
below_at k (x ∷ es) (suc j) e b g = below_at k es j e (second (is_lt (order k x.0)) _ b) g

pub rising_at : (es : List Entry) (i j : ℕ) (a b : Entry) → T (is_sorted order es) → i < j → slice_get es i ≡ Some a → slice_get es j ≡ Some b → order a.0 b.0 ≡ Less
rising_at [] i j a b s lt x y = absurd (cc)
rising_at (e ∷ es) i zero a b s lt x y = absurd (omega arith)
rising_at (e ∷ es) zero (suc j) a b s lt x y = let same : e ≡ a = cc in subst (λ (z : Entry). order z.0 b.0 ≡ Less) same (below_at e.0 es j b (first (below_all order e.0 es) _ s) y)
rising_at (e ∷ es) (suc i) (suc j) a b s lt x y = rising_at es i j a b (second (below_all order e.0 es) _ s) (omega arith) x y

-- what is found stands somewhere
pub record Stands (es : List Entry) (key text : List ℕ) : Type 0 where
  pub at : ℕ
  pub is : slice_get es at ≡ Some (key, text)

pub found_at : (key text : List ℕ) (es : List Entry) → find order key es ≡ Some text → Stands es key text
found_at key text [] e = absurd (cc)
found_at key text (x ∷ es) e = by (eq_by_cmp order key x.0) refl e (found_at key text es)
  where
    by : (b : Bool) → eq_by_cmp order key x.0 ≡ b → find order key (x ∷ es) ≡ Some text → (find order key es ≡ Some text → Stands es key text) → Stands (x ∷ es) key text
    by true t e on =
        let value : x.1 ≡ text = (let f : Some x.1 ≡ Some text = rw t at e in cc) in
        let here : x.0 ≡ key = sym (tied key x.0 t) in
        record { at = 0; is = λ i. Some (here i, value i) }
    by false t e on = let r = on (rw t at e) in record { at = suc r.at; is = r.is }

-- what stands is found
pub find_at : (key text : List ℕ) (es : List Entry) (j : ℕ) → T (is_sorted order es) → slice_get es j ≡ Some (key, text) → find order key es ≡ Some text
find_at key text [] j s g = absurd (cc)
find_at key text (x ∷ es) zero s g =
    let same : x ≡ (key, text) = cc in
    subst (λ (y : Entry). find order key (y ∷ es) ≡ Some text) (sym same) (rw (tie key) refl)
find_at key text (x ∷ es) (suc j) s g =
    let apart : key ≡ x.0 → ⊥ = λ e. let l : order x.0 key ≡ Less = below_at x.0 es j (key, text) (first (below_all order x.0 es) _ s) g in clash key (subst (λ k. order k key ≡ Less) (sym e) l) in
    rw (no_tie key x.0 apart) (find_at key text es j (second (below_all order x.0 es) _ s) g)
  where
    clash : (k : List ℕ) → order k k ≡ Less → ⊥
    clash k l = let t : order k k ≡ Equal = (Equal-is (order k k)).0 (tie k) in cc

-- A walk over the entries of a segment, in order.
use Rattle.std.proofs.Common.{◌≡◌, ℕ, zero, suc, ◌+◌, ◌<◌, ◌≤◌, inl, inr, Bool, true, false, List, [], ◌∷◌, Option, Some, None, refl, sym, ap, ◌∙◌, subst, arith, length, slice_get, unwrap_or, map, get_or, drop}
use Rattle.std.specs.Prelude.{◌≢◌, ◌==◌, ◌&&◌, T}
use Rattle.std.specs.declared.cmp.Ordering.{Ordering}
use Rattle.std.specs.declared.cmp.Ordering.TheVariants.{Less, Equal, Greater}
use Rattle.std.specs.Ordering.{is_lt, ordering_reverse}
use Rattle.std.specs.Cmp.Lexicographic.{nat_list_cmp_total}
use Rattle.std.specs.FinMap as texts
use Rattle.std.specs.FinMap.{slice_cmp-IsAntisymmetric, nat_cmp-IsAntisymmetric, is_sorted}
use Rattle.std.proofs.lemmas.Bool.{cases_lt, true≢false}
use Rattle.std.proofs.lemmas.Bool.Decides.{nat_tests}
use Rattle.std.proofs.lemmas.Option.{slice_get_past}
use Rattle.gw_er7.specs.Entries.{Entry}
use Rattle.gw_er7.specs.declared.place.Place.{Place}
use Rattle.gw_er7.specs.Message.{SegmentValue, numbers, text_of}
use Rattle.gw_er7.specs.Presence.{IsStart}
use Rattle.gw_validate.specs.Breaches.{NotAfter}
use Rattle.gw_validate.specs.own.Least.{Rises}
use Rattle.gw_validate.specs.own.Walk.{IsBefore, IsWalking}
use Rattle.gw_validate.proofs.Keys.{order, not_less, never_less, rising_at, find_at}
use Rattle.gw_validate.proofs.Starts.{stands, inside, heads, seconds, low, early}

-- ---- keys

less_to : (a b c : List ℕ) → length b ≡ length c → order a b ≡ Less → NotAfter b c → order a c ≡ Less
less_to a b c e l n = by (order b c) refl
  where
    by : (r : Ordering) → order b c ≡ r → order a c ≡ Less
    by Less q = nat_list_cmp_total.trans a b c l q
    by Equal q = subst (λ (k : List ℕ). order a k ≡ Less) (slice_cmp-IsAntisymmetric nat_cmp-IsAntisymmetric b c q) l
    by Greater q = absurd (never_less c b (sym e) n (nat_list_cmp_total.antisymm c b ∙ ap ordering_reverse q))

pub self : (p : List ℕ) → NotAfter p p
self [] = tt
self (a ∷ p) = inr (refl, self p)

-- one that comes neither before nor after is the same
both_ways : (p q : List ℕ) → length p ≡ length q → NotAfter p q → NotAfter q p → p ≡ q
both_ways [] [] e a b = refl
both_ways [] (y ∷ q) e a b = absurd (omega arith)
both_ways (x ∷ p) [] e a b = absurd (omega arith)
both_ways (x ∷ p) (y ∷ q) e a b =
    let same : x ≡ y = omega (arith, heads x y p q a, heads y x q p b) in
    ap (λ n. n ∷ p) same ∙ ap (λ (l : List ℕ). y ∷ l) (both_ways p q (omega arith) (seconds x y p q same a) (seconds y x q p (sym same) b))

pub up_to : (a b : ℕ) → a ≤ b → (p q : List ℕ) → NotAfter p q → NotAfter (a ∷ p) (b ∷ q)
up_to a b le p q n = elim (cases_lt a b) [ inl l ↦ inl l | inr ge ↦ inr (omega (arith, le, ge), n) ]

pub less_here : (p : List ℕ) (q : List ℕ) → length p ≡ length q → (NotAfter q p → ⊥) → order p q ≡ Less
less_here p q e never = by (order p q) refl
  where
    by : (r : Ordering) → order p q ≡ r → order p q ≡ Less
    by Less l = l
    by Equal l = absurd (never (not_less p q e (λ is. let clash : Equal ≡ Less = sym l ∙ is in cc)))
    by Greater l = absurd (never (not_less p q e (λ is. let clash : Greater ≡ Less = sym l ∙ is in cc)))

behind_sub : (f r c s : ℕ) → order (f ∷ r ∷ c ∷ s ∷ []) (f ∷ r ∷ c ∷ (s + 1) ∷ []) ≡ Less
behind_sub f r c s = less_here (f ∷ r ∷ c ∷ s ∷ []) (f ∷ r ∷ c ∷ (s + 1) ∷ []) refl never
  where
    never : NotAfter (f ∷ r ∷ c ∷ (s + 1) ∷ []) (f ∷ r ∷ c ∷ s ∷ []) → ⊥
    never n =
        let in_field = seconds f f (r ∷ c ∷ (s + 1) ∷ []) (r ∷ c ∷ s ∷ []) refl n in
        let in_rep = seconds r r (c ∷ (s + 1) ∷ []) (c ∷ s ∷ []) refl in_field in
        let in_comp = seconds c c ((s + 1) ∷ []) (s ∷ []) refl in_rep in
        omega (arith, heads (s + 1) s [] [] in_comp)

-- ---- tests

pub less : (r : Ordering) → is_lt r ≡ true → r ≡ Less
less Less e = refl
less Equal e = absurd (cc)
less Greater e = absurd (cc)

pub not_less_then : (r : Ordering) → is_lt r ≡ false → r ≢ Less
not_less_then Less e is = absurd (cc)
not_less_then Equal e is = cc
not_less_then Greater e is = cc

-- ---- the first entries

pub before_on : (p q : List ℕ) (es : List Entry) (n : ℕ) → length p ≡ length q → NotAfter p q → IsBefore p es n → IsBefore q es n
before_on p q es n e le b = record { bound = b.bound; before = λ i x lt g. less_to x.0 p q e (b.before i x lt g) le }

pub from_start : (k : List ℕ) (es : List Entry) (n : ℕ) → IsStart k es n → IsBefore k es n
from_start k es n is = record { bound = is.bound; before = is.before }

pub none_before : (k : List ℕ) (es : List Entry) → IsBefore k es 0
none_before k es = record { bound = omega arith; before = λ i x lt g. absurd (omega arith) }

pub before_more : (k : List ℕ) (es : List Entry) (n : ℕ) (x : Entry) → IsBefore k es n → n < length es → slice_get es n ≡ Some x → order x.0 k ≡ Less → IsBefore k es (n + 1)
before_more k es n x b within at l = record { bound = omega arith; before = before }
  where
    before : (i : ℕ) (e : Entry) → i < n + 1 → slice_get es i ≡ Some e → order e.0 k ≡ Less
    before i e lt g = elim (cases_lt i n) as (λ _. order e.0 k ≡ Less) [
      | inl less ↦ b.before i e less g
      | inr ge ↦ (let same : n ≡ i = omega (arith, lt, ge) in
          let both : Some x ≡ Some e = sym at ∙ ap (slice_get es) same ∙ g in
          subst (λ (o : Option Entry). order (unwrap_or o x).0 k ≡ Less) both l)
    ]

pub start_at : (k : List ℕ) (es : List Entry) (n : ℕ) (x : Entry) → T (is_sorted order es) → IsBefore k es n → slice_get es n ≡ Some x → order x.0 k ≢ Less → IsStart k es n
start_at k es n x s b at never = record { bound = b.bound; before = b.before; from = later }
  where
    later : (i : ℕ) (e : Entry) → n ≤ i → slice_get es i ≡ Some e → order e.0 k ≢ Less
    later i e le g l = elim (cases_lt n i) as (λ _. ⊥) [
      | inl lt ↦ never (nat_list_cmp_total.trans x.0 e.0 k (rising_at es n i x e s lt at g) l)
      | inr ge ↦ (let same : n ≡ i = omega (arith, le, ge) in
          let both : Some x ≡ Some e = sym at ∙ ap (slice_get es) same ∙ g in
          never (subst (λ (o : Option Entry). order (unwrap_or o x).0 k ≡ Less) (sym both) l))
    ]

pub start_end : (k : List ℕ) (es : List Entry) (n : ℕ) → IsBefore k es n → length es ≤ n → IsStart k es n
start_end k es n b le = record { bound = b.bound; before = b.before; from = past }
  where
    past : (i : ℕ) (e : Entry) → n ≤ i → slice_get es i ≡ Some e → order e.0 k ≢ Less
    past i e ge g l = let none : slice_get es i ≡ None = slice_get_past es i (omega arith) in absurd (cc)

-- ---- the text at a place

no_text : (t : List ℕ) → (0 < length t → ⊥) → t ≡ []
no_text [] never = refl
no_text (x ∷ t) never = absurd (never (omega arith))

module _ (v : SegmentValue) (f r c s start : ℕ) (begin : IsStart (f ∷ r ∷ c ∷ s ∷ []) (texts.entries v.at) start) where
  abbrev Key : List ℕ
  Key = f ∷ r ∷ c ∷ s ∷ []

  abbrev Next : List ℕ
  Next = f ∷ r ∷ c ∷ (s + 1) ∷ []

  pub behind_start : IsBefore Next (texts.entries v.at) start
  behind_start = before_on Key Next (texts.entries v.at) start refl (inr (refl, inr (refl, inr (refl, up_to s (s + 1) (omega arith) [] [] tt)))) (from_start Key (texts.entries v.at) start begin)

  pub text_past : length (texts.entries v.at) ≤ start → text_of v.at f r c s ≡ []
  text_past le = no_text _ (λ h.
      let q = stands v.at f r c s h in
      omega (arith, inside v Key start refl begin Key q.0 q.1.at refl (self Key) q.1.is))

  module _ (g0 r0 c0 s0 : ℕ) (t0 : List ℕ) (at : slice_get (texts.entries v.at) start ≡ Some (g0 ∷ r0 ∷ c0 ∷ s0 ∷ [], t0)) where
    abbrev Found : List ℕ
    Found = g0 ∷ r0 ∷ c0 ∷ s0 ∷ []

    pub text_other : (Found ≡ Key → ⊥) → text_of v.at f r c s ≡ []
    text_other apart = no_text _ (λ h.
        let q = stands v.at f r c s h in
        apart (both_ways Found Key refl (early v Key start refl begin Found t0 refl at Key q.0 q.1.at refl (self Key) q.1.is) (low v Key start refl begin Found t0 refl at)))

    pub text_here : Found ≡ Key → text_of v.at f r c s ≡ t0
    text_here same =
        let there : slice_get (texts.entries v.at) start ≡ Some (Key, t0) = at ∙ ap (λ (k : List ℕ). Some (k, t0)) same in
        ap (λ (o : Option (List ℕ)). unwrap_or o []) (texts.get-entries v.at Key ∙ find_at Key t0 (texts.entries v.at) start (texts.entries_sorted v.at) there)

    pub behind_here : start < length (texts.entries v.at) → Found ≡ Key → IsBefore Next (texts.entries v.at) (start + 1)
    behind_here within same = before_more Next (texts.entries v.at) start (Found, t0) behind_start within at (subst (λ (k : List ℕ). order k Next ≡ Less) (sym same) (behind_sub f r c s))

pub text_is : (v : SegmentValue) (f r c s n : ℕ) (t : List ℕ) → slice_get (texts.entries v.at) n ≡ Some (f ∷ r ∷ c ∷ s ∷ [], t) → text_of v.at f r c s ≡ t
text_is v f r c s n t at =
    let key = f ∷ r ∷ c ∷ s ∷ [] in
    ap (λ (o : Option (List ℕ)). unwrap_or o []) (texts.get-entries v.at key ∙ find_at key t (texts.entries v.at) n (texts.entries_sorted v.at) at)

-- ---- places

-- the test that the derived `==` makes
abbrev pub same : Place → Place → Bool
same p q = (p.field == q.field) && ((p.rep == q.rep) && ((p.comp == q.comp) && (p.sub == q.sub)))

pub numbers-same : (p q : Place) → same p q ≡ true → numbers p ≡ numbers q
numbers-same p q e = grind (arith, nat_tests)

pub same-numbers : (p q : Place) → numbers p ≡ numbers q → same p q ≡ true
same-numbers p q e = grind (arith, nat_tests)

pub apart : (p q : Place) → same p q ≡ false → numbers p ≡ numbers q → ⊥
apart p q other e = true≢false (sym (same-numbers p q e) ∙ other)

-- ---- shapes whose numbers rise

module _ {Y X : Type 0} (value : Y → X) (number : X → ℕ) where
  rises_at : (from : ℕ) (ys : List Y) (i : ℕ) (y : Y) → i < length ys → y ≡ get_or ys i y → Rises number from (map value (drop i ys)) → (from < number (value y)) × Rises number (number (value y)) (map value (drop (suc i) ys))
  rises_at from [] i y lt at r = absurd (omega arith)
  rises_at from (z ∷ ys) zero y lt at r = subst (λ w. (from < number (value w)) × Rises number (number (value w)) (map value ys)) (sym at) r
  rises_at from (z ∷ ys) (suc i) y lt at r = rises_at from ys i y (omega arith) at r

  module _ (key here : ℕ → List ℕ) (es : List Entry) (ys : List Y) (i n : ℕ) (y : Y) (lt : i < length ys) (at : y ≡ get_or ys i y) (walk : IsWalking number key es (map value (drop i ys)) n) where
    above : walk.low < number (value y)
    above = (rises_at walk.low ys i y lt at walk.rises).0

    -- the walk stands before the next shape
    pub walk_here : ((a b : ℕ) → a < b → NotAfter (key a) (here b)) → ((a b : ℕ) → length (key a) ≡ length (here b)) → IsBefore (here (number (value y))) es n
    walk_here up len = before_on (key walk.low) (here (number (value y))) es n (len walk.low (number (value y))) (up walk.low (number (value y)) above) walk.before

    -- and behind it
    pub walk_on : (m : ℕ) → IsBefore (key (number (value y))) es m → IsWalking number key es (map value (drop (i + 1) ys)) m
    walk_on m behind = record {
      low = number (value y);
      rises = subst (λ k. Rises number (number (value y)) (map value (drop k ys))) (let next : suc i ≡ i + 1 = omega arith in next) (rises_at walk.low ys i y lt at walk.rises).1;
      before = behind;
    }

pub field_up : (a b : ℕ) → a < b → NotAfter ((a + 1) ∷ 0 ∷ 0 ∷ 0 ∷ []) (b ∷ 1 ∷ 0 ∷ 0 ∷ [])
field_up a b lt = up_to (a + 1) b (omega arith) (0 ∷ 0 ∷ 0 ∷ []) (1 ∷ 0 ∷ 0 ∷ []) (inl (omega arith))

pub comp_up : (f r a b : ℕ) → a < b → NotAfter (f ∷ r ∷ (a + 1) ∷ 0 ∷ []) (f ∷ r ∷ b ∷ 0 ∷ [])
comp_up f r a b lt = inr (refl, inr (refl, up_to (a + 1) b (omega arith) (0 ∷ []) (0 ∷ []) (self (0 ∷ []))))

pub sub_up : (f r c a b : ℕ) → a < b → NotAfter (f ∷ r ∷ c ∷ (a + 1) ∷ []) (f ∷ r ∷ c ∷ b ∷ [])
sub_up f r c a b lt = inr (refl, inr (refl, inr (refl, up_to (a + 1) b (omega arith) [] [] tt)))

-- ---- what is behind stands below what comes later

pub comp_end : (f r c s : ℕ) (es : List Entry) (n : ℕ) → IsBefore (f ∷ r ∷ c ∷ s ∷ []) es n → IsBefore (f ∷ r ∷ (c + 1) ∷ 0 ∷ []) es n
comp_end f r c s es n b = before_on (f ∷ r ∷ c ∷ s ∷ []) (f ∷ r ∷ (c + 1) ∷ 0 ∷ []) es n refl (inr (refl, inr (refl, inl (omega arith)))) b

pub rep_end : (f r c s : ℕ) (es : List Entry) (n : ℕ) → IsBefore (f ∷ r ∷ c ∷ s ∷ []) es n → IsBefore (f ∷ (r + 1) ∷ 0 ∷ 0 ∷ []) es n
rep_end f r c s es n b = before_on (f ∷ r ∷ c ∷ s ∷ []) (f ∷ (r + 1) ∷ 0 ∷ 0 ∷ []) es n refl (inr (refl, inl (omega arith))) b

pub field_end : (f r c s : ℕ) (es : List Entry) (n : ℕ) → IsBefore (f ∷ r ∷ c ∷ s ∷ []) es n → IsBefore ((f + 1) ∷ 0 ∷ 0 ∷ 0 ∷ []) es n
field_end f r c s es n b = before_on (f ∷ r ∷ c ∷ s ∷ []) ((f + 1) ∷ 0 ∷ 0 ∷ 0 ∷ []) es n refl (inl (omega arith)) b

pub first_comp : (f r : ℕ) (es : List Entry) (n : ℕ) → IsBefore (f ∷ r ∷ 0 ∷ 0 ∷ []) es n → IsBefore (f ∷ r ∷ (0 + 1) ∷ 0 ∷ []) es n
first_comp f r es n b = before_on (f ∷ r ∷ 0 ∷ 0 ∷ []) (f ∷ r ∷ (0 + 1) ∷ 0 ∷ []) es n refl (inr (refl, inr (refl, inl (omega arith)))) b

pub first_sub : (f r c : ℕ) (es : List Entry) (n : ℕ) → IsBefore (f ∷ r ∷ c ∷ 0 ∷ []) es n → IsBefore (f ∷ r ∷ c ∷ 1 ∷ []) es n
first_sub f r c es n b = before_on (f ∷ r ∷ c ∷ 0 ∷ []) (f ∷ r ∷ c ∷ 1 ∷ []) es n refl (inr (refl, inr (refl, inr (refl, inl (omega arith))))) b

-- behind a text of a component that is its last
pub behind_comp : (f r c s : ℕ) (t : List ℕ) (es : List Entry) (n : ℕ) → IsBefore (f ∷ r ∷ c ∷ 0 ∷ []) es n → n < length es → slice_get es n ≡ Some (f ∷ r ∷ c ∷ s ∷ [], t) → IsBefore (f ∷ r ∷ (c + 1) ∷ 0 ∷ []) es (n + 1)
behind_comp f r c s t es n b within at = before_more (f ∷ r ∷ (c + 1) ∷ 0 ∷ []) es n (f ∷ r ∷ c ∷ s ∷ [], t) (comp_end f r c 0 es n b) within at (less_here (f ∷ r ∷ c ∷ s ∷ []) (f ∷ r ∷ (c + 1) ∷ 0 ∷ []) refl never)
  where
    never : NotAfter (f ∷ r ∷ (c + 1) ∷ 0 ∷ []) (f ∷ r ∷ c ∷ s ∷ []) → ⊥
    never n =
        let in_field = seconds f f (r ∷ (c + 1) ∷ 0 ∷ []) (r ∷ c ∷ s ∷ []) refl n in
        let in_rep = seconds r r ((c + 1) ∷ 0 ∷ []) (c ∷ s ∷ []) refl in_field in
        omega (arith, heads (c + 1) c (0 ∷ []) (s ∷ []) in_rep)

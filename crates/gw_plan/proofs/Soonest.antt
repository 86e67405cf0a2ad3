-- The first place where one of several tests passes.
use Rattle.std.proofs.Common.{◌≡◌, ℕ, ◌+◌, ◌≤◌, List, [], ◌∷◌, Option, Some, None, Bool, true, false, refl, sym, ap, ◌∙◌, arith}
use Rattle.std.specs.Prelude.{nat_lt, ◌||◌, if◌then◌else◌}
use Rattle.std.specs.List.{position_from}
use Rattle.std.specs.Option.{IfSome}
use Rattle.std.proofs.lemmas.Bool.{ltb-true, lt-ltb}
use Rattle.gw_plan.specs.Index.{sooner}

-- what is found is found no sooner than where the search begins
not_sooner : {A : Type 0} (t : A → Bool) (n : ℕ) (xs : List A) → IfSome (position_from t n xs) (λ i. n ≤ i)
not_sooner t n [] = tt
not_sooner t n (x ∷ xs) = by (t x) (position_from t (n + 1) xs) (not_sooner t (n + 1) xs)
  where
    by : (b : Bool) (o : Option ℕ) → IfSome o (λ i. n + 1 ≤ i) → IfSome (if b then Some n else o) (λ i. n ≤ i)
    by true o h = omega arith
    by false None h = tt
    by false (Some i) h = omega (arith, h)

before_it : (n i : ℕ) → n + 1 ≤ i → Some n ≡ sooner (Some n) (Some i)
before_it n i low = by (nat_lt i n) refl
  where
    by : (b : Bool) → nat_lt i n ≡ b → Some n ≡ (if b then Some i else Some n)
    by true e = let less = ltb-true i n e in absurd (omega (arith, low, less))
    by false e = refl

behind_it : (n i : ℕ) → n + 1 ≤ i → Some n ≡ sooner (Some i) (Some n)
behind_it n i low = sym (ap (λ b. if b then Some n else Some i) (lt-ltb n i (omega (arith, low))))

both_are : (n : ℕ) → Some n ≡ sooner (Some n) (Some n)
both_are n = by (nat_lt n n)
  where
    by : (b : Bool) → Some n ≡ (if b then Some n else Some n)
    by true = refl
    by false = refl

pub sooner_from : {A : Type 0} (t u : A → Bool) (n : ℕ) (xs : List A) → position_from (λ x. t x || u x) n xs ≡ sooner (position_from t n xs) (position_from u n xs)
sooner_from t u n [] = refl
sooner_from t u n (x ∷ xs) = by (t x) (u x) (position_from t (n + 1) xs) (position_from u (n + 1) xs) (not_sooner t (n + 1) xs) (not_sooner u (n + 1) xs) (sooner_from t u (n + 1) xs)
  where
    by : (a b : Bool) (o p : Option ℕ) → IfSome o (λ i. n + 1 ≤ i) → IfSome p (λ i. n + 1 ≤ i) → position_from (λ x. t x || u x) (n + 1) xs ≡ sooner o p
        → (if a || b then Some n else position_from (λ x. t x || u x) (n + 1) xs) ≡ sooner (if a then Some n else o) (if b then Some n else p)
    by true true o p h k e = both_are n
    by true false o None h k e = refl
    by true false o (Some j) h k e = before_it n j k
    by false true None p h k e = refl
    by false true (Some i) p h k e = behind_it n i h
    by false false o p h k e = e

pub same_from : {A : Type 0} (t u : A → Bool) (n : ℕ) (xs : List A) → ((x : A) → t x ≡ u x) → position_from t n xs ≡ position_from u n xs
same_from t u n [] h = refl
same_from t u n (x ∷ xs) h = ap (λ b. if b then Some n else position_from t (n + 1) xs) (h x) ∙ ap (λ o. if u x then Some n else o) (same_from t u (n + 1) xs h)

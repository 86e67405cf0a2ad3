-- The segments that aren't passed over, and their numbers.
use Rattle.std.proofs.Common.{◌≡◌, ℕ, zero, suc, ◌+◌, ◌<◌, ◌≤◌, Bool, true, false, List, [], ◌∷◌, ◌++◌, Some, refl, sym, ap, ◌∙◌, arith, length, append_assoc, map, take, get_or, slice_get}
use Rattle.std.specs.Prelude.{if◌then◌else◌}
use Rattle.std.specs.List.{AllByRecursion}
use Rattle.gw_er7.specs.Message.{SegmentValue}
use Rattle.gw_profile.specs.Shapes.{Forest}
use Rattle.gw_profile.specs.Names.{stands}
use Rattle.gw_validate.specs.Conforming.{listed, numbers_from, numbers, segment_at}

at_front : (pre m : List SegmentValue) (s : SegmentValue) → segment_at (pre ++ s ∷ m) (length pre) ≡ s
at_front [] m s = refl
at_front (x ∷ pre) m s = at_front pre m s

one_more : (pre : List SegmentValue) (s : SegmentValue) → length (pre ++ s ∷ []) ≡ suc (length pre)
one_more [] s = refl
one_more (x ∷ pre) s = ap suc (one_more pre s)

module _ (f : Forest) where
  -- the segments of the numbers are those that aren't passed over
  of_numbers_from : (pre m : List SegmentValue) → map (segment_at (pre ++ m)) (numbers_from f (length pre) m) ≡ listed f m
  of_numbers_from pre [] = refl
  of_numbers_from pre (s ∷ m) =
      by (ap (λ n. map (segment_at (pre ++ s ∷ m)) (numbers_from f n m)) (sym (one_more pre s))
      ∙ ap (λ l. map (segment_at l) (numbers_from f (length (pre ++ s ∷ [])) m)) (sym (append_assoc pre (s ∷ []) m))
      ∙ of_numbers_from (pre ++ s ∷ []) m) (stands f s.name) refl
    where
      by : (later : map (segment_at (pre ++ s ∷ m)) (numbers_from f (suc (length pre)) m) ≡ listed f m) (b : Bool) → stands f s.name ≡ b → map (segment_at (pre ++ s ∷ m)) (numbers_from f (length pre) (s ∷ m)) ≡ listed f (s ∷ m)
      by later true e = rw e (ap (λ x. x ∷ map (segment_at (pre ++ s ∷ m)) (numbers_from f (suc (length pre)) m)) (at_front pre m s) ∙ ap (λ l. s ∷ l) later)
      by later false e = rw e later

  pub of_numbers : (m : List SegmentValue) → map (segment_at m) (numbers f m) ≡ listed f m
  of_numbers m = of_numbers_from [] m

  -- numbers rise
  abbrev pub RisesFrom : ℕ → List ℕ → Type 0
  RisesFrom low [] = Unit {0}
  RisesFrom low (n ∷ ns) = (low ≤ n) × RisesFrom (suc n) ns

  rises_more : (a b : ℕ) (ns : List ℕ) → a ≤ b → RisesFrom b ns → RisesFrom a ns
  rises_more a b [] le r = tt
  rises_more a b (n ∷ ns) le r = (omega (arith, r.0), r.1)

  pub numbers_rise : (k : ℕ) (m : List SegmentValue) → RisesFrom k (numbers_from f k m)
  numbers_rise k [] = tt
  numbers_rise k (s ∷ m) = by (numbers_rise (suc k) m) (stands f s.name) refl
    where
      by : RisesFrom (suc k) (numbers_from f (suc k) m) → (b : Bool) → stands f s.name ≡ b → RisesFrom k (numbers_from f k (s ∷ m))
      by r true e = rw e (omega arith, r)
      by r false e = rw e (rises_more k (suc k) _ (omega arith) r)

  pub numbers_below : (k n : ℕ) (m : List SegmentValue) → k + length m ≤ n → AllByRecursion (λ i. i < n) (numbers_from f k m)
  numbers_below k n [] le = tt
  numbers_below k n (s ∷ m) le = by (numbers_below (suc k) n m (omega (arith, le))) (stands f s.name) refl
    where
      by : AllByRecursion (λ i. i < n) (numbers_from f (suc k) m) → (b : Bool) → stands f s.name ≡ b → AllByRecursion (λ i. i < n) (numbers_from f k (s ∷ m))
      by r true e = rw e (omega (arith, le), r)
      by r false e = rw e r

  -- the segment that is the i-th of those that aren't passed over
  pub record Place (k i : ℕ) (m : List SegmentValue) : Type 0 where
    pub number : ℕ
    pub at : get_or (numbers_from f k m) i 0 ≡ k + number
    pub this : SegmentValue
    pub here : slice_get m number ≡ Some this
    pub before : listed f (take number m) ≡ take i (listed f m)
    pub upto : listed f (take (suc number) m) ≡ take (suc i) (listed f m)

  module _ (k : ℕ) (s : SegmentValue) (m : List SegmentValue) where
    place_here : stands f s.name ≡ true → Place k 0 (s ∷ m)
    place_here e = record { number = 0; at = rw e (omega arith); this = s; here = refl; before = refl; upto = rw e refl }

    place_taken : stands f s.name ≡ true → (i : ℕ) → Place (suc k) i m → Place k (suc i) (s ∷ m)
    place_taken e i r = record { number = suc r.number; at = rw e (r.at ∙ next r.number); this = r.this; here = r.here; before = rw e (ap (λ l. s ∷ l) r.before); upto = rw e (ap (λ l. s ∷ l) r.upto) }
      where
        next : (n : ℕ) → suc k + n ≡ k + suc n
        next n = omega arith

    place_passed : stands f s.name ≡ false → (i : ℕ) → Place (suc k) i m → Place k i (s ∷ m)
    place_passed e i r = record { number = suc r.number; at = rw e (r.at ∙ next r.number); this = r.this; here = r.here; before = rw e r.before; upto = rw e r.upto }
      where
        next : (n : ℕ) → suc k + n ≡ k + suc n
        next n = omega arith

    shorter : stands f s.name ≡ true → (i : ℕ) → suc i < length (numbers_from f k (s ∷ m)) → i < length (numbers_from f (suc k) m)
    shorter e i lt = let l : suc i < suc (length (numbers_from f (suc k) m)) = rw e at lt in omega arith

    as_short : stands f s.name ≡ false → (i : ℕ) → i < length (numbers_from f k (s ∷ m)) → i < length (numbers_from f (suc k) m)
    as_short e i lt = rw e at lt

  pub place : (k i : ℕ) (m : List SegmentValue) → i < length (numbers_from f k m) → Place k i m
  place k i [] lt = absurd (omega arith)
  place k i (s ∷ m) lt = by (λ j l. place (suc k) j m l) (stands f s.name) refl i lt
    where
      by : ((j : ℕ) → j < length (numbers_from f (suc k) m) → Place (suc k) j m) → (b : Bool) → stands f s.name ≡ b → (i : ℕ) → i < length (numbers_from f k (s ∷ m)) → Place k i (s ∷ m)
      by on true e zero lt = place_here k s m e
      by on true e (suc i) lt = place_taken k s m e i (on i (shorter k s m e i lt))
      by on false e i lt = place_passed k s m e i (on i (as_short k s m e i lt))

  -- one more segment
  pub listed_more : (m : List SegmentValue) (s : SegmentValue) → listed f (m ++ s ∷ []) ≡ listed f m ++ (if stands f s.name then s ∷ [] else [])
  listed_more [] s = refl
  listed_more (x ∷ m) s = by (listed_more m s) (stands f x.name) refl
    where
      by : listed f (m ++ s ∷ []) ≡ listed f m ++ (if stands f s.name then s ∷ [] else []) → (b : Bool) → stands f x.name ≡ b → listed f ((x ∷ m) ++ s ∷ []) ≡ listed f (x ∷ m) ++ (if stands f s.name then s ∷ [] else [])
      by r true e = rw e (ap (λ l. x ∷ l) r)
      by r false e = rw e r

  numbers_more : (k : ℕ) (m : List SegmentValue) (s : SegmentValue) → numbers_from f k (m ++ s ∷ []) ≡ numbers_from f k m ++ (if stands f s.name then (k + length m) ∷ [] else [])
  numbers_more k [] s = ap (λ n. if stands f s.name then n ∷ [] else []) (let a : k ≡ k + 0 = omega arith in a)
  numbers_more k (x ∷ m) s =
      by (numbers_more (suc k) m s ∙ ap (λ n. numbers_from f (suc k) m ++ (if stands f s.name then n ∷ [] else [])) (let a : suc k + length m ≡ k + suc (length m) = omega arith in a)) (stands f x.name) refl
    where
      by : (later : numbers_from f (suc k) (m ++ s ∷ []) ≡ numbers_from f (suc k) m ++ (if stands f s.name then (k + length (x ∷ m)) ∷ [] else [])) (b : Bool) → stands f x.name ≡ b → numbers_from f k ((x ∷ m) ++ s ∷ []) ≡ numbers_from f k (x ∷ m) ++ (if stands f s.name then (k + length (x ∷ m)) ∷ [] else [])
      by later true e = rw e (ap (λ l. k ∷ l) later)
      by later false e = rw e later

  pub numbers_step : (m : List SegmentValue) (s : SegmentValue) → numbers f (m ++ s ∷ []) ≡ numbers f m ++ (if stands f s.name then length m ∷ [] else [])
  numbers_step m s = numbers_more 0 m s ∙ ap (λ n. numbers f m ++ (if stands f s.name then n ∷ [] else [])) (let a : 0 + length m ≡ length m = omega arith in a)

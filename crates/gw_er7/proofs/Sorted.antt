-- The entries of fields stand in rising order.
use Rattle.std.proofs.Common.{◌≡◌, ℕ, ◌+◌, ◌<◌, Bool, true, false, List, [], ◌∷◌, ◌++◌, map, refl, sym, ap, subst, arith, Ordering, Less, Equal}
use Rattle.std.specs.Prelude.{◌&&◌, T, ◌==◌}
use Rattle.std.specs.Ordering.{nat_cmp, is_lt, ordering_then}
use Rattle.std.specs.Cmp.{nat_cmp_is}
use Rattle.std.specs.Cmp.Lexicographic.{slice_cmp}
use Rattle.std.specs.List.{slice_split}
use Rattle.std.specs.FinMap.Entries.{is_sorted, below_all}
use Rattle.gw_er7.specs.declared.delimiters.Delimiters.{Delimiters}
use Rattle.gw_er7.specs.Entries.{Entry, under, numbered, value, subcomponents, components, repetitions, fields}
use Rattle.gw_er7.specs.own.Ordered.{IsAbove, Above}

pub both : (a b : Bool) → T a → T b → T (a && b)
both true b p q = q
both false b p q = absurd p

pub first : (a b : Bool) → T (a && b) → T a
first true b p = tt
first false b p = absurd p

pub second : (a b : Bool) → T (a && b) → T b
second true b p = p
second false b p = absurd p

abbrev pub order : List ℕ → List ℕ → Ordering
order = slice_cmp nat_cmp

pub cmp-same : (n : ℕ) (key other : List ℕ) → order (n ∷ key) (n ∷ other) ≡ order key other
cmp-same n key other = ap (λ (r : Ordering). ordering_then r (order key other)) (sym (nat_cmp_is n n Equal refl))

less_key : (n : ℕ) (key other : List ℕ) → IsAbove n other → order (n ∷ key) other ≡ Less
less_key n key [] h = absurd h
less_key n key (m ∷ other) h = ap (λ (r : Ordering). ordering_then r (order key other)) (sym (nat_cmp_is n m Less h))

below-above : (n : ℕ) (key : List ℕ) (es : List Entry) → Above n es → T (below_all order (n ∷ key) es)
below-above n key [] h = tt
below-above n key (e ∷ es) h = both _ _ (subst (λ (r : Ordering). T (is_lt r)) (sym (less_key n key e.0 h.0)) tt) (below-above n key es h.1)

below-under : (n : ℕ) (key : List ℕ) (es : List Entry) → T (below_all order key es) → T (below_all order (n ∷ key) (map (under n) es))
below-under n key [] h = tt
below-under n key (e ∷ es) h = both _ _ (subst (λ (r : Ordering). T (is_lt r)) (sym (cmp-same n key e.0)) (first _ _ h)) (below-under n key es (second _ _ h))

below-append : (key : List ℕ) (es rest : List Entry) → T (below_all order key es) → T (below_all order key rest) → T (below_all order key (es ++ rest))
below-append key [] rest h k = k
below-append key (e ∷ es) rest h k = both _ _ (first _ _ h) (below-append key es rest (second _ _ h) k)

sorted-append : (n : ℕ) (es rest : List Entry) → T (is_sorted order es) → T (is_sorted order rest) → Above n rest → T (is_sorted order (map (under n) es ++ rest))
sorted-append n [] rest h k above = k
sorted-append n (e ∷ es) rest h k above =
    both _ _ (below-append (n ∷ e.0) (map (under n) es) rest (below-under n e.0 es (first _ _ h)) (below-above n e.0 rest above)) (sorted-append n es rest (second _ _ h) k above)

above-append : (n m : ℕ) (es rest : List Entry) → n < m → Above n rest → Above n (map (under m) es ++ rest)
above-append n m [] rest lt h = h
above-append n m (e ∷ es) rest lt h = (lt, above-append n m es rest lt h)

above-numbered : (inner : List ℕ → List Entry) (n m : ℕ) (ps : List (List ℕ)) → n < m → Above n (numbered inner m ps)
above-numbered inner n m [] lt = tt
above-numbered inner n m (p ∷ ps) lt = above-append n m (inner p) (numbered inner (m + 1) ps) lt (above-numbered inner n (m + 1) ps (omega arith))

abbrev Sorts : (List ℕ → List Entry) → Type 0
Sorts inner = (bytes : List ℕ) → T (is_sorted order (inner bytes))

sorted-numbered : (inner : List ℕ → List Entry) (m : ℕ) (ps : List (List ℕ)) → Sorts inner → T (is_sorted order (numbered inner m ps))
sorted-numbered inner m [] sorts = tt
sorted-numbered inner m (p ∷ ps) sorts =
    sorted-append m (inner p) (numbered inner (m + 1) ps) (sorts p) (sorted-numbered inner (m + 1) ps sorts) (above-numbered inner m (m + 1) ps (omega arith))

sorted-value : (d : Delimiters) → Sorts (value d)
sorted-value d [] = tt
sorted-value d (b ∷ bs) = tt

pub sorted-fields : (d : Delimiters) (from : ℕ) (bytes : List ℕ) → T (is_sorted order (fields d from bytes))
sorted-fields d from bytes =
    sorted-numbered (repetitions d) from (slice_split (λ b. b == d.field) bytes) (λ r.
    sorted-numbered (components d) 1 (slice_split (λ b. b == d.repetition) r) (λ c.
    sorted-numbered (subcomponents d) 1 (slice_split (λ b. b == d.component) c) (λ s.
    sorted-numbered (value d) 1 (slice_split (λ b. b == d.subcomponent) s) (sorted-value d))))

-- A level that is written part by part.
use Rattle.std.proofs.Common.{◌≡◌, ℕ, zero, suc, ◌+◌, ◌-◌, ◌<◌, ◌≤◌, max, List, [], ◌∷◌, ◌++◌, length, map, refl, sym, ap, ◌∙◌, append-nil, arith}
use Rattle.std.proofs.lemmas.Bool.{eq-eqb, ne_eqb}
use Rattle.std.proofs.lemmas.List.{length-map}
use Rattle.std.specs.List.{join_with_byte}
use Rattle.gw_er7.specs.Message.{first_number}
use Rattle.gw_er7.specs.Entries.{Entry, under}
use Rattle.gw_er7.specs.Written.{strip, those, last_number, parts_from, layer}
use Rattle.gw_er7.specs.own.Ordered.{IsAbove, Above, IsCut}

those-above : (n : ℕ) (es : List Entry) → Above n es → those n es ≡ []
those-above n [] h = refl
those-above n (e ∷ es) h = strip-above n e.0 e.1 (those n es) h.0 ∙ those-above n es h.1
  where
    strip-above : (n : ℕ) (key text : List ℕ) (es : List Entry) → IsAbove n key → strip n key text ++ es ≡ es
    strip-above n [] text es h = absurd h
    strip-above n (m ∷ key) text es h = rw (ne_eqb m n (λ e. absurd (omega arith))) refl

those-first : (n : ℕ) (es rest : List Entry) → Above n rest → those n (map (under n) es ++ rest) ≡ es
those-first n [] rest h = those-above n rest h
those-first n (e ∷ es) rest h = rw (eq-eqb n n refl) (ap (λ (x : List Entry). e ∷ x) (those-first n es rest h))

those-later : (n m : ℕ) (es rest : List Entry) → n < m → those m (map (under n) es ++ rest) ≡ those m rest
those-later n m [] rest lt = refl
those-later n m (e ∷ es) rest lt = rw (ne_eqb n m (λ z. absurd (omega arith))) (those-later n m es rest lt)

parts-later : (inner : List Entry → List ℕ) (n m count : ℕ) (es rest : List Entry) → n < m → parts_from inner (map (under n) es ++ rest) m count ≡ parts_from inner rest m count
parts-later inner n m zero es rest lt = refl
parts-later inner n m (suc count) es rest lt =
    ap (λ (x : List Entry). inner x ∷ parts_from inner (map (under n) es ++ rest) (m + 1) count) (those-later n m es rest lt)
    ∙ ap (λ (x : List (List ℕ)). inner (those m rest) ∷ x) (parts-later inner n (m + 1) count es rest (omega arith))

last-first : (n : ℕ) (es rest : List Entry) → last_number rest ≡ 0 → 0 < length es → last_number (map (under n) es ++ rest) ≡ n
last-first n [] rest none some = absurd (omega arith)
last-first n (e ∷ []) rest none some = omega arith
last-first n (e ∷ f ∷ es) rest none some = omega (arith, last-first n (f ∷ es) rest none (omega arith))

last-later : (n : ℕ) (es rest : List Entry) → n ≤ last_number rest → last_number (map (under n) es ++ rest) ≡ last_number rest
last-later n [] rest le = refl
last-later n (e ∷ es) rest le = omega (arith, last-later n es rest le)

pub above-last : (n : ℕ) (es : List Entry) → Above n es → 0 < length es → n < last_number es
above-last n [] h some = absurd (omega arith)
above-last n (e ∷ es) h some = above-key n e.0 (last_number es) h.0
  where
    above-key : (n : ℕ) (key : List ℕ) (later : ℕ) → IsAbove n key → n < max (first_number key) later
    above-key n [] later h = absurd h
    above-key n (m ∷ key) later h = omega arith

-- nothing stands at the level
pub layer-none : (inner : List Entry → List ℕ) (s n : ℕ) → 0 < n → layer inner s n [] ≡ []
layer-none inner s n lt = (let none : 0 + 1 - n ≡ 0 = omega arith in rw none refl)

-- the last part
pub layer-last : (inner : List Entry → List ℕ) (s n : ℕ) (es : List Entry) → 0 < n → inner [] ≡ [] → layer inner s n (map (under n) es) ≡ inner es
layer-last inner s n [] lt empty = layer-none inner s n lt ∙ sym empty
layer-last inner s n (e ∷ es) lt empty =
    let nil = append-nil (map (under n) (e ∷ es)) in
    let last : last_number (map (under n) (e ∷ es)) ≡ n = ap last_number (sym nil) ∙ last-first n (e ∷ es) [] refl (omega arith) in
    let one : last_number (map (under n) (e ∷ es)) + 1 - n ≡ 1 = omega (arith, last) in
    ap (λ (count : ℕ). join_with_byte s (parts_from inner (map (under n) (e ∷ es)) n count)) one
    ∙ ap (λ (x : List Entry). inner (those n x)) (sym nil) ∙ ap inner (those-first n (e ∷ es) [] tt)

-- a part, and those behind it
pub layer-more : (inner : List Entry → List ℕ) (s n : ℕ) (es rest : List Entry) → Above n rest → 0 < length rest → layer inner s n (map (under n) es ++ rest) ≡ inner es ++ s ∷ layer inner s (n + 1) rest
layer-more inner s n es rest above some =
    let far = above-last n rest above some in
    let all = last-later n es rest (omega (arith, far)) in
    let count : last_number (map (under n) es ++ rest) + 1 - n ≡ suc (suc (last_number rest - n - 1)) = omega (arith, all, far) in
    let later : last_number rest + 1 - (n + 1) ≡ suc (last_number rest - n - 1) = omega (arith, far) in
    let parts = parts-later inner n (n + 1) (suc (last_number rest - n - 1)) es rest (omega arith) in
    rw (count, those-first n es rest above, later) (ap (λ (ps : List (List ℕ)). join_with_byte s (inner es ∷ ps)) parts)

-- ---- parts one after the other

-- what stands behind a part reaches no further than all
pub record IsFurther (n : ℕ) (es later : List Entry) : Type 0 where
  pub above : n < last_number later
  pub last : last_number later ≤ last_number es

pub further : {A : Type 0} (view : A → Entry) (n : ℕ) (es these : List Entry) (later : List A) → IsCut n es these (map view later) → 0 < length later → IsFurther n es (map view later)
further view n es these later cut some =
    let far = above-last n (map view later) cut.above (omega (arith, length-map later view)) in
    let all : last_number es ≡ last_number (map view later) = ap last_number cut.whole ∙ last-later n these (map view later) (omega (arith, far)) in
    record { above = far; last = omega (arith, all) }

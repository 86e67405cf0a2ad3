-- No byte of a counted item is lost unseen.
use Rattle.std.proofs.Common.{◌≡◌, ◌⊎◌, inl, inr, refl, ℕ, zero, suc, ◌+◌, ◌-◌, ◌*◌, ◌<◌, ◌≤◌, ◌^◌, List, [], ◌∷◌, ◌++◌, length, take, get_or, sym, ◌∙◌, ap, arith}
use Rattle.std.proofs.Math.Dec.{eqb-suc-zero}
use Rattle.std.specs.Prelude.{Bool, not, nat_eq}
use Rattle.std.specs.Int.{w32, w64, to_be_bytes, from_be_bytes, from_bool}
use Rattle.std.proofs.lemmas.Nat.{from_be_bytes-to_be_bytes_4, from_be_bytes-to_be_bytes_8}
use Rattle.std.proofs.lemmas.List.{take_more}
use Rattle.gw_log.specs.Disk.{IsMixed}
use Rattle.gw_log.specs.File.{nonzero, sized, counted}

-- ---- bytes of which some were lost

pub lost_split : (a b x y : List ℕ) → length a ≡ length b → IsMixed [] (a ++ x) (b ++ y) → IsMixed [] a b × IsMixed [] x y
lost_split [] [] x y same m = (refl, m)
lost_split [] (d ∷ b) x y same m = absurd (omega (arith, same))
lost_split (c ∷ a) [] x y same m = absurd (omega (arith, same))
lost_split (c ∷ a) (d ∷ b) x y same m = let rest = lost_split a b x y (omega (arith, same)) m.1 in ((m.0, rest.0), rest.1)

never : (d : ℕ) → (suc d ≡ 0) ⊎ (suc d ≡ 0) → ⊥
never d (inl is) = omega (arith, is)
never d (inr is) = omega (arith, is)

heads : (c d : ℕ) (a b : List ℕ) → (suc d ≡ 0) ⊎ (suc d ≡ suc c) → a ≡ b → suc c ∷ a ≡ suc d ∷ b
heads c d a b (inl is) same = absurd (omega (arith, is))
heads c d a b (inr is) same = ap (λ (n : ℕ). n ∷ a) (sym is) ∙ ap (λ (l : List ℕ). suc d ∷ l) same

-- none is more, also of a front
pub front_le : (a b x y : List ℕ) → length b ≤ length a → IsMixed [] (a ++ x) (b ++ y) → nonzero b ≤ nonzero a
front_le a [] x y le m = omega arith
front_le [] (d ∷ b) x y le m = absurd (omega (arith, le))
front_le (zero ∷ a) (zero ∷ b) x y le m = front_le a b x y (omega (arith, le)) m.1
front_le (zero ∷ a) (suc d ∷ b) x y le m = absurd (never d m.0)
front_le (suc c ∷ a) (zero ∷ b) x y le m = omega (arith, front_le a b x y (omega (arith, le)) m.1)
front_le (suc c ∷ a) (suc d ∷ b) x y le m = omega (arith, front_le a b x y (omega (arith, le)) m.1)

pub lost_le : (a b : List ℕ) → IsMixed [] a b → nonzero b ≤ nonzero a
lost_le [] b m = omega (arith, ap nonzero m)
lost_le (c ∷ a) [] m = omega arith
lost_le (zero ∷ a) (zero ∷ b) m = lost_le a b m.1
lost_le (zero ∷ a) (suc d ∷ b) m = absurd (never d m.0)
lost_le (suc c ∷ a) (zero ∷ b) m = omega (arith, lost_le a b m.1)
lost_le (suc c ∷ a) (suc d ∷ b) m = omega (arith, lost_le a b m.1)

-- where as many are not 0, nothing was lost
pub lost_same : (a b : List ℕ) → IsMixed [] a b → length a ≡ length b → nonzero a ≡ nonzero b → a ≡ b
lost_same [] [] m same is = refl
lost_same [] (d ∷ b) m same is = absurd (omega (arith, same))
lost_same (c ∷ a) [] m same is = absurd (omega (arith, same))
lost_same (zero ∷ a) (zero ∷ b) m same is = ap (λ (l : List ℕ). 0 ∷ l) (lost_same a b m.1 (omega (arith, same)) is)
lost_same (zero ∷ a) (suc d ∷ b) m same is = absurd (never d m.0)
lost_same (suc c ∷ a) (zero ∷ b) m same is = absurd (omega (arith, is, lost_le a b m.1))
lost_same (suc c ∷ a) (suc d ∷ b) m same is = heads c d a b m.0 (lost_same a b m.1 (omega (arith, same)) (omega (arith, is)))

pub mixed_all : (a : List ℕ) → IsMixed [] a a
mixed_all [] = refl
mixed_all (c ∷ a) = (inr refl, mixed_all a)

-- ---- how many are not 0

pub nonzero-append : (a b : List ℕ) → nonzero (a ++ b) ≡ nonzero a + nonzero b
nonzero-append [] b = omega arith
nonzero-append (zero ∷ a) b = nonzero-append a b
nonzero-append (suc c ∷ a) b = omega (arith, nonzero-append a b)

pub nonzero-le : (a : List ℕ) → nonzero a ≤ length a
nonzero-le [] = omega arith
nonzero-le (zero ∷ a) = omega (arith, nonzero-le a)
nonzero-le (suc c ∷ a) = omega (arith, nonzero-le a)

one_more : (v : ℕ) → from_bool (not (nat_eq v 0)) ≡ nonzero (v ∷ [])
one_more zero = refl
one_more (suc n) = ap (λ (b : Bool). from_bool (not b)) (eqb-suc-zero n)

one_le : (v : ℕ) → nonzero (v ∷ []) ≤ 1
one_le zero = omega arith
one_le (suc n) = omega arith

-- with one byte more
pub counted_step : (xs : List ℕ) (i n k d : ℕ) → i < length xs → n ≡ nonzero (take i xs) → n ≤ i → k ≡ from_bool (not (nat_eq (get_or xs i d) 0))
    → (n + k ≡ nonzero (take (i + 1) xs)) × (n + k ≤ i + 1)
counted_step xs i n k d lt is few one =
    let more : nonzero (take (i + 1) xs) ≡ nonzero (take i xs) + nonzero (get_or xs i d ∷ []) =
    ap nonzero (take_more xs i d lt) ∙ nonzero-append (take i xs) (get_or xs i d ∷ []) in
    let k_is : k ≡ nonzero (get_or xs i d ∷ []) = one ∙ one_more (get_or xs i d) in
    (omega (arith, more, is, k_is), omega (arith, few, k_is, one_le (get_or xs i d)))

-- ---- numbers of which bytes were lost

small : (x y : ℕ) → (y ≡ 0) ⊎ (y ≡ x) → y ≤ x
small x y (inl is) = omega (arith, is)
small x y (inr is) = omega (arith, is)

le4 : (a b c d p q r s : ℕ) → p ≤ a → q ≤ b → r ≤ c → s ≤ d → from_be_bytes w32 (p ∷ q ∷ r ∷ s ∷ []) ≤ from_be_bytes w32 (a ∷ b ∷ c ∷ d ∷ [])
le4 a b c d p q r s one two three four = by one two three four
  where
    by : p ≤ a → q ≤ b → r ≤ c → s ≤ d → p * 16777216 + q * 65536 + r * 256 + s ≤ a * 16777216 + b * 65536 + c * 256 + d
    by one two three four = omega (arith, one, two, three, four)

le8 : (a b c d e f g h p q r s t u v w : ℕ) → p ≤ a → q ≤ b → r ≤ c → s ≤ d → t ≤ e → u ≤ f → v ≤ g → w ≤ h
    → from_be_bytes w64 (p ∷ q ∷ r ∷ s ∷ t ∷ u ∷ v ∷ w ∷ []) ≤ from_be_bytes w64 (a ∷ b ∷ c ∷ d ∷ e ∷ f ∷ g ∷ h ∷ [])
le8 a b c d e f g h p q r s t u v w one two three four five six seven eight = by one two three four five six seven eight
  where
    by : p ≤ a → q ≤ b → r ≤ c → s ≤ d → t ≤ e → u ≤ f → v ≤ g → w ≤ h
        → p * 72057594037927936 + q * 281474976710656 + r * 1099511627776 + s * 4294967296 + t * 16777216 + u * 65536 + v * 256 + w
        ≤ a * 72057594037927936 + b * 281474976710656 + c * 1099511627776 + d * 4294967296 + e * 16777216 + f * 65536 + g * 256 + h
    by one two three four five six seven eight = omega (arith, one, two, three, four, five, six, seven, eight)

pub size_le : (n m : ℕ) → n < 2 ^ 32 → m < 2 ^ 32 → IsMixed [] (to_be_bytes w32 n) (to_be_bytes w32 m) → m ≤ n
size_le n m short fits mix =
    let le : from_be_bytes w32 (to_be_bytes w32 m) ≤ from_be_bytes w32 (to_be_bytes w32 n) =
    le4 _ _ _ _ _ _ _ _ (small _ _ mix.0) (small _ _ mix.1.0) (small _ _ mix.1.1.0) (small _ _ mix.1.1.1.0) in
    omega (arith, le, from_be_bytes-to_be_bytes_4 n short, from_be_bytes-to_be_bytes_4 m fits)

pub count_le : (n m : ℕ) → n < 2 ^ 64 → m < 2 ^ 64 → IsMixed [] (to_be_bytes w64 n) (to_be_bytes w64 m) → m ≤ n
count_le n m short fits mix =
    let le : from_be_bytes w64 (to_be_bytes w64 m) ≤ from_be_bytes w64 (to_be_bytes w64 n) =
    le8 _ _ _ _ _ _ _ _ _ _ _ _ _ _ _ _ (small _ _ mix.0) (small _ _ mix.1.0) (small _ _ mix.1.1.0) (small _ _ mix.1.1.1.0)
    (small _ _ mix.1.1.1.1.0) (small _ _ mix.1.1.1.1.1.0) (small _ _ mix.1.1.1.1.1.1.0) (small _ _ mix.1.1.1.1.1.1.1.0) in
    omega (arith, le, from_be_bytes-to_be_bytes_8 n short, from_be_bytes-to_be_bytes_8 m fits)

-- ---- an item

abbrev four : List ℕ → List ℕ
four i = to_be_bytes w32 (length i)

abbrev count : List ℕ → ℕ
count i = 2 ^ 64 - 1 - nonzero (sized i)

pub nonzero-sized : (i : List ℕ) → nonzero (sized i) ≡ nonzero (four i) + nonzero i
nonzero-sized i = nonzero-append (four i) i

pub sized_le : (i : List ℕ) → nonzero (sized i) ≤ 4 + length i
sized_le i = omega (arith, nonzero-sized i, nonzero-le (four i), nonzero-le i)

-- What has a right count where an item was written is that item
pub lost_item : (i j x y : List ℕ) → length i < 2 ^ 32 → length j < 2 ^ 32 → IsMixed [] (counted i ++ x) (counted j ++ y) → (i ≡ j) × IsMixed [] x y
lost_item i j x y short fits m =
    let s = lost_split (to_be_bytes w64 (count i)) (to_be_bytes w64 (count j)) (sized i ++ x) (sized j ++ y) refl m in
    let t = lost_split (four i) (four j) (i ++ x) (j ++ y) refl s.1 in
    let fewer : count j ≤ count i = count_le (count i) (count j) (omega arith) (omega arith) s.0 in
    let shorter : length j ≤ length i = size_le (length i) (length j) short fits t.0 in
    let first : nonzero (four j) ≤ nonzero (four i) = lost_le (four i) (four j) t.0 in
    let second : nonzero j ≤ nonzero i = front_le i j x y shorter t.1 in
    let least : nonzero (sized i) ≤ nonzero (sized j) = omega (arith, fewer, sized_le i, sized_le j, short, fits) in
    let same : nonzero (four i) ≡ nonzero (four j) = omega (arith, least, first, second, nonzero-sized i, nonzero-sized j) in
    let equal : nonzero i ≡ nonzero j = omega (arith, least, first, second, nonzero-sized i, nonzero-sized j) in
    let sizes : four i ≡ four j = lost_same (four i) (four j) t.0 refl same in
    let size : length i ≡ length j = sym (from_be_bytes-to_be_bytes_4 (length i) short) ∙ ap (from_be_bytes w32) sizes
    ∙ from_be_bytes-to_be_bytes_4 (length j) fits in
    let parts = lost_split i j x y size t.1 in
    (lost_same i j parts.0 size equal, parts.1)

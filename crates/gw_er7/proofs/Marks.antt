-- The bytes of a value up to the first that ends it or doesn't stand for itself.
use Rattle.std.proofs.Common.{◌≡◌, ℕ, ◌+◌, ◌<◌, ◌≤◌, ◌⊎◌, inl, inr, Bool, true, false, List, ◌∷◌, ◌++◌, length, get_or, take, drop, Option, None, Some, refl, sym, ap, subst, ◌∙◌, arith}
use Rattle.std.specs.Prelude.{not}
use Rattle.std.specs.List.{position_or_len}
use Rattle.std.proofs.lemmas.Bool.{cases_lt, or_parts, true≢false}
use Rattle.std.proofs.lemmas.List.{take-append-drop, drop_more, get_or-take, get_or_at, get_or_append_left, length-take}
use Rattle.std.proofs.lemmas.List.Elements.{All-from_get_or}
use Rattle.std.proofs.lemmas.List.Sums.{prefix_len-le-length, position_or_len_is, fails_before_first, passes_at_first}
use denote.Ref.{Bor}
use Rattle.gw_er7.specs.declared.delimiters.Delimiters.{Delimiters}
use Rattle.gw_er7.specs.own.Separators.{separators, is_separator, is_mark, IsPlainTo, IsClear, IsLastValue, IsNextValue, IsCut}
use Rattle.gw_er7.proofs.Heads.{stops}

-- what holds of the first bytes
module _ (d : Delimiters) (bytes : List ℕ) (m : ℕ) (k : ℕ) (first : k ≡ position_or_len (is_mark d) (take m bytes)) where
  plain_below : (i : ℕ) → i < k → i < m → is_mark d (get_or bytes i 0) ≡ false
  plain_below i lt within = subst (λ b. is_mark d b ≡ false) (get_or-take m bytes i 0 within) (fails_before_first (is_mark d) (take m bytes) i 0 (omega (arith, lt, first)))

  pub plain_near : m ≤ k → IsPlainTo d bytes m
  plain_near ge i lt = plain_below i (omega (arith, lt, ge)) lt

  pub first_near : k < m → m ≤ length bytes → k ≡ position_or_len (is_mark d) bytes
  first_near lt le = sym (position_or_len_is (is_mark d) bytes k 0 (omega (arith, lt, le)) (λ i l. plain_below i l (omega (arith, l, lt)))
      (λ _. subst (λ b. is_mark d b ≡ true) (get_or-take m bytes k 0 lt) (ap (λ (i : ℕ). is_mark d (get_or (take m bytes) i 0)) first
      ∙ passes_at_first (is_mark d) (take m bytes) 0 (omega (arith, lt, le, first, length-take m bytes)))))

module _ (d : Delimiters) (bytes : List ℕ) (k : ℕ) (first : k ≡ position_or_len (is_mark d) bytes) where
  before : (i : ℕ) → i < k → (stops d (get_or bytes i 0) ≡ false) × (is_separator (separators d) (get_or bytes i 0) ≡ false)
  before i lt = or_parts (stops d (get_or bytes i 0)) _ (fails_before_first (is_mark d) bytes i 0 (omega (arith, lt, first)))

  clear_before : IsClear (separators d) (take k bytes)
  clear_before = All-from_get_or (λ b. is_separator (separators d) b ≡ false) (take k bytes) 0 (λ i lt.
      let small : i < k = omega (arith, length-take k bytes) in
      subst (λ b. is_separator (separators d) b ≡ false) (sym (get_or-take k bytes i 0 small)) (before i small).1)

  none_left : length bytes ≤ k → k ≡ length bytes
  none_left le = omega (arith, first, prefix_len-le-length (λ b. not (is_mark d b)) bytes)

  -- no byte ends the value, and all stand for themselves
  pub all_clear : length bytes ≤ k → IsLastValue (separators d) bytes bytes
  all_clear le = let e = none_left le in record { whole = refl; clear = All-from_get_or (λ b. is_separator (separators d) b ≡ false) bytes 0 (λ i lt. (before i (omega (arith, e))).1) }

  pub all_plain : length bytes ≤ k → k ≡ position_or_len (stops d) bytes
  all_plain le = let e = none_left le in sym (position_or_len_is (stops d) bytes k 0 (omega (arith, e)) (λ i lt. (before i lt).0) (λ lt. absurd (omega (arith, e))))

  -- the first of them ends the value
  pub next_clear : k < length bytes → is_separator (separators d) (get_or bytes k 0) ≡ true → IsNextValue (separators d) bytes (take k bytes) (get_or bytes k 0) (drop (k + 1) bytes)
  next_clear lt is = record {
    whole = sym (take-append-drop k bytes) ∙ ap (λ (x : List ℕ). take k bytes ++ x) (drop_more bytes k 0 lt);
    clear = clear_before;
    separates = is;
  }

  pub next_plain : k < length bytes → k ≡ position_or_len (stops d) (take k bytes)
  next_plain lt =
      let len : length (take k bytes) ≡ k = omega (arith, length-take k bytes) in
      sym (position_or_len_is (stops d) (take k bytes) k 0 (omega (arith, len))
      (λ i small. subst (λ b. stops d b ≡ false) (sym (get_or-take k bytes i 0 small)) (before i small).0) (λ lt. absurd (omega (arith, len))))

  -- the first of them doesn't stand for itself
  stopped : k < length bytes → is_separator (separators d) (get_or bytes k 0) ≡ false → stops d (get_or bytes k 0) ≡ true
  stopped lt other = by (stops d (get_or bytes k 0)) refl (subst (λ (n : ℕ). is_mark d (get_or bytes n 0) ≡ true) (sym first) (passes_at_first (is_mark d) bytes 0 (omega (arith, lt, first))))
    where
      by : (b : Bool) → stops d (get_or bytes k 0) ≡ b → is_mark d (get_or bytes k 0) ≡ true → stops d (get_or bytes k 0) ≡ true
      by true e is = e
      by false e is = absurd (true≢false (sym is ∙ rw e other))

  pub cut_plain : (raw : List ℕ) (behind : Option (ℕ × Bor (List ℕ))) → k < length bytes → is_separator (separators d) (get_or bytes k 0) ≡ false → IsCut (separators d) bytes raw behind → k ≡ position_or_len (stops d) raw
  cut_plain raw None lt other is = subst (λ (bs : List ℕ). k ≡ position_or_len (stops d) bs) is.whole
      (sym (position_or_len_is (stops d) bytes k 0 (omega (arith, lt)) (λ i l. (before i l).0) (λ l. stopped lt other)))
  cut_plain raw (Some b) lt other is = by (cases_lt k (length raw))
    where
      here : (i : ℕ) → i < length raw → get_or bytes i 0 ≡ get_or raw i 0
      here i l = ap (λ (bs : List ℕ). get_or bs i 0) is.whole ∙ get_or_append_left raw (b.0 ∷ b.1.now) 0 i l

      end : get_or bytes (length raw) 0 ≡ b.0
      end = ap (λ (bs : List ℕ). get_or bs (length raw) 0) is.whole ∙ get_or_at raw b.0 b.1.now 0 (length raw) refl

      by : (k < length raw) ⊎ (length raw ≤ k) → k ≡ position_or_len (stops d) raw
      by (inl l) = sym (position_or_len_is (stops d) raw k 0 (omega (arith, l)) (λ i m. sym (ap (stops d) (here i (omega (arith, l, m)))) ∙ (before i m).0) (λ m. sym (ap (stops d) (here k l)) ∙ stopped lt other))
      by (inr ge) = elim (cases_lt (length raw) k) as (λ _. k ≡ position_or_len (stops d) raw) [
        | inl l ↦ absurd (true≢false (sym is.separates ∙ sym (ap (is_separator (separators d)) end) ∙ (before (length raw) l).1))
        | inr le ↦ (let same : k ≡ length raw = omega (arith, ge, le) in
            absurd (true≢false (sym is.separates ∙ sym (ap (is_separator (separators d)) (ap (λ (n : ℕ). get_or bytes n 0) same ∙ end)) ∙ other)))
      ]

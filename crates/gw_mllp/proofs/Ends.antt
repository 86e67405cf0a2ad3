-- Where FS CR stands in a list, and where it does not.
use Rattle.std.proofs.Common.{◌≡◌, ℕ, ◌+◌, ◌-◌, ◌<◌, take, List, [], ◌∷◌, ◌++◌, length, refl, sym, ap, ◌∙◌, append_assoc, arith, inl, inr, ◌⊎◌}
use Rattle.std.proofs.lemmas.List.{length-append, get_or_push, take_all, take_more}
use Rattle.std.specs.Prelude.{slice_index}
use Rattle.gw_mllp.specs.Stream.{Lacks, HasNoEnd, content_len}

-- two ways to cut one list: the first cut is not before the second, or it is before it
pub overlap : (a q c z : List ℕ) → a ++ q ≡ c ++ z
    → ((w : List ℕ) × (a ≡ c ++ w) × (z ≡ w ++ q)) ⊎ ((w : List ℕ) × (c ≡ a ++ w) × (q ≡ w ++ z))
overlap a q [] z e = inl (a, refl, sym e)
overlap [] q (x ∷ c) z e = inr (x ∷ c, refl, e)
overlap (y ∷ a) q (x ∷ c) z e =
    let same : y ≡ x = cc in
    let rest : a ++ q ≡ c ++ z = cc in
    elim (overlap a q c z rest) as (λ _. ((w : List ℕ) × (y ∷ a ≡ (x ∷ c) ++ w) × (z ≡ w ++ q)) ⊎ ((w : List ℕ) × (x ∷ c ≡ (y ∷ a) ++ w) × (q ≡ w ++ z))) [
      | inl p ↦ inl (p.0, (let h : a ≡ c ++ p.0 = p.1 in cc), p.2)
      | inr p ↦ inr (p.0, (let h : c ≡ a ++ p.0 = p.1 in cc), p.2)
    ]

pub HasNoEnd-nil : HasNoEnd []
HasNoEnd-nil [] after e = absurd cc
HasNoEnd-nil (x ∷ before) after e = absurd cc

pub HasNoEnd-front : (a b : List ℕ) → HasNoEnd (a ++ b) → HasNoEnd a
HasNoEnd-front a b h before after e = h before (after ++ b) (ap (λ (s : List ℕ). s ++ b) e ∙ append_assoc before (28 ∷ 13 ∷ after) b)

-- a byte that stands nowhere
pub Lacks-at : (k : ℕ) (u before after : List ℕ) → Lacks k u → u ≡ before ++ k ∷ after → ⊥
Lacks-at k [] [] after h e = absurd cc
Lacks-at k [] (b ∷ before) after h e = absurd cc
Lacks-at k (x ∷ u) [] after h e = h.0 cc
Lacks-at k (x ∷ u) (b ∷ before) after h e = let rest : u ≡ before ++ k ∷ after = cc in Lacks-at k u before after h.1 rest

pub Lacks-append : (k : ℕ) (a b : List ℕ) → Lacks k a → Lacks k b → Lacks k (a ++ b)
Lacks-append k [] b ha hb = hb
Lacks-append k (x ∷ a) b ha hb = (ha.0, Lacks-append k a b ha.1 hb)

-- bytes without CR
pub HasNoEnd-more : (t u : List ℕ) → HasNoEnd t → Lacks 13 u → HasNoEnd (t ++ u)
HasNoEnd-more t u ht hu before after e =
    elim (overlap t u before (28 ∷ 13 ∷ after) e) as (λ _. ⊥) [
      | inl p ↦ more-late t u before after ht hu p.0 p.1 p.2
      | inr p ↦ more-early u after hu p.0 p.2
    ]
  where
    more-early : (u after : List ℕ) → Lacks 13 u → (w : List ℕ) → u ≡ w ++ 28 ∷ 13 ∷ after → ⊥
    more-early u after hu w e = Lacks-at 13 u (w ++ 28 ∷ []) after hu (e ∙ sym (append_assoc w (28 ∷ []) (13 ∷ after)))

    more-late : (t u before after : List ℕ) → HasNoEnd t → Lacks 13 u → (w : List ℕ) → t ≡ before ++ w → 28 ∷ 13 ∷ after ≡ w ++ u → ⊥
    more-late t u before after ht hu [] e f = Lacks-at 13 u (28 ∷ []) after hu (sym f)
    more-late t u before after ht hu (x ∷ []) e f = (let g : u ≡ 13 ∷ after = cc in Lacks-at 13 u [] after hu g)
    more-late t u before after ht hu (x ∷ y ∷ w) e f =
        let x-is : x ≡ 28 = cc in
        let y-is : y ≡ 13 = cc in
        ht before w (e ∙ ap (λ (b : ℕ). before ++ b ∷ y ∷ w) x-is ∙ ap (λ (b : ℕ). before ++ 28 ∷ b ∷ w) y-is)

-- the last byte, as slices read it
pub last-push : (a : List ℕ) (x : ℕ) → slice_index (a ++ x ∷ []) (length (a ++ x ∷ []) - 1) ≡ x
last-push a x =
    let n : length (a ++ x ∷ []) - 1 ≡ length a = omega (arith, length-append a (x ∷ [])) in
    rw n (get_or_push a x 0 (length a) refl)

pub content_len-push : (c : List ℕ) → content_len (c ++ 28 ∷ []) ≡ length c
content_len-push c = rw (last-push c 28) (omega (arith, length-append c (28 ∷ [])))

-- what `pop` leaves of bytes that end in FS
pub popped : (content kept : List ℕ) → 0 < length content → slice_index content (length content - 1) ≡ 28 → kept ≡ take (length content - 1) content → content ≡ kept ++ 28 ∷ []
popped content kept some last e =
    let n : length content - 1 < length content = omega arith in
    let m : (length content - 1) + 1 ≡ length content = omega arith in
    sym (take_all (length content) content (omega arith)) ∙ ap (λ (k : ℕ). take k content) (sym m) ∙ take_more content (length content - 1) 0 n
    ∙ ap (λ (b : ℕ). take (length content - 1) content ++ b ∷ []) last ∙ ap (λ (x : List ℕ). x ++ 28 ∷ []) (sym e)

-- What is written step by step is what is written level by level.
use Rattle.std.proofs.Common.{◌≡◌, ℕ, zero, suc, ◌+◌, ◌<◌, List, [], ◌∷◌, ◌++◌, map, take, drop, refl, sym, ap, ◌∙◌, append-nil, arith}
use Rattle.std.specs.Prelude.{◌==◌, not}
use Rattle.std.specs.List.{prefix_len}
use Rattle.gw_er7.specs.Message.{numbers}
use Rattle.gw_er7.specs.Entries.{Entry}
use Rattle.gw_er7.specs.own.Gaps.{levels}
use Rattle.gw_er7.specs.own.Ordered.{IsOrdered, IsCut}
use Rattle.gw_er7.specs.View.{Held, entries_of}
use Rattle.gw_er7.specs.Written.{last_number, layer, leaf_text, component_text, repetition_text, field_text, fields_text}
use Rattle.gw_er7.proofs.Runs.{cut_run}
use Rattle.gw_er7.proofs.Steps.{ones, steps, behind, steps-under}
use Rattle.gw_er7.proofs.PartByPart.{layer-last, layer-more, IsFurther, further}

module _ (head : Held → ℕ) (tail : Held → Entry) (t : ℕ) (ts : List ℕ) (inner : List Entry → List ℕ) where
  abbrev full : Held → Entry
  full l = (head l ∷ (tail l).0, (tail l).1)

  abbrev Flattens : Type 0
  Flattens = (ys : List Held) → IsOrdered 1 (map tail ys) → steps ts (ones ts) (map tail ys) ≡ inner (map tail ys)

  abbrev Is : ℕ → List Held → Type 0
  Is n xs = steps (t ∷ ts) (n ∷ ones ts) (map full xs) ≡ layer inner t n (map full xs)

  one_part : inner [] ≡ [] → Flattens → (n : ℕ) (xs these later : List Held) → 0 < n → IsCut n (map full xs) (map tail these) (map full later) → (IsFurther n (map full xs) (map full later) → Is (n + 1) later) → Is n xs
  one_part empty within n xs these [] lt cut next =
      ap (steps (t ∷ ts) (n ∷ ones ts)) cut.whole ∙ steps-under t ts n (ones ts) (map tail these) [] tt ∙ append-nil (steps ts (ones ts) (map tail these)) ∙ within these cut.inner
      ∙ sym (ap (layer inner t n) (cut.whole ∙ append-nil _) ∙ layer-last inner t n (map tail these) lt empty)
  one_part empty within n xs these (x ∷ later) lt cut next =
      ap (steps (t ∷ ts) (n ∷ ones ts)) cut.whole ∙ steps-under t ts n (ones ts) (map tail these) (map full (x ∷ later)) cut.above
      ∙ ap (λ (y : List ℕ). y ++ behind t ts n (map full (x ∷ later))) (within these cut.inner)
      ∙ ap (λ (y : List ℕ). inner (map tail these) ++ t ∷ y) (next (further full n (map full xs) (map tail these) (x ∷ later) cut (omega arith)))
      ∙ sym (ap (layer inner t n) cut.whole ∙ layer-more inner t n (map tail these) (map full (x ∷ later)) cut.above (omega arith))

  flat : inner [] ≡ [] → Flattens → (fuel n : ℕ) (xs : List Held) → last_number (map full xs) < n + fuel → 0 < n → IsOrdered n (map full xs) → Is n xs
  flat empty within zero n xs bound lt is =
      let k = prefix_len (λ l. not (not (head l == n))) xs in
      one_part empty within n xs (take k xs) (drop k xs) lt (cut_run head tail n xs is) (λ far. absurd (omega (arith, bound, far.above, far.last)))
  flat empty within (suc fuel) n xs bound lt is =
      let k = prefix_len (λ l. not (not (head l == n))) xs in
      let cut = cut_run head tail n xs is in
      one_part empty within n xs (take k xs) (drop k xs) lt cut (λ far. flat empty within fuel (n + 1) (drop k xs) (omega (arith, bound, far.last)) (omega arith) cut.outer)

  pub in_layer : inner [] ≡ [] → Flattens → (n : ℕ) (xs : List Held) → 0 < n → IsOrdered n (map full xs) → steps (t ∷ ts) (n ∷ ones ts) (map full xs) ≡ layer inner t n (map full xs)
  in_layer empty within n xs lt is = flat empty within (last_number (map full xs)) n xs (omega (arith, lt)) lt is

-- ---- at each level

-- a text without the first numbers of its place
abbrev inside : ℕ → Held → Entry
inside n l = (drop n (numbers l.place), l.text)

subcomponent : (xs : List Held) → IsOrdered 1 (map (inside 4) xs) → steps [] [] (map (inside 4) xs) ≡ leaf_text (map (inside 4) xs)
subcomponent [] is = refl
subcomponent (x ∷ []) is = append-nil x.text
subcomponent (x ∷ y ∷ xs) is = absurd is.rising

component : (xs : List Held) → IsOrdered 1 (map (inside 3) xs) → steps (38 ∷ []) (1 ∷ []) (map (inside 3) xs) ≡ component_text (map (inside 3) xs)
component xs is = in_layer (λ l. l.place.sub) (inside 4) 38 [] leaf_text refl subcomponent 1 xs (omega arith) is

repetition : (xs : List Held) → IsOrdered 1 (map (inside 2) xs) → steps (94 ∷ 38 ∷ []) (1 ∷ 1 ∷ []) (map (inside 2) xs) ≡ repetition_text (map (inside 2) xs)
repetition xs is = in_layer (λ l. l.place.comp) (inside 3) 94 (38 ∷ []) component_text refl component 1 xs (omega arith) is

field : (xs : List Held) → IsOrdered 1 (map (inside 1) xs) → steps (126 ∷ 94 ∷ 38 ∷ []) (1 ∷ 1 ∷ 1 ∷ []) (map (inside 1) xs) ≡ field_text (map (inside 1) xs)
field xs is = in_layer (λ l. l.place.rep) (inside 2) 126 (94 ∷ 38 ∷ []) repetition_text refl repetition 1 xs (omega arith) is

pub fields : (first : ℕ) (xs : List Held) → 0 < first → IsOrdered first (entries_of xs) → steps levels (first ∷ 1 ∷ 1 ∷ 1 ∷ []) (entries_of xs) ≡ fields_text first (entries_of xs)
fields first xs lt is = in_layer (λ l. l.place.field) (inside 1) 124 (126 ∷ 94 ∷ 38 ∷ []) field_text refl field first xs lt is

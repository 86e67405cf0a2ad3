-- A repetition that was written is read back from its bytes.
use Rattle.std.proofs.Common.{◌≡◌, ◌≢◌, ℕ, zero, suc, ◌+◌, ◌-◌, ◌<◌, ◌≤◌, false, List, [], ◌∷◌, ◌++◌, length, map, refl, sym, ap, subst, ◌∙◌, arith}
use Rattle.std.proofs.lemmas.Bool.{eq-eqb, ne_eqb}
use Rattle.std.proofs.lemmas.List.Elements.{All-from_recursion}
use Rattle.std.proofs.lemmas.List.Splits.{slice_split_none, slice_split_at}
use Rattle.std.specs.Prelude.{T, ◌==◌}
use Rattle.std.specs.List.{slice_split, join_with_byte, All, AllByRecursion}
use Rattle.std.specs.Ordering.{is_lt}
use Rattle.std.specs.FinMap.Entries.{is_sorted}
use Rattle.gw_er7.specs.Entries.{Entry, under, numbered, level}
use Rattle.gw_er7.specs.Message.{first_number}
use Rattle.gw_er7.specs.Written.{those, last_number, parts_from, layer, leaf_text, component_text, repetition_text}
use Rattle.gw_er7.proofs.Each.{Each-weaker}
use Rattle.gw_er7.proofs.Levels.{level-empty}
use Rattle.gw_er7.proofs.Rounds.{Lacks, IsText, Texts, Texts-those, canonical_text, component-each, leaf-each}
use Rattle.gw_er7.proofs.Sorted.{order, first}
use Rattle.gw_ack.specs.Rows.{IsKeyed, IsRepetition}
use Rattle.gw_ack.specs.Seen.{leaf_in, repetition_in}
use Rattle.gw_ack.proofs.Lawful.{those-keyed, those-sorted}
use Rattle.gw_ack.proofs.Numbers.{From, cut, parts_same}

-- ---- parts joined, and cut again

unmatched : (s : ℕ) (p : List ℕ) → Lacks s p → All (λ b. (b == s) ≡ false) p
unmatched s p h = All-from_recursion (λ b. (b == s) ≡ false) p (Each-weaker (λ b. b ≢ s) (λ b. (b == s) ≡ false) (λ b apart. ne_eqb b s apart) p h)

cut-join : (s : ℕ) (ps : List (List ℕ)) → 0 < length ps → AllByRecursion (Lacks s) ps → slice_split (λ b. b == s) (join_with_byte s ps) ≡ ps
cut-join s [] some h = absurd (omega arith)
cut-join s (p ∷ []) some h = slice_split_none (λ b. b == s) p (unmatched s p h.0)
cut-join s (p ∷ q ∷ ps) some h =
    slice_split_at (λ b. b == s) p s (join_with_byte s (q ∷ ps)) (unmatched s p h.0) (eq-eqb s s refl)
    ∙ ap (λ (xs : List (List ℕ)). p ∷ xs) (cut-join s (q ∷ ps) (omega arith) h.1)

-- ---- one level

module _ (read : List ℕ → List Entry) (write : List Entry → List ℕ) where
  abbrev Back : List Entry → Type 0
  Back es = read (write es) ≡ es

  some_parts : (es : List Entry) (m count : ℕ) → 0 < count → 0 < length (parts_from write es m count)
  some_parts es m zero lt = absurd (omega arith)
  some_parts es m (suc count) lt = omega arith

  each_part : (Q : List ℕ → Type 0) (es : List Entry) (m count : ℕ) → ((k : ℕ) → Q (write (those k es))) → AllByRecursion Q (parts_from write es m count)
  each_part Q es m zero each = tt
  each_part Q es m (suc count) each = (each m, each_part Q es (m + 1) count each)

  back_parts : (n count : ℕ) (es : List Entry) → 0 < n → T (is_sorted order es) → From n es → last_number es < n + count → ((k : ℕ) → n ≤ k → Back (those k es))
      → numbered read n (parts_from write es n count) ≡ es
  back_parts n zero [] lt s h bound inner = refl
  back_parts n zero (e ∷ es) lt s h bound inner = absurd (omega (arith, h.0, bound))
  back_parts n (suc count) es lt s h bound inner =
      let c = cut n es lt s h in
      ap (λ (x : List Entry). map (under n) x ++ numbered read (n + 1) (parts_from write es (n + 1) count)) (inner n (omega arith))
      ∙ ap (λ (ps : List (List ℕ)). map (under n) (those n es) ++ numbered read (n + 1) ps) (parts_same write es c.later (n + 1) count (λ k le. c.same k (omega (arith, le))))
      ∙ ap (λ (x : List Entry). map (under n) (those n es) ++ x) (back_parts (n + 1) count c.later (omega arith) c.sorted c.from (omega (arith, c.last, bound))
      (λ k le. subst Back (c.same k (omega (arith, le))) (inner k (omega (arith, le)))))
      ∙ sym c.whole

  back_level : (s : ℕ) (es : List Entry) → read [] ≡ [] → T (is_sorted order es) → From 1 es → ((k : ℕ) → Back (those k es)) → ((k : ℕ) → Lacks s (write (those k es)))
      → level read s (layer write s 1 es) ≡ es
  back_level s [] empty sorted h inner lacks = level-empty read s empty
  back_level s (e ∷ es) empty sorted h inner lacks =
      let all : List Entry = e ∷ es in
      let count : ℕ = last_number all + 1 - 1 in
      ap (numbered read 1) (cut-join s (parts_from write all 1 count) (some_parts all 1 count (omega (arith, h.0))) (each_part (Lacks s) all 1 count lacks))
      ∙ back_parts 1 count all (omega arith) sorted h (omega arith) (λ k le. inner k)

-- ---- the levels of a repetition

keyed_texts : (count : ℕ) (es : List Entry) → AllByRecursion (IsKeyed count) es → Texts IsText es
keyed_texts count es h = Each-weaker (IsKeyed count) (λ e. IsText e.1) (λ e is. canonical_text e.1 is.text is.some) es h

keyed_from : (count : ℕ) (es : List Entry) → AllByRecursion (IsKeyed (suc count)) es → From 1 es
keyed_from count es h = Each-weaker (IsKeyed (suc count)) (λ e. 1 ≤ first_number e.0) (λ e is. least e.0 is.count_is is.positive) es h
  where
    least : (key : List ℕ) → length key ≡ suc count → AllByRecursion (λ n. 0 < n) key → 1 ≤ first_number key
    least [] len h = absurd (omega (arith, len))
    least (n ∷ key) len h = omega (arith, h.0)

leaf_back : (es : List Entry) → T (is_sorted order es) → AllByRecursion (IsKeyed 0) es → leaf_in (leaf_text es) ≡ es
leaf_back [] s h = refl
leaf_back (e ∷ []) s h = one e.0 e.1 h.0.count_is h.0.some
  where
    one : (key text : List ℕ) → length key ≡ 0 → text ≢ [] → leaf_in (leaf_text ((key, text) ∷ [])) ≡ (key, text) ∷ []
    one [] [] len some = absurd (some refl)
    one [] (b ∷ text) len some = refl
    one (n ∷ key) text len some = absurd (omega (arith, len))
leaf_back (e ∷ f ∷ es) s h = absurd (two e.0 f.0 h.0.count_is h.1.0.count_is (first _ _ (first _ _ s)))
  where
    two : (a b : List ℕ) → length a ≡ 0 → length b ≡ 0 → T (is_lt (order a b)) → ⊥
    two [] [] l m h = h
    two [] (n ∷ b) l m h = absurd (omega (arith, m))
    two (n ∷ a) b l m h = absurd (omega (arith, l))

component_back : (es : List Entry) → T (is_sorted order es) → AllByRecursion (IsKeyed 1) es → level leaf_in 38 (component_text es) ≡ es
component_back es s h =
    back_level leaf_in leaf_text 38 es refl s (keyed_from 0 es h) (λ k. leaf_back (those k es) (those-sorted k es s) (those-keyed k 0 es h))
    (λ k. leaf-each (λ b. b ≢ 38) (λ b is. is.subcomponent) (those k es) (Texts-those IsText k es (keyed_texts 1 es h)))

pub repetition_back : (es : List Entry) → IsRepetition es → repetition_in (repetition_text es) ≡ es
repetition_back es h =
    back_level (level leaf_in 38) component_text 94 es refl h.sorted (keyed_from 1 es h.each)
    (λ k. component_back (those k es) (those-sorted k es h.sorted) (those-keyed k 1 es h.each))
    (λ k. component-each (λ b. b ≢ 94) (λ e. absurd (omega arith)) (λ b is. is.component) (those k es) (Texts-those IsText k es (keyed_texts 2 es h.each)))

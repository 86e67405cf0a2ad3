-- Parts that are the same, part by part.
use Rattle.std.proofs.Common.{◌≡◌, ◌↔◌, ◌∙◌, ◌+◌, ◌<◌, ℕ, Bool, false, T, IsTrue, List, [], ◌∷◌, length, get_or, drop, map, refl, sym, ap}
use Rattle.std.proofs.lemmas.List.{drop_more}
use Rattle.std.specs.List.{AllZip}
use Rattle.std.specs.Ordering.{nat_cmp}
use Rattle.std.specs.Cmp.Lexicographic.{slice_cmp}
use Rattle.std.specs.FinMap as texts
use Rattle.std.specs.FinMap.{is_sorted, entries-from_sorted}
use Rattle.gw_er7.specs.Message.{SegmentValue, numbers}
use Rattle.gw_er7.specs.View.{Held, entry_of, entries_of, stored}

pub zip_maps : {A B : Type 0} (f : A → B) (xs ys : List A) → AllZip (λ x y. f x ≡ f y) xs ys ↔ (map f xs ≡ map f ys)
zip_maps f [] [] = (λ h. refl, λ e. tt)
zip_maps f [] (y ∷ ys) = (λ h. absurd h, λ e. absurd (cc))
zip_maps f (x ∷ xs) [] = (λ h. absurd h, λ e. absurd (cc))
zip_maps f (x ∷ xs) (y ∷ ys) =
    (λ h. let e = (zip_maps f xs ys).0 h.1 in λ i. h.0 i ∷ e i, λ e. let k : f x ≡ f y = cc in let t : map f xs ≡ map f ys = cc in (k, (zip_maps f xs ys).1 t))

-- one text more is compared
module _ (xs ys : List Held) (i : ℕ) (a b : Held) (la : i < length xs) (lb : i < length ys) (ha : get_or xs i a ≡ a) (hb : get_or ys i b ≡ b) where
  abbrev Same : List Held → List Held → Type 0
  Same = AllZip (λ x y. entry_of x ≡ entry_of y)

  zip_step : Same (drop i xs) (drop i ys) ↔ ((entry_of a ≡ entry_of b) × Same (drop (i + 1) xs) (drop (i + 1) ys))
  zip_step =
      let da : drop i xs ≡ a ∷ drop (i + 1) xs = drop_more xs i a la ∙ ap (λ (x : Held). x ∷ drop (i + 1) xs) ha in
      let db : drop i ys ≡ b ∷ drop (i + 1) ys = drop_more ys i b lb ∙ ap (λ (x : Held). x ∷ drop (i + 1) ys) hb in
      rw (da, db) (λ h. h, λ h. h)

  pub same_next : Same xs ys ↔ Same (drop i xs) (drop i ys) → numbers a.place ≡ numbers b.place → a.text ≡ b.text → Same xs ys ↔ Same (drop (i + 1) xs) (drop (i + 1) ys)
  same_next r place text = (λ h. (zip_step.0 (r.0 h)).1, λ h. r.1 (zip_step.1 ((λ j. (place j, text j)), h)))

  pub not_same : Same xs ys ↔ Same (drop i xs) (drop i ys) → (entry_of a ≡ entry_of b → IsTrue false) → IsTrue false ↔ Same xs ys
  not_same r apart = (λ t. absurd (let z : ⊥ = cc in z), λ h. apart (zip_step.0 (r.0 h)).0)

-- texts in order are those of their segment
values_of : (name other : List ℕ) (xs ys : List Held) → T (is_sorted (slice_cmp nat_cmp) (entries_of xs)) → T (is_sorted (slice_cmp nat_cmp) (entries_of ys)) → stored name xs ≡ stored other ys → entries_of xs ≡ entries_of ys
values_of name other xs ys p q e =
    sym (entries-from_sorted (slice_cmp nat_cmp) (entries_of xs) p) ∙ ap (λ (s : SegmentValue). texts.entries s.at) e ∙ entries-from_sorted (slice_cmp nat_cmp) (entries_of ys) q

pub segments_same : (name other : List ℕ) (xs ys zs ws : List Held) (r : Bool) (s t : SegmentValue) → s ≡ stored name xs → t ≡ stored other ys → T (is_sorted (slice_cmp nat_cmp) (entries_of xs)) → T (is_sorted (slice_cmp nat_cmp) (entries_of ys)) → zs ≡ xs → ws ≡ ys → name ≡ other → IsTrue r ↔ AllZip (λ a b. entry_of a ≡ entry_of b) zs ws → IsTrue r ↔ (s ≡ t)
segments_same name other xs ys zs ws r s t a b p q u v n h =
    let z = zip_maps entry_of zs ws in (
      λ k. let e : entries_of xs ≡ entries_of ys = ap entries_of (sym u) ∙ z.0 (h.0 k) ∙ ap entries_of v in
          a ∙ (λ i. record { name = n i; at = texts.from_sorted (e i) }) ∙ sym b,
      λ e. h.1 (z.1 (ap entries_of u ∙ values_of name other xs ys p q (sym a ∙ e ∙ b) ∙ ap entries_of (sym v))),
    )

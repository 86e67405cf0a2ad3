-- Lists of names and their tests.
use Rattle.std.proofs.Common.{◌≡◌, ℕ, ◌⊎◌, inl, inr, Bool, true, false, List, [], ◌∷◌, ◌++◌, refl, ◌↔◌, bytes_eq}
use Rattle.std.specs.Prelude.{if◌then◌else◌}
use Rattle.std.proofs.lemmas.Slice.Eq.{bytes_eq-Decides}
use Rattle.gw_profile.specs.Among.{Among, Distinct}
use Rattle.gw_profile.specs.Fault.{is_among, has_repeat}
use Rattle.gw_profile.proofs.Facts.{either, or_left, or_right, neither}

pub among_is : (x : List ℕ) (list : List (List ℕ)) → (is_among x list ≡ true) ↔ Among x list
among_is x [] = (λ e. absurd (cc), λ h. absurd h)
among_is x (y ∷ list) = (
  λ e. elim (either (bytes_eq x y) _ e) [ inl h ↦ inl ((bytes_eq-Decides x y).0 h) | inr h ↦ inr ((among_is x list).0 h) ],
  elim [ inl h ↦ or_left _ _ ((bytes_eq-Decides x y).1 h) | inr h ↦ or_right (bytes_eq x y) _ ((among_is x list).1 h) ],
)

pub not_among : (x : List ℕ) (list : List (List ℕ)) → is_among x list ≡ false → Among x list → ⊥
not_among x list e h = let f = (among_is x list).1 h in absurd (cc)

pub among_append : (xs ys : List (List ℕ)) (x : List ℕ) → Among x (xs ++ ys) ↔ (Among x xs ⊎ Among x ys)
among_append [] ys x = (λ h. inr h, elim [ inl h ↦ absurd h | inr h ↦ h ])
among_append (z ∷ xs) ys x = (
  elim [
    | inl e ↦ inl (inl e)
    | inr e ↦ elim ((among_append xs ys x).0 e) [ inl f ↦ inl (inr f) | inr f ↦ inr f ]
  ],
  elim [
    | inl h ↦ elim h [ inl e ↦ inl e | inr e ↦ inr ((among_append xs ys x).1 (inl e)) ]
    | inr h ↦ inr ((among_append xs ys x).1 (inr h))
  ],
)

pub among_one : (n x : List ℕ) → Among x (n ∷ []) ↔ (x ≡ n)
among_one n x = (elim [ inl e ↦ e | inr h ↦ absurd h ], λ e. inl e)

pub among_if : (b : Bool) (xs : List (List ℕ)) (x : List ℕ) → Among x (if b then xs else []) ↔ ((b ≡ true) × Among x xs)
among_if true xs x = (λ h. (refl, h), λ h. h.1)
among_if false xs x = (λ h. absurd h, λ h. absurd (cc))

pub distinct_is : (list : List (List ℕ)) → has_repeat list ≡ false → Distinct list
distinct_is [] e = tt
distinct_is (x ∷ list) e = let p = neither (is_among x list) (has_repeat list) e in (not_among x list p.0, distinct_is list p.1)

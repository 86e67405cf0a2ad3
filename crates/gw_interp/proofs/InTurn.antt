-- Leaves of a place that are asked one after the other.
use Rattle.std.proofs.Common.{◌≡◌, ℕ, ◌+◌, ◌≤◌, ◌<◌, inl, inr, true, false, List, [], ◌∷◌, Option, Some, None, refl, sym, subst, arith, length, map, drop, get_or}
use Rattle.std.proofs.lemmas.List.{drop_all}
use Rattle.gw_resolve.specs.Resolved.{Alternative}
use Rattle.gw_resolve.proofs.Noting.{front}
use Rattle.gw_interp.specs.Meaning.{Walked}
use Rattle.gw_interp.specs.own.Sourced.{LeafGives, settles, FirstGives}

module _ (w : Walked) where
  -- what the first gives settles it
  pub settled : (o : Alternative) (os : List Alternative) (given : Option (List ℕ)) → settles given ≡ true → LeafGives w o.leaf given → FirstGives w (o ∷ os) given
  settled o os None e h = λ ok. ok.0 h
  settled o os (Some []) e h = absurd (cc)
  settled o os (Some (b ∷ text)) e h = inl (h, omega arith)

  -- it gives no text, so the others are asked
  pub unsettled : (o : Alternative) (os : List Alternative) (given found : Option (List ℕ)) → settles given ≡ false → LeafGives w o.leaf given → FirstGives w os found → FirstGives w (o ∷ os) found
  unsettled o os None found e h k = absurd (cc)
  unsettled o os (Some (b ∷ text)) found e h k = absurd (cc)
  unsettled o os (Some []) None e h k = λ ok. k ok.1
  unsettled o os (Some []) (Some text) e h k = inr (h, k)

  module _ {X : Type 0} (f : X → Alternative) (xs : List X) (i : ℕ) (x : X) (low : i < length xs) (at : x ≡ get_or xs i x) (given : Option (List ℕ)) (gives : LeafGives w (f x).leaf given) where
    pub settled_at : settles given ≡ true → FirstGives w (map f (drop i xs)) given
    settled_at e = subst (λ l. FirstGives w (map f l) given) (sym (front xs i x low at)) (settled (f x) (map f (drop (i + 1) xs)) given e gives)

    pub unsettled_at : (found : Option (List ℕ)) → settles given ≡ false → FirstGives w (map f (drop (i + 1) xs)) found → FirstGives w (map f (drop i xs)) found
    unsettled_at found e k = subst (λ l. FirstGives w (map f l) found) (sym (front xs i x low at)) (unsettled (f x) (map f (drop (i + 1) xs)) given found e gives k)

  pub none_left : {X : Type 0} (f : X → Alternative) (xs : List X) (i : ℕ) → length xs ≤ i → FirstGives w (map f (drop i xs)) (Some [])
  none_left f xs i end = subst (λ l. FirstGives w (map f l) (Some [])) (sym (drop_all i xs end)) refl

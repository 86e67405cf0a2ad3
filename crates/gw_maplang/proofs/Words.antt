-- Words that are texts, taken one by one.
use Rattle.std.proofs.Common.{◌≡◌, ℕ, suc, ◌+◌, ◌<◌, ◌≤◌, List, [], ◌∷◌, ◌++◌, Option, Some, None, Bor, length, get_or, drop, drop-cons, map, refl, sym, ap, ◌∙◌, append_assoc, arith}
use Rattle.std.specs.Option.{option_map}
use Rattle.std.proofs.lemmas.List.{map-append, append-nil, drop_all}
use Rattle.gw_lines.specs.declared.words.Word as declared
use Rattle.gw_lines.specs.Values.{bytes_of}
use Rattle.gw_lines.specs.Parts.{◌>>=◌}
use Rattle.gw_maplang.specs.Line.{some_bytes, texts}
use Rattle.gw_lines.specs.Seen.{word}

abbrev pub behind : List (List ℕ) → Option (List (List ℕ)) → Option (List (List ℕ))
behind front rest = option_map (λ more. front ++ more) rest

abbrev with_first : Option (List ℕ) → Option (List (List ℕ)) → Option (List (List ℕ))
with_first first rest = first >>= (λ value. rest >>= (λ more. Some (value ∷ more)))

at_next : (xs : List declared.Word) (i : ℕ) (other : declared.Word) → i < length xs → map word (drop i xs) ≡ word (get_or xs i other) ∷ map word (drop (i + 1) xs)
at_next xs i other lt =
    let one : suc i ≡ i + 1 = omega arith in
    ap (map word) (drop-cons xs i other lt) ∙ ap (λ k. word (get_or xs i other) ∷ map word (drop k xs)) one

joined : (front : List (List ℕ)) (value : List ℕ) (rest : Option (List (List ℕ))) → behind (front ++ value ∷ []) rest ≡ behind front (with_first (Some value) rest)
joined front value None = refl
joined front value (Some more) = ap Some (append_assoc front (value ∷ []) more)

module _ (xs : List declared.Word) (i : ℕ) (taken : List (Bor (List ℕ))) (so_far : behind (map (λ b. b.now) taken) (texts (map word (drop i xs))) ≡ texts (map word xs)) where
  pub one_text : (other : declared.Word) (value : Bor (List ℕ)) (new : List (Bor (List ℕ))) → i < length xs → Some value.now ≡ some_bytes (bytes_of (word (get_or xs i other))) → new ≡ taken ++ value ∷ []
      → behind (map (λ b. b.now) new) (texts (map word (drop (i + 1) xs))) ≡ texts (map word xs)
  one_text other value new lt is grown =
      let rest = texts (map word (drop (i + 1) xs)) in
      ap (λ l. behind (map (λ b. b.now) l) rest) grown
      ∙ ap (λ l. behind l rest) (map-append (λ b. b.now) taken (value ∷ []))
      ∙ joined (map (λ b. b.now) taken) value.now rest
      ∙ ap (λ first. behind (map (λ b. b.now) taken) (with_first first rest)) is
      ∙ sym (ap (λ ws. behind (map (λ b. b.now) taken) (texts ws)) (at_next xs i other lt))
      ∙ so_far

  pub no_text : (other : declared.Word) → i < length xs → None ≡ some_bytes (bytes_of (word (get_or xs i other))) → None ≡ texts (map word xs)
  no_text other lt is =
      ap (λ first. behind (map (λ b. b.now) taken) (with_first first (texts (map word (drop (i + 1) xs))))) is
      ∙ sym (ap (λ ws. behind (map (λ b. b.now) taken) (texts ws)) (at_next xs i other lt))
      ∙ so_far

  pub all_texts : length xs ≤ i → Some (map (λ b. b.now) taken) ≡ texts (map word xs)
  all_texts end =
      ap Some (sym (append-nil (map (λ b. b.now) taken)))
      ∙ ap (λ ws. behind (map (λ b. b.now) taken) (texts (map word ws))) (sym (drop_all i xs end))
      ∙ so_far

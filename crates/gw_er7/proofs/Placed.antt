-- Lines stand at their places among the bytes of which they are the lines.
use Rattle.std.proofs.Common.{◌≡◌, ℕ, ◌+◌, Bool, true, false, cond, List, [], ◌∷◌, ◌++◌, length, refl, sym, ap, subst, ◌∙◌, append_assoc, append-nil, arith}
use Rattle.std.specs.List.{slice_split, onto_first}
use Rattle.std.proofs.lemmas.List.{length-append}
use Rattle.gw_er7.specs.Content.{is_line_end, placed, lines}
use Rattle.gw_er7.specs.own.Separators.{Lies}
use Rattle.gw_er7.specs.own.Gathered.{LinesLie}

-- bytes that stand before the first part
abbrev onto : List ℕ → List (List ℕ) → List (List ℕ)
onto held [] = held ∷ []
onto held (p ∷ ps) = (held ++ p) ∷ ps

onto_none : (bytes : List ℕ) → onto [] (slice_split is_line_end bytes) ≡ slice_split is_line_end bytes
onto_none [] = refl
onto_none (b ∷ bs) = by (is_line_end b) (slice_split is_line_end bs)
  where
    by : (v : Bool) (ps : List (List ℕ)) → onto [] (cond v ([] ∷ ps) (onto_first b ps)) ≡ cond v ([] ∷ ps) (onto_first b ps)
    by true ps = refl
    by false [] = refl
    by false (p ∷ ps) = refl

onto_more : (held : List ℕ) (b : ℕ) (ps : List (List ℕ)) → onto held (onto_first b ps) ≡ onto (held ++ b ∷ []) ps
onto_more held b [] = refl
onto_more held b (p ∷ ps) = ap (λ (x : List ℕ). x ∷ ps) (sym (append_assoc held (b ∷ []) p))

-- a part that is held back, and the lines behind it
held_line : (whole before held : List ℕ) (ps : List (List ℕ)) → Lies whole (length before) held → LinesLie whole (placed (length before + length held + 1) ps) → LinesLie whole (placed (length before) (held ∷ ps))
held_line whole before [] ps lies more = subst (λ (n : ℕ). LinesLie whole (placed n ps)) (omega arith) more
held_line whole before (b ∷ bs) ps lies more = (lies, more)

-- a byte more: it ends the part, or belongs to it
stood : (whole before held : List ℕ) (b : ℕ) (bs : List ℕ) → Lies whole (length before) held → LinesLie whole (placed (length (before ++ (held ++ b ∷ []))) (onto [] (slice_split is_line_end bs)))
    → LinesLie whole (placed (length before) (onto (held ++ b ∷ []) (slice_split is_line_end bs))) → (v : Bool) → LinesLie whole (placed (length before) (onto held (cond v ([] ∷ slice_split is_line_end bs) (onto_first b (slice_split is_line_end bs)))))
stood whole before held b bs lies ended longer true =
    let place : length (before ++ (held ++ b ∷ [])) ≡ length before + length held + 1 = omega (arith, length-append before (held ++ b ∷ []), length-append held (b ∷ [])) in
    let there = subst (λ (ps : List (List ℕ)). LinesLie whole (placed (length (before ++ (held ++ b ∷ []))) ps)) (onto_none bs) ended in
    let here = subst (λ (n : ℕ). LinesLie whole (placed n (slice_split is_line_end bs))) place there in
    subst (λ (x : List ℕ). LinesLie whole (placed (length before) (x ∷ slice_split is_line_end bs))) (sym (append-nil held)) (held_line whole before held (slice_split is_line_end bs) lies here)
stood whole before held b bs lies ended longer false =
    subst (λ (ps : List (List ℕ)). LinesLie whole (placed (length before) ps)) (sym (onto_more held b (slice_split is_line_end bs))) longer

stand : (whole before held bytes : List ℕ) → whole ≡ before ++ (held ++ bytes) → LinesLie whole (placed (length before) (onto held (slice_split is_line_end bytes)))
stand whole before held [] e =
    subst (λ (x : List ℕ). LinesLie whole (placed (length before) (x ∷ []))) (sym (append-nil held))
    (held_line whole before held [] (record { before = before; after = []; is = e; long = refl }) tt)
stand whole before held (b ∷ bs) e =
    let here = append_assoc held (b ∷ []) bs in
    let behind : whole ≡ (before ++ (held ++ b ∷ [])) ++ bs = e ∙ ap (λ (x : List ℕ). before ++ x) (sym here) ∙ sym (append_assoc before (held ++ b ∷ []) bs) in
    stood whole before held b bs (record { before = before; after = b ∷ bs; is = e; long = refl }) (stand whole (before ++ (held ++ b ∷ [])) [] bs behind)
    (stand whole before (held ++ b ∷ []) bs (e ∙ ap (λ (x : List ℕ). before ++ x) (sym here))) (is_line_end b)

pub lines_lie : (content : List ℕ) → LinesLie content (lines content)
lines_lie content = subst (λ (ps : List (List ℕ)). LinesLie content (placed 0 ps)) (onto_none content) (stand content [] [] content refl)

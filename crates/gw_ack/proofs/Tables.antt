-- Tables of rows, row by row.
use Rattle.std.proofs.Common.{◌≡◌, ℕ, suc, ◌+◌, ◌<◌, List, [], ◌∷◌, ◌++◌, length, map, take, get_or}
use Rattle.std.proofs.Common.{sym, ap, ◌∙◌, append_assoc, arith}
use Rattle.std.proofs.lemmas.List.{append-nil, length-map, length-take-le, map_push, take_more}
use Rattle.gw_er7.specs.Entries.{Entry}
use Rattle.gw_ack.specs.Answers.{component, components, field}

-- rows that are made of the items of a list, one item more
pushed : {X : Type 0} (F : List X → List Entry) (xs : List X) (i : ℕ) (x d : X) (g old now then : List Entry) → i < length xs → x ≡ get_or xs i d
    → F (take i xs ++ x ∷ []) ≡ F (take i xs) ++ g → now ≡ old ++ F (take i xs) → then ≡ now ++ g → then ≡ old ++ F (take (i + 1) xs)
pushed F xs i x d g old now then lt is grows e f =
    let more : take (i + 1) xs ≡ take i xs ++ x ∷ [] = take_more xs i d lt ∙ ap (λ y. take i xs ++ y ∷ []) (sym is) in
    f ∙ ap (λ (es : List Entry). es ++ g) e ∙ append_assoc old (F (take i xs)) g ∙ ap (λ (es : List Entry). old ++ es) (sym (ap F more ∙ grows))

components-push : (number comp : ℕ) (parts : List (List ℕ)) (part : List ℕ)
    → components number comp (parts ++ part ∷ []) ≡ components number comp parts ++ component number (comp + length parts) part
components-push number comp [] part = let at : comp + 0 ≡ comp = omega arith in rw at (append-nil (component number comp part))
components-push number comp (p ∷ parts) part =
    let at : (comp + 1) + length parts ≡ comp + suc (length parts) = omega arith in
    let later : components number (comp + 1) (parts ++ part ∷ []) ≡ components number (comp + 1) parts ++ component number (comp + suc (length parts)) part =
    components-push number (comp + 1) parts part ∙ ap (λ (k : ℕ). components number (comp + 1) parts ++ component number k part) at in
    ap (λ (es : List Entry). component number comp p ++ es) later
    ∙ sym (append_assoc (component number comp p) (components number (comp + 1) parts) (component number (comp + suc (length parts)) part))

pub field_step : {X : Type 0} (value : X → List ℕ) (number : ℕ) (xs : List X) (i : ℕ) (x d : X) (old now then : List Entry) → i < length xs
    → x ≡ get_or xs i d → now ≡ old ++ field number (map value (take i xs)) → then ≡ now ++ component number (i + 1) (value x)
    → then ≡ old ++ field number (map value (take (i + 1) xs))
field_step value number xs i x d old now then lt is =
    let n : 1 + length (map value (take i xs)) ≡ i + 1 = omega (arith, length-map (take i xs) value, length-take-le i xs (omega arith)) in
    pushed (λ ps. field number (map value ps)) xs i x d (component number (i + 1) (value x)) old now then lt is
    (ap (components number 1) (map_push value (take i xs) x) ∙ components-push number 1 (map value (take i xs)) (value x)
    ∙ ap (λ (k : ℕ). components number 1 (map value (take i xs)) ++ component number k (value x)) n)

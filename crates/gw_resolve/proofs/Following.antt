-- Paths of labels, one label after the other.
use Rattle.std.proofs.Common.{◌≡◌, ℕ, ◌+◌, ◌-◌, ◌<◌, ◌≤◌, List, [], ◌∷◌, ◌++◌, take, drop, get_or, length, Option, Some, None, refl, sym, ap, ◌∙◌, arith}
use Rattle.std.specs.Prelude.{option_map, option_and_then}
use Rattle.std.specs.Global.{Vec}
use Rattle.std.proofs.Math.ListN.{drop_of_length-le}
use Rattle.std.proofs.lemmas.List.{append-nil, append_assoc, take_all}
use Rattle.gw_profile.specs.Shapes.{Forest}
use Rattle.gw_profile.specs.Labels.{labelled}
use Rattle.gw_maplang.specs.Seen.{items_all}
use Rattle.gw_resolve.specs.Places.{Element, nodes_of_child}
use Rattle.gw_resolve.specs.declared.resolved.ScopePath.{ScopePath}
use Rattle.gw_resolve.specs.own.Looking.{onwards}
use Rattle.gw_resolve.specs.Naming.{first_label, steps_of, place_of}
use Rattle.gw_resolve.specs.Seen.{place}
use Rattle.gw_resolve.proofs.Noting.{front}

-- the steps to one label, and to those behind it
steps_front : (nodes : Forest) (xs : List (Vec ℕ)) (i : ℕ) (x : Vec ℕ) (label : List ℕ) (found : Option ℕ) → i < length xs → x ≡ get_or xs i x → label ≡ x.items → found ≡ labelled nodes label
    → steps_of nodes (items_all (drop i xs)) ≡ option_and_then (λ n. option_map (λ steps. n ∷ steps) (steps_of (nodes_of_child nodes n) (items_all (drop (i + 1) xs)))) found
steps_front nodes xs i x label found m e same is =
    ap (λ l. steps_of nodes (items_all l)) (front xs i x m e)
    ∙ ap (option_and_then (λ n. option_map (λ steps. n ∷ steps) (steps_of (nodes_of_child nodes n) (items_all (drop (i + 1) xs))))) (sym (is ∙ ap (labelled nodes) same))

behind_all : (before : List ℕ) (n : ℕ) (more : Option (List ℕ)) → option_map (λ l. before ++ l) (option_map (λ l. n ∷ l) more) ≡ option_map (λ l. (before ++ n ∷ []) ++ l) more
behind_all before n None = refl
behind_all before n (Some more) = ap Some (sym (append_assoc before (n ∷ []) more))

-- one more step
pub steps_next : (nodes below : Forest) (xs : List (Vec ℕ)) (i : ℕ) (x : Vec ℕ) (label : List ℕ) (found : Option ℕ) (n : ℕ) (before after : List ℕ) (whole : Option (List ℕ)) → i < length xs → x ≡ get_or xs i x → label ≡ x.items → found ≡ labelled nodes label
    → found ≡ Some n → after ≡ before ++ n ∷ [] → below ≡ nodes_of_child nodes n → whole ≡ option_map (λ more. before ++ more) (steps_of nodes (items_all (drop i xs))) → whole ≡ option_map (λ more. after ++ more) (steps_of below (items_all (drop (i + 1) xs)))
steps_next nodes below xs i x label found n before after whole m e same is some pushed lower so_far =
    let rest = items_all (drop (i + 1) xs) in
    so_far ∙ ap (option_map (λ more. before ++ more)) (steps_front nodes xs i x label found m e same is)
    ∙ ap (λ o. option_map (λ more. before ++ more) (option_and_then (λ k. option_map (λ steps. k ∷ steps) (steps_of (nodes_of_child nodes k) rest)) o)) some
    ∙ behind_all before n (steps_of (nodes_of_child nodes n) rest)
    ∙ (λ j. option_map (λ more. sym pushed j ++ more) (steps_of (sym lower j) rest))

-- no step
pub steps_missing : (nodes : Forest) (xs : List (Vec ℕ)) (i : ℕ) (x : Vec ℕ) (label : List ℕ) (found : Option ℕ) (before : List ℕ) (whole : Option (List ℕ)) → i < length xs → x ≡ get_or xs i x → label ≡ x.items → found ≡ labelled nodes label
    → found ≡ None → whole ≡ option_map (λ more. before ++ more) (steps_of nodes (items_all (drop i xs))) → None ≡ whole
steps_missing nodes xs i x label found before whole m e same is none so_far =
    sym
    (so_far ∙ ap (option_map (λ more. before ++ more)) (steps_front nodes xs i x label found m e same is)
    ∙ ap (λ o. option_map (λ more. before ++ more) (option_and_then (λ k. option_map (λ steps. k ∷ steps) (steps_of (nodes_of_child nodes k) (items_all (drop (i + 1) xs)))) o)) none)

-- all steps
pub steps_all : (nodes : Forest) (xs : List (Vec ℕ)) (i : ℕ) (before : List ℕ) (whole : Option (List ℕ)) → length xs ≤ i → whole ≡ option_map (λ more. before ++ more) (steps_of nodes (items_all (drop i xs))) → Some before ≡ whole
steps_all nodes xs i before whole le so_far =
    sym (so_far ∙ ap (λ l. option_map (λ more. before ++ more) (steps_of nodes (items_all l))) (drop_of_length-le xs le) ∙ ap Some (append-nil before))

-- ---- places

pub no_path : (scope : List Element) (path : List (Vec ℕ)) → length path < 1 → None ≡ place_of scope (items_all path)
no_path scope [] less = refl
no_path scope (x ∷ path) less = absurd (omega (arith, less))

-- the first label, and where those behind it lead
pub placed : (scope : List Element) (path : List (Vec ℕ)) (x : Vec ℕ) (label : List ℕ) (o : Option ScopePath) → 1 ≤ length path → x ≡ get_or path 0 x → label ≡ x.items → option_map place o ≡ first_label scope label
    → option_and_then (onwards scope (items_all (take (length path - 1) (drop 1 path)))) (option_map place o) ≡ place_of scope (items_all path)
placed scope [] x label o m e same is = absurd (omega (arith, m))
placed scope (y ∷ path) x label o m e same is =
    ap (λ l. option_and_then (onwards scope (items_all l)) (option_map place o)) (take_all (length (y ∷ path) - 1) path (omega arith))
    ∙ ap (option_and_then (onwards scope (items_all path))) (is ∙ ap (first_label scope) (same ∙ ap (λ (v : Vec ℕ). v.items) e))

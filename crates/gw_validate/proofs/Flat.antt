-- The numbers of a tree are those of the list that it cuts.
use Rattle.std.proofs.Common.{◌≡◌, ℕ, List, [], ◌∷◌, ◌++◌, refl, sym, ap, ◌∙◌, map}
use Rattle.std.proofs.lemmas.List.{map-append}
use Rattle.gw_profile.specs.Shapes.{Forest, nothing, segment, group, FieldValue}
use Rattle.gw_profile.specs.Deterministic.{Name}
use Rattle.gw_validate.specs.Trees.{Tree, leaf, segments, groups, Trees, no_trees, trees, IsTree, AreTrees, flatten, flatten_all, assigned, assigned_all}

module _ (named : ℕ → Name) where
  mutual
    pub tree_flat : (t : Tree) (f : Forest) (l : List ℕ) → IsTree named t f l → flatten t ≡ l
    tree_flat leaf nothing l h = sym h
    tree_flat leaf (segment sv rest) l h = absurd h
    tree_flat leaf (group gv ch rest) l h = absurd h
    tree_flat (segments ns t) nothing l h = absurd h
    tree_flat (segments ns t) (segment sv rest) l h =
        let c = h.3 in
        ap (λ b. ns ++ b) (tree_flat t rest c.back c.there) ∙ ap (λ a. a ++ c.back) (sym c.here) ∙ sym c.joined
    tree_flat (segments ns t) (group gv ch rest) l h = absurd h
    tree_flat (groups ts t) nothing l h = absurd h
    tree_flat (groups ts t) (segment sv rest) l h = absurd h
    tree_flat (groups ts t) (group gv ch rest) l h =
        let c = h.2 in
        ap (λ b. flatten_all ts ++ b) (tree_flat t rest c.back c.there) ∙ ap (λ a. a ++ c.back) (trees_flat ts ch c.front c.here) ∙ sym c.joined

    trees_flat : (ts : Trees) (ch : Forest) (l : List ℕ) → AreTrees named ts ch l → flatten_all ts ≡ l
    trees_flat no_trees ch l h = sym h
    trees_flat (trees t ts) ch l h =
        ap (λ b. flatten t ++ b) (trees_flat ts ch h.back h.there) ∙ ap (λ a. a ++ h.back) (tree_flat t ch h.front h.here) ∙ sym h.joined

  paired : (ns : List ℕ) (shape : List FieldValue) → map (λ (p : ℕ × List FieldValue). p.0) (map (λ i. (i, shape)) ns) ≡ ns
  paired [] shape = refl
  paired (n ∷ ns) shape = ap (λ l. n ∷ l) (paired ns shape)

  mutual
    -- each number of the list is assigned, in order
    pub assigned_flat : (t : Tree) (f : Forest) (l : List ℕ) → IsTree named t f l → map (λ (p : ℕ × List FieldValue). p.0) (assigned t f) ≡ flatten t
    assigned_flat leaf nothing l h = refl
    assigned_flat leaf (segment sv rest) l h = absurd h
    assigned_flat leaf (group gv ch rest) l h = absurd h
    assigned_flat (segments ns t) nothing l h = absurd h
    assigned_flat (segments ns t) (segment sv rest) l h =
        map-append (λ (p : ℕ × List FieldValue). p.0) (map (λ i. (i, sv.fields)) ns) (assigned t rest)
        ∙ ap (λ a. a ++ map (λ (p : ℕ × List FieldValue). p.0) (assigned t rest)) (paired ns sv.fields) ∙ ap (λ b. ns ++ b) (assigned_flat t rest h.3.back h.3.there)
    assigned_flat (segments ns t) (group gv ch rest) l h = absurd h
    assigned_flat (groups ts t) nothing l h = absurd h
    assigned_flat (groups ts t) (segment sv rest) l h = absurd h
    assigned_flat (groups ts t) (group gv ch rest) l h =
        map-append (λ (p : ℕ × List FieldValue). p.0) (assigned_all ts ch) (assigned t rest)
        ∙ ap (λ a. a ++ map (λ (p : ℕ × List FieldValue). p.0) (assigned t rest)) (all_flat ts ch h.2.front h.2.here) ∙ ap (λ b. flatten_all ts ++ b) (assigned_flat t rest h.2.back h.2.there)

    all_flat : (ts : Trees) (ch : Forest) (l : List ℕ) → AreTrees named ts ch l → map (λ (p : ℕ × List FieldValue). p.0) (assigned_all ts ch) ≡ flatten_all ts
    all_flat no_trees ch l h = refl
    all_flat (trees t ts) ch l h =
        map-append (λ (p : ℕ × List FieldValue). p.0) (assigned t ch) (assigned_all ts ch)
        ∙ ap (λ a. a ++ map (λ (p : ℕ × List FieldValue). p.0) (assigned_all ts ch)) (assigned_flat t ch h.front h.here) ∙ ap (λ b. flatten t ++ b) (all_flat ts ch h.back h.there)

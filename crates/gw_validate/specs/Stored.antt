-- How a tree is stored as a list: as the steps of a walk over it.
use Rattle.std.specs.Prelude.{◌≡◌, ℕ, zero, suc, List, [], ◌∷◌, refl}
use Rattle.std.specs.Coded.{Coded, code_by, coded×, coded_ℕ, coded_list}
use Rattle.std.proofs.Common.{ap, ◌∙◌}
use Rattle.gw_validate.specs.Trees.{Tree, leaf, segments, groups, Trees, no_trees, trees}

-- a step of the walk: which of the five kinds of trees and lists of trees it comes to, and the numbers of a segment's occurrences
abbrev pub Step : Type 0
Step = ℕ × List ℕ

abbrev mutual
  -- the steps over a tree, before others
  pub steps : Tree → List Step → List Step
  steps leaf rest = (0, []) ∷ rest
  steps (segments ns t) rest = (1, ns) ∷ steps t rest
  steps (groups ts t) rest = (2, []) ∷ steps_all ts (steps t rest)

  pub steps_all : Trees → List Step → List Step
  steps_all no_trees rest = (3, []) ∷ rest
  steps_all (trees t ts) rest = (4, []) ∷ steps t (steps_all ts rest)

-- the trees and the lists of trees that are there when a step is taken back
abbrev pub back : ℕ → List ℕ → List Tree → List Trees → List Tree × List Trees
back zero ns ts ls = (leaf ∷ ts, ls)
back (suc zero) ns (t ∷ ts) ls = (segments ns t ∷ ts, ls)
back (suc (suc zero)) ns (t ∷ ts) (l ∷ ls) = (groups l t ∷ ts, ls)
back (suc (suc (suc zero))) ns ts ls = (ts, no_trees ∷ ls)
back (suc (suc (suc (suc zero)))) ns (t ∷ ts) (l ∷ ls) = (ts, trees t l ∷ ls)
back n ns ts ls = (ts, ls)

abbrev pub walked : List Step → List Tree × List Trees
walked [] = ([], [])
walked (s ∷ rest) = back s.0 s.1 (walked rest).0 (walked rest).1

mutual
  pub walked_steps : (t : Tree) (rest : List Step) → walked (steps t rest) ≡ (t ∷ (walked rest).0, (walked rest).1)
  walked_steps leaf rest = refl
  walked_steps (segments ns t) rest = ap (λ w. back 1 ns w.0 w.1) (walked_steps t rest)
  walked_steps (groups ts t) rest =
      ap (λ w. back 2 [] w.0 w.1) (walked_all ts (steps t rest) ∙ ap (λ w. (w.0, ts ∷ w.1)) (walked_steps t rest))

  pub walked_all : (ts : Trees) (rest : List Step) → walked (steps_all ts rest) ≡ ((walked rest).0, ts ∷ (walked rest).1)
  walked_all no_trees rest = refl
  walked_all (trees t ts) rest =
      ap (λ w. back 4 [] w.0 w.1) (walked_steps t (steps_all ts rest) ∙ ap (λ w. (t ∷ w.0, w.1)) (walked_all ts rest))

abbrev pub first_or_leaf : List Tree → Tree
first_or_leaf [] = leaf
first_or_leaf (t ∷ ts) = t

abbrev pub tree_code : Coded Tree
tree_code =
    code_by (List Step) (coded_list (coded× coded_ℕ (coded_list coded_ℕ)))
    (λ t. steps t []) (λ l. first_or_leaf (walked l).0) (λ t. ap (λ w. first_or_leaf w.0) (walked_steps t []))

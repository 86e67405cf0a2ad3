-- The separators that lead from one place to another. The writer's own words.
use Rattle.std.specs.Prelude.{ℕ, ◌-◌, ◌==◌, if◌then◌else◌, replicate, List, [], ◌∷◌, ◌++◌}

-- | ~ ^ &
abbrev pub levels : List ℕ
levels = 124 ∷ 126 ∷ 94 ∷ 38 ∷ []

-- those of each level that lead to a key, counted from 1
abbrev pub leads : List ℕ → List ℕ → List ℕ
leads [] key = []
leads (t ∷ ts) [] = []
leads (t ∷ ts) (k ∷ key) = replicate (k - 1) t ++ leads ts key

-- those between two keys: behind the first number that differs each is counted from 1
abbrev pub gaps : List ℕ → List ℕ → List ℕ → List ℕ
gaps [] ns key = []
gaps (t ∷ ts) [] key = []
gaps (t ∷ ts) (n ∷ ns) [] = []
gaps (t ∷ ts) (n ∷ ns) (k ∷ key) = replicate (k - n) t ++ (if k == n then gaps ts ns key else leads ts key)

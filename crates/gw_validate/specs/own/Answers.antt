-- What the answer of a walk says of the names.
use Rattle.std.specs.Prelude.{◌+◌, ◌<◌, List, ◌∷◌, take, length}
use Rattle.gw_profile.specs.Shapes.{Forest}
use Rattle.gw_validate.specs.declared.walk.Answer.{Answer}
use Rattle.gw_validate.specs.declared.walk.Answer.TheVariants as answer
use Rattle.gw_validate.specs.Cuts.{Fits, Begins, IsShortest}
use Rattle.gw_profile.specs.Deterministic.{Name}
use Rattle.gw_validate.specs.own.Taking.{Suits}

abbrev pub Answers : Forest → List Name → Answer → Type 0
Answers f names (answer.Fits shapes) = Fits f names × Suits f names shapes.items
Answers f names (answer.OutOfOrder i) =
    (i < length names) × Begins f (take i names) × (Begins f (take (i + 1) names) → ⊥)
Answers f names (answer.Missing name) =
    (Fits f names → ⊥) × (rest : List Name) × IsShortest f names (name ∷ rest)

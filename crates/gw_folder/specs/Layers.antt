-- What is kept in memory over a file that must not change.
use Rattle.std.specs.Prelude.{ℕ, List, ◌++◌, take}

-- of the file this number of bytes is seen, and behind them these
pub record LayerState : Type 0 where
  pub keep : ℕ
  pub tail : List ℕ

-- what is seen of a file
abbrev pub over : LayerState → List ℕ → List ℕ
over layer file = take layer.keep file ++ layer.tail

-- Runs of a journal, each of which opens what a crash left of the one before it.
use Rattle.std.specs.Prelude.{ℕ, List, ◌++◌}
use Rattle.gw_log.specs.Disk.{Files}
use Rattle.gw_journal.specs.Logs.{IsLeft, Log}
use Rattle.gw_journal.specs.Stored.{IsKept}

-- the files are a log of this number, which has these records, and maybe more behind them
pub record HasMore (tells : List (List ℕ) → List ℕ → Type 0) (spares : List (List ℕ) → ℕ → Type 0) (id : ℕ) (before : List (List ℕ))
    (files : Files) : Type 0 where
  pub more : List (List ℕ)
  pub kept : IsKept tells spares id files (before ++ more)

-- the files are a log of this number, which has the records that a crash left of a journal
pub record HasLeft (tells : List (List ℕ) → List ℕ → Type 0) (spares : List (List ℕ) → ℕ → Type 0) (id : ℕ) (log : Log)
    (files : Files) : Type 0 where
  pub left : List (List ℕ)
  pub kept : IsKept tells spares id files left
  pub is : IsLeft log left

-- The first run found these files, a log with these records. A crash of the last one left those files, with those records.
-- Each run but the first found what a crash of the one before it had left
pub data AreRuns (tells : List (List ℕ) → List ℕ → Type 0) (spares : List (List ℕ) → ℕ → Type 0) (id : ℕ) (found : Files) (before : List (List ℕ))
    : Files → List (List ℕ) → Type 0 where
  none : IsKept tells spares id found before → AreRuns tells spares id found before found before
  one_more : (mid left : Files) (between : List (List ℕ)) → AreRuns tells spares id found before mid between → (run : HasMore tells spares id between left)
      → AreRuns tells spares id found before left (between ++ run.more)

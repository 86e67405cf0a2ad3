use Rattle.std.proofs.Common.{◌≡◌, ℕ, Bool, false, List, length, All}
use Rattle.hl7gate.proofs.plans.make_files.Given as goal

-- so many files, of which none has failed
pub record AreMade {W : Type 0} (failed : W → Bool) (files : List W) (count : ℕ) : Type 0 where
  pub one_each : length files ≡ count
  pub works : All (λ file. failed file ≡ false) files

abbrev pub invariant-each : goal.invariant-each
invariant-each g l = AreMade (λ file. file.failed) l.files.items l.path-index

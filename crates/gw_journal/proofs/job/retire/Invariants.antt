use Rattle.std.proofs.Common.{◌∷◌, [], List, ℕ}
use Rattle.gw_journal.proofs.job.retire.Given as goal

-- it has the same records, and a crash leaves them
abbrev pub invariant-loop : goal.invariant-loop
invariant-loop g l = (these : List (List ℕ)) → g.S.Storage.stands l.fn.storage these
    → g.S.Storage.stands l.storage these × g.S.Storage.leaves l.fn.storage l.storage (these ∷ [])

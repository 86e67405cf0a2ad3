-- What holds of what a checkpoint may say.
use Rattle.std.proofs.Common.{ℕ, ◌≤◌, List, arith}
use Rattle.gw_due.specs.State.{state_of}
use Rattle.gw_ledger.specs.Ledgers.{Spares, events_of, needed_from}

-- nothing stands below the first place
pub none_spared : (records : List (List ℕ)) → Spares records 0
none_spared records entries spells = least (needed_from (state_of (events_of entries))) where
  least : (n : ℕ) → 0 ≤ n
  least n = omega arith

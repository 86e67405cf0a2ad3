-- What was handed over from one start of a gateway to the next, whatever crash came between them.
use Rattle.std.specs.Prelude.{ℕ, List, [], ◌++◌}
use Rattle.gw_due.specs.Due.{Name}
use Rattle.gw_journal.specs.declared.event.Event as happened
use Rattle.gw_journal.specs.Logs.{AreFaithful, IsLeft, log_in}
use Rattle.gw_ledger.specs.Ledgers.{IsLawful}
use Rattle.gw_delivery.specs.Calls.{Call, Calls}

module _ (Routes : (names : List Name) (plan to bytes : List ℕ) → Type 0) (receiver : ℕ) where
  -- A start found these records, and there were these calls of its journal. A crash left those records of it, for the next start to find.
  -- What was read of the log was what was written, and all that was put is lawful
  pub record IsPeriod (found : List (List ℕ)) (calls : List Call) (left : List (List ℕ)) : Type 0 where
    pub history : List happened.Event
    pub faithful : AreFaithful found history
    pub lawful : IsLawful Routes (log_in found history).records
    pub were : Calls found receiver [] calls history
    pub crash : IsLeft (log_in found history) left

  -- The first start found these records, the last crash left those, and these were all calls. Each start found what the crash before it had left
  pub data Periods : (found : List (List ℕ)) → List Call → (left : List (List ℕ)) → Type 0 where
    no_start : (records : List (List ℕ)) → Periods records [] records
    one_start : (found between left : List (List ℕ)) (calls others : List Call) → IsPeriod found calls between → Periods between others left
        → Periods found (calls ++ others) left

-- Entries that are the same: equal in numbers, codes, receivers, versions, texts of plans and messages.
use Rattle.std.specs.Prelude.{ℕ, ◌==◌, Bool, false, ◌&&◌, bytes_eq}
use Rattle.gw_gate.specs.Parts.{PlanSeen, ConformingSeen, TranslatedSeen, same_source, same_translated}
use Rattle.gw_gate.specs.Journal.{EntrySeen, WasAccepted, WasRefused, WasSwapped, WasTaken, WasKept, WasIssued, WasOut}

abbrev pub is_accepted : ℕ → ℕ → ConformingSeen → EntrySeen → Bool
is_accepted n arrival c (WasAccepted m count d) = (m == n) && (count == arrival) && same_source d c
is_accepted n arrival c e = false

abbrev pub is_refused : ℕ → ℕ → EntrySeen → Bool
is_refused arrival code (WasRefused count other) = (count == arrival) && (other == code)
is_refused arrival code e = false

abbrev pub is_swapped : ℕ → PlanSeen → EntrySeen → Bool
is_swapped version plan (WasSwapped v p) = (v == version) && bytes_eq p.text plan.text
is_swapped version plan e = false

abbrev pub is_taken : ℕ → ℕ → EntrySeen → Bool
is_taken n receiver (WasTaken m r) = (m == n) && (r == receiver)
is_taken n receiver e = false

abbrev pub is_kept : ℕ → TranslatedSeen → EntrySeen → Bool
is_kept n t (WasKept m u) = (m == n) && same_translated u t
is_kept n t e = false

abbrev pub is_issued : ℕ → ℕ → EntrySeen → Bool
is_issued n receiver (WasIssued m r) = (m == n) && (r == receiver)
is_issued n receiver e = false

abbrev pub is_out : ℕ → ℕ → TranslatedSeen → EntrySeen → Bool
is_out n receiver t (WasOut m r u) = (m == n) && (r == receiver) && same_translated u t
is_out n receiver t e = false

abbrev pub same_entry : EntrySeen → EntrySeen → Bool
same_entry e (WasAccepted n arrival c) = is_accepted n arrival c e
same_entry e (WasRefused arrival code) = is_refused arrival code e
same_entry e (WasSwapped version plan) = is_swapped version plan e
same_entry e (WasTaken n receiver) = is_taken n receiver e
same_entry e (WasKept n t) = is_kept n t e
same_entry e (WasIssued n receiver) = is_issued n receiver e
same_entry e (WasOut n receiver t) = is_out n receiver t e

-- What was given out for a receiver, by notes.
use Rattle.std.specs.Prelude.{◌≡◌, ℕ, ◌==◌, Bool, true, false, ◌&&◌, List, [], ◌∷◌, map}
use Rattle.std.specs.List.{AllByRecursion}
use Rattle.gw_gate.specs.Parts.{same_translated}
use Rattle.gw_gate.specs.Journal.{EntrySeen, Release, released}
use Rattle.gw_crew.specs.Notes.{NoteSeen, ReceiptSeen}
use Rattle.gw_run.specs.Passes.{receipts}

abbrev pub entry_of : ReceiptSeen → EntrySeen
entry_of receipt = receipt.entry

-- the translations that were given out for a receiver by these receipts, in order
abbrev pub given_by : List ReceiptSeen → ℕ → List Release
given_by all r = released (map entry_of all) r

-- the same of notes
abbrev pub given_out : List NoteSeen → ℕ → List Release
given_out notes r = given_by (receipts notes) r

abbrev pub same_release : Release → Release → Bool
same_release a b = (a.n == b.n) && same_translated a.translated b.translated

-- the same releases, in the same order
abbrev pub are_same : List Release → List Release → Bool
are_same [] [] = true
are_same [] (b ∷ bs) = false
are_same (a ∷ xs) [] = false
are_same (a ∷ xs) (b ∷ bs) = same_release a b && are_same xs bs

-- none of these passes has a receipt of anything given out for the receiver
abbrev pub NoneGiven : ℕ → List (List NoteSeen) → Type 0
NoneGiven r passes = AllByRecursion (λ notes. given_out notes r ≡ []) passes

-- Whether the notes of finished passes agree with the chapters of a gate's journal.
use Rattle.std.specs.Prelude.{◌≡◌, ⊤, ℕ, ◌+◌, ◌-◌, ◌==◌, nat_le, Bool, true, false, not, ◌&&◌, IsTrue, List, [], ◌∷◌, ◌++◌, flat_map, count_by, length, map}
use Rattle.std.specs.Prelude.{take, slice_get}
use Rattle.std.specs.Prelude.{Option, None, Some, bytes_eq}
use Rattle.std.specs.List.{list_any, list_all, range_with_len}
use Rattle.gw_gate.specs.Parts.{is_under}
use Rattle.gw_gate.specs.Journal.{EntrySeen, Journal, current, end, start_after}
use Rattle.gw_gate.specs.Chapters.{all_entries}
use Rattle.gw_gate.specs.Replies.{ReplySeen, IsIdle, IsNothing, Takes, Releases, reply_to, most}
use Rattle.gw_gate.specs.Same.{same_entry}
use Rattle.gw_crew.specs.Notes.{NoteSeen, Looked, WasStale, WasFull, WasIdle, WasNothing, Added, ReceiptSeen}
use Rattle.gw_run.specs.Passes.{CountedSeen, PassSeen, receipts}

-- ---- a note by itself

abbrev pub is_idle : ReplySeen → Bool
is_idle IsIdle = true
is_idle given = false

abbrev pub is_nothing : ReplySeen → Bool
is_nothing IsNothing = true
is_nothing given = false

-- a journal as it was when this many entries were made in all
abbrev pub until : Journal → ℕ → Journal
until j k = record j { entries = take (k - j.start.entries) j.entries }

-- whether a reply of such a note was the one that this journal gives
abbrev pub fits : Journal → NoteSeen → Bool
fits j (Looked v plan) = ((current j).number == v) && bytes_eq (current j).plan.text plan.text
fits j (WasStale v c) = ((current j).number == v) && not (is_under c v (current j).plan)
fits j WasFull = length j.entries == most
fits j WasIdle = is_idle (reply_to j Takes)
fits j (WasNothing r) = is_nothing (reply_to j (Releases r))
fits j (Added at e) = true

-- ---- chapters in order, the open journal last

-- how many entries were made in all before the first of them, and with the last of them
abbrev pub first_of : List Journal → ℕ
first_of [] = 0
first_of (j ∷ js) = j.start.entries

abbrev pub last_end : ℕ → List Journal → ℕ
last_end low [] = low
last_end low (j ∷ js) = last_end (end j) js

-- whether a chapter has this number of entries in all: from where it starts up to its end, where the next one starts
abbrev pub reaches : Journal → ℕ → Bool
reaches j k = nat_le j.start.entries k && nat_le k (end j)

-- whether a note was the reply that one of the chapters gives, when this many entries were made in all
abbrev pub fits_at : List Journal → ℕ → NoteSeen → Bool
fits_at js k note = list_any (λ j. reaches j k && fits (until j k) note) js

-- whether it was at one of the numbers from low up to high
abbrev pub fits_between : List Journal → ℕ → ℕ → NoteSeen → Bool
fits_between js low high note = list_any (λ k. fits_at js k note) (range_with_len low (high + 1 - low))

abbrev pub is_same : EntrySeen → Option EntrySeen → Bool
is_same e None = false
is_same e (Some f) = same_entry e f

-- whether the chapters have this entry under this number, which counts over all of them
abbrev pub stands : List Journal → ℕ → EntrySeen → Bool
stands js at e = nat_le (first_of js) at && is_same e (slice_get (all_entries js) (at - first_of js))

-- ---- the notes of a pass

-- how many entries were made before the next receipt of these notes, if not all
abbrev pub next_at : ℕ → List NoteSeen → ℕ
next_at end [] = end
next_at end (Added at e ∷ notes) = at
next_at end (note ∷ notes) = next_at end notes

-- Whether a note agrees with the chapters, where it comes after low entries at least, and before the entry of number high:
-- a receipt stands in them, with a number that is above those before it; any other note fits in between.
abbrev pub agrees_one : List Journal → ℕ → ℕ → NoteSeen → Bool
agrees_one js low high (Added at e) = nat_le low at && stands js at e
agrees_one js low high note = fits_between js low high note

-- how many entries were made at least after a note
abbrev pub low_after : ℕ → NoteSeen → ℕ
low_after low (Added at e) = at + 1
low_after low note = low

-- whether all notes of a pass do, which began when there were low entries
abbrev pub agrees : List Journal → ℕ → List NoteSeen → Bool
agrees js low [] = true
agrees js low (note ∷ notes) = agrees_one js low (next_at (last_end 0 js) notes) note && agrees js (low_after low note) notes

-- ---- all passes

-- how many receipts have this number
abbrev pub having : List ReceiptSeen → ℕ → ℕ
having all k = count_by (λ receipt. receipt.at == k) all

-- whether each number from since up to the end is that of just one receipt
abbrev pub are_all : ℕ → ℕ → List ReceiptSeen → Bool
are_all since end all = list_all (λ k. having all k == 1) (range_with_len since (end - since))

-- each journal starts where the one before it ended
abbrev pub GoOn : List Journal → Type 0
GoOn [] = ⊤
GoOn (j ∷ []) = ⊤
GoOn (j ∷ next ∷ js) = (next.start ≡ start_after j) × GoOn (next ∷ js)

-- The chapters follow one another, and the passes began in the first of them, when there were since entries:
-- the others are those of their receipts, each once, and the notes of each agree with the chapters.
pub record Settled (js : List Journal) (since : ℕ) (passes : List (List NoteSeen)) : Type 0 where
  pub follow : GoOn js
  pub from : IsTrue (nat_le (first_of js) since)
  pub all : IsTrue (are_all since (last_end 0 js) (flat_map receipts passes))
  pub each : IsTrue (list_all (agrees js since) passes)

-- the same of passes that have ended, and of the chapters that were closed with the gate that is left
abbrev pub AreSettled : List Journal → CountedSeen → List PassSeen → Type 0
AreSettled chapters counted passes = Settled (chapters ++ counted.gate ∷ []) counted.since (map (λ pass. pass.notes) passes)

-- Journals that follow one another.
use Rattle.std.specs.Prelude.{◌≡◌, ◌≤◌, ℕ, nat_lt, Bool, false, ◌||◌, List, [], ◌∷◌, ◌++◌, length, flat_map, ⊤}
use Rattle.std.specs.List.{AllByRecursion, list_any}
use Rattle.gw_gate.specs.Journal.{EntrySeen, Start, Journal, accepted, due, issued, jobs, released, end, start_after}

-- ---- where a journal can start

-- the most entries that were made in all when a journal is closed, or starts
abbrev pub most_in_all : ℕ
most_in_all = 9000000000000000000

-- each plan that was swapped in, each acceptance and each arrival was an entry, and there were few enough entries
pub record CanStart (start : Start) : Type 0 where
  pub versions : start.version ≤ start.entries
  pub acceptances : start.acceptances ≤ start.entries
  pub arrivals : start.arrivals ≤ start.entries
  pub few : start.entries ≤ most_in_all

-- ---- when a journal may be closed

-- whether something that is due to this receiver wasn't released
abbrev pub awaits : List EntrySeen → ℕ → Bool
awaits h r = nat_lt (length (released h r)) (length (due h r))

-- whether something that is due wasn't released: only receivers of messages that were accepted have anything due
abbrev pub some_await : List EntrySeen → Bool
some_await h = list_any (λ a. list_any (awaits h) a.conforming.receivers) (accepted h)

-- whether the journal can't be closed: a pair wasn't taken, something due wasn't released, or too many entries were made in all
abbrev pub is_pending : Journal → Bool
is_pending j = nat_lt (jobs j.entries) (length (issued j.entries)) || some_await j.entries || nat_lt most_in_all (end j)

-- ---- chapters

-- each journal was closed when it could be, and the next one starts where it ended
abbrev pub Follow : Journal → List Journal → Type 0
Follow j [] = ⊤
Follow j (next ∷ more) = (is_pending j ≡ false) × (next.start ≡ start_after j) × Follow next more

-- the entries of all, in order
abbrev pub all_entries : List Journal → List EntrySeen
all_entries journals = flat_map (λ j. j.entries) journals

-- Journals that follow one another, read as one. What was due, what was released and under which versions is stated of this one.
abbrev pub joined : Journal → List Journal → Journal
joined first more = record { start = first.start; entries = first.entries ++ all_entries more }

-- this holds of journals that follow one another, read as one, where each of them is so
abbrev pub OverChapters : (Journal → Type 0) → (Journal → Type 0) → Type 0
OverChapters IsSo Holds = (first : Journal) (more : List Journal) → AllByRecursion IsSo (first ∷ more) → Follow first more → Holds (joined first more)

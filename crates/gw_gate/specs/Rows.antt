-- Events that come to a toy, with the replies to them.
use Rattle.std.specs.Prelude.{List, [], ◌∷◌, ◌++◌, None, Some}
use Rattle.gw_gate.specs.Replies.{EventSeen, Looks, Arrives, Refuses, Swaps, Takes, Puts, Reissues, Releases, Cuts, most, run}
use Rattle.gw_gate.specs.Replies.{ReplySeen, IsCurrent, IsAccepted, IsStale, IsRefused, IsSwapped, IsJob, IsIdle, IsKept, IsRepeat, IsStranger, IsIssued, IsDone, IsOut, IsNothing, IsPending, IsClosed, IsFull}
use Rattle.gw_gate.specs.Journal.{Journal, from, start_after}
use Rattle.gw_gate.specs.Toy.{first_plan, second_plan, message, made, opened}

-- three messages, whose translations are put in another order, one of them twice
abbrev pub out_of_order : List EventSeen
out_of_order =
    Arrives (message 10) ∷ Arrives (message 11) ∷ Arrives (message 12)
    ∷ Puts 2 (made 12) ∷ Puts 0 (made 10) ∷ Puts 0 (made 10) ∷ Puts 1 (made 11)
    ∷ Releases 0 ∷ Releases 0 ∷ Releases 0 ∷ Releases 0 ∷ []

abbrev pub in_order : List ReplySeen
in_order =
    IsAccepted 0 1 ∷ IsAccepted 1 2 ∷ IsAccepted 2 3
    ∷ IsKept ∷ IsKept ∷ IsRepeat (made 10) ∷ IsKept
    ∷ IsOut 0 (made 10) ∷ IsOut 1 (made 11) ∷ IsOut 2 (made 12) ∷ IsNothing ∷ []

-- a plan is swapped in between an acceptance and its job
abbrev pub swapping : List EventSeen
swapping =
    Looks ∷ Arrives (message 10) ∷ Swaps second_plan ∷ Arrives (message 11) ∷ Looks
    ∷ Takes ∷ Puts 0 (made 10) ∷ Releases 0 ∷ []

abbrev pub swapped_over : List ReplySeen
swapped_over =
    IsCurrent 0 first_plan ∷ IsAccepted 0 1 ∷ IsSwapped 1 ∷ IsStale 1 (message 11) ∷ IsCurrent 1 second_plan
    ∷ IsJob 0 0 (message 10) ∷ IsKept ∷ IsOut 0 (made 10) ∷ []

-- a pair is issued again while it waits, and again when its translation is kept
abbrev pub issuing_again : List EventSeen
issuing_again =
    Arrives (message 10) ∷ Takes ∷ Takes ∷ Reissues 0 0 ∷ Takes
    ∷ Puts 0 (made 10) ∷ Puts 0 (made 10) ∷ Reissues 0 0 ∷ Reissues 5 0 ∷ []

abbrev pub issued_again : List ReplySeen
issued_again =
    IsAccepted 0 1 ∷ IsJob 0 0 (message 10) ∷ IsIdle ∷ IsIssued ∷ IsJob 0 0 (message 10)
    ∷ IsKept ∷ IsRepeat (made 10) ∷ IsDone ∷ IsStranger None ∷ []

-- more than a journal of two entries takes
abbrev pub filling : List EventSeen
filling = Refuses 207 ∷ Refuses 200 ∷ Refuses 207 ∷ Looks ∷ Takes ∷ []

abbrev pub filled : List ReplySeen
filled = IsRefused 1 ∷ IsRefused 2 ∷ IsFull (Refuses 207) ∷ IsCurrent 0 first_plan ∷ IsIdle ∷ []

-- a cut while jobs are left, the three jobs, and a cut that closes; then what was due isn't any more, and numbers go on
abbrev pub cutting : List EventSeen
cutting =
    Cuts ∷ Takes ∷ Takes ∷ Takes ∷ Cuts
    ∷ Arrives (message 13) ∷ Puts 0 (made 10) ∷ Reissues 0 0 ∷ Releases 0 ∷ Takes ∷ []

-- what was closed: all that came before
abbrev pub closed : Journal
closed = run most opened (out_of_order ++ Takes ∷ Takes ∷ Takes ∷ [])

abbrev pub cut : List ReplySeen
cut =
    IsPending ∷ IsJob 0 0 (message 10) ∷ IsJob 1 0 (message 11) ∷ IsJob 2 0 (message 12) ∷ IsClosed closed
    ∷ IsAccepted 3 4 ∷ IsStranger (Some (made 10)) ∷ IsStranger None ∷ IsNothing ∷ IsJob 3 0 (message 13) ∷ []

-- a journal of two entries that is full is closed, and the next one goes on
abbrev pub filling_on : List EventSeen
filling_on = Refuses 207 ∷ Refuses 200 ∷ Refuses 207 ∷ Cuts ∷ Refuses 207 ∷ Cuts ∷ Cuts ∷ []

abbrev pub first_filled : Journal
first_filled = run 2 opened (Refuses 207 ∷ Refuses 200 ∷ [])

abbrev pub second_filled : Journal
second_filled = run 2 (from (start_after first_filled)) (Refuses 207 ∷ [])

abbrev pub filled_on : List ReplySeen
filled_on = IsRefused 1 ∷ IsRefused 2 ∷ IsFull (Refuses 207) ∷ IsClosed first_filled ∷ IsRefused 3 ∷ IsClosed second_filled ∷ IsClosed (from (start_after second_filled)) ∷ []

-- a plan that was swapped in opens the next journal, and messages of the one before are stale there
abbrev pub cutting_swapped : List EventSeen
cutting_swapped = Swaps second_plan ∷ Cuts ∷ Looks ∷ Arrives (message 10) ∷ Swaps first_plan ∷ []

abbrev pub swapped_then : Journal
swapped_then = run most opened (Swaps second_plan ∷ [])

abbrev pub cut_swapped : List ReplySeen
cut_swapped = IsSwapped 1 ∷ IsClosed swapped_then ∷ IsCurrent 1 second_plan ∷ IsStale 1 (message 10) ∷ IsSwapped 2 ∷ []

-- Lists of calls on a desk, and what they release.
use Rattle.std.specs.Prelude.{ℕ, List, Option, None, Some, [], ◌∷◌, ◌++◌, ◌≡◌, ◌==◌, ◌&&◌, if◌then◌else◌, is_some, option_map, position, slice_get, length, take, map, All}
use Rattle.std.specs.Option.{option_to_list}
use Rattle.gw_reorder.specs.State.{DeskState, nothing_due, with_due}
use Rattle.gw_reorder.specs.Calls.{after_holding, next_of, after_giving}

-- A call that changes a desk: a number is due; a value is brought for a number; what is next is released; the room changes; the desk is emptied
pub data Call (T : Type 0) : Type 0 where
  due : ℕ → Call T
  hold : ℕ → T → Call T
  release : Call T
  room : ℕ → Call T
  restart : Call T

-- what the call leaves, by the contracts of the calls
abbrev pub after : {T : Type 0} → DeskState T → Call T → DeskState T
after s (due n) = with_due s n
after s (hold n x) = after_holding s n x
after s release = after_giving s (next_of s)
after s (room n) = record s { room = n }
after s restart = record nothing_due { room = s.room }

-- What follows holds of the calls made so far on a new desk, the last call first; what was due, brought and released before a restart counts no more

-- the desk that they leave
abbrev pub desk_after : {T : Type 0} → List (Call T) → DeskState T
desk_after [] = nothing_due
desk_after (call ∷ before) = after (desk_after before) call

-- the numbers that are due, in the order in which they became due
abbrev pub due_in : {T : Type 0} → List (Call T) → List ℕ
due_in [] = []
due_in (due n ∷ before) = due_in before ++ n ∷ []
due_in (hold n x ∷ before) = due_in before
due_in (release ∷ before) = due_in before
due_in (room n ∷ before) = due_in before
due_in (restart ∷ before) = []

-- the numbers that were released with their values, in the order in which they were
abbrev pub given_in : {T : Type 0} → List (Call T) → List (ℕ × T)
given_in [] = []
given_in (due n ∷ before) = given_in before
given_in (hold n x ∷ before) = given_in before
given_in (release ∷ before) = given_in before ++ option_to_list (next_of (desk_after before))
given_in (room n ∷ before) = given_in before
given_in (restart ∷ before) = []

-- the first of two values that is there
abbrev pub earlier : {T : Type 0} → Option T → Option T → Option T
earlier None later = later
earlier (Some x) later = Some x

-- the value brought for the number m, as one for the number n: where they are the same and it is due
abbrev pub brought_for : {T : Type 0} → List ℕ → ℕ → T → ℕ → Option T
brought_for numbers m x n = if (m == n) && is_some (position (λ k. k == n) numbers) then Some x else None

-- the value that is kept for a number: the first that was brought for it once it was due
abbrev pub kept_for : {T : Type 0} → List (Call T) → ℕ → Option T
kept_for [] n = None
kept_for (due m ∷ before) n = kept_for before n
kept_for (hold m x ∷ before) n = earlier (kept_for before n) (brought_for (due_in before) m x n)
kept_for (release ∷ before) n = kept_for before n
kept_for (room m ∷ before) n = kept_for before n
kept_for (restart ∷ before) n = None

-- the number, where there is one, with its value, where there is one
abbrev pub with_its_value : {T : Type 0} → (ℕ → Option T) → Option ℕ → Option (ℕ × T)
with_its_value kept None = None
with_its_value kept (Some n) = option_map (λ x. (n, x)) (kept n)

-- The numbers released are the first of those due, in order, so each once; each went with the value that was kept for it; and the next to go is the first of the others, as soon as a value is kept for it
pub record IsGivenInOrder {T : Type 0} (calls : List (Call T)) : Type 0 where
  pub numbers : map (λ given. given.0) (given_in calls) ≡ take (length (given_in calls)) (due_in calls)
  pub values : All (λ given. kept_for calls given.0 ≡ Some given.1) (given_in calls)
  pub next : next_of (desk_after calls) ≡ with_its_value (kept_for calls) (slice_get (due_in calls) (length (given_in calls)))

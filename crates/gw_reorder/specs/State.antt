-- What a desk holds.
use Rattle.std.specs.Prelude.{ℕ, List, Option, None, [], ◌∷◌, ◌++◌, ◌≡◌, ◌-◌, ◌+◌}
use Rattle.std.specs.List.Sorted.{IsStrictlyIncreasing}

-- A desk: the numbers due so far in order, how many of them were released, for each of the others the value that was kept (`None`: it still waits for one), and for how many more due numbers there is room
pub record DeskState (T : Type 0) : Type 0 where
  pub due : List ℕ
  pub released : ℕ
  pub kept : List (Option T)
  pub room : ℕ

-- nothing is due, so nothing was released and no value is kept, and there is no room
abbrev pub nothing_due : {T : Type 0} → DeskState T
nothing_due = record { due = []; released = 0; kept = []; room = 0 }

-- the same except for the room
pub record SameButRoom {T : Type 0} (old new : DeskState T) : Type 0 where
  pub due : new.due ≡ old.due
  pub released : new.released ≡ old.released
  pub kept : new.kept ≡ old.kept

-- one more number is due, and waits for its value
abbrev pub with_due : {T : Type 0} → DeskState T → ℕ → DeskState T
with_due s n = record { due = s.due ++ n ∷ []; released = s.released; kept = s.kept ++ None ∷ []; room = s.room - 1 }

-- the due numbers rise, and the window has a place for each of them that was not released
pub record IsWindow (due : List ℕ) (all released waiting : ℕ) : Type 0 where
  pub rising : IsStrictlyIncreasing due
  pub places : released + waiting ≡ all

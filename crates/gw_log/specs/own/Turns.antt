-- How a log goes on to its next file.
use Rattle.std.specs.Prelude.{◌≡◌, ◌≢◌, ◌⊎◌, ℕ, ◌+◌, List, [], ◌∷◌, ◌++◌, Result, IfOk, OnOk}
use Rattle.gw_log.specs.Disk.{Files, LeavesOnly}
use Rattle.gw_log.specs.File.{Has, HasEither}
use Rattle.gw_log.specs.State.{SegmentState, IsStaged, Stands, at_rest}
use Rattle.gw_log.specs.Chain.{spelled, IsWide, LogState, next_head}

-- The file of this number is being ended, and the next one begun with these records. Either the first isn't ended yet and the second has none of them or all,
-- or the first is ended and the second has them all
pub record Turns (number : ℕ) (these next : List (List ℕ)) (old c : Files) : Type 0 where
  pub others : (other : ℕ) → other ≢ number → other ≢ number + 1 → c other ≡ old other
  pub either : (Has these (c number) × HasEither [] next (c (number + 1)))
      ⊎ ((c number ≡ at_rest (these ++ [] ∷ [])) × Has next (c (number + 1)))

-- the file of this number was ended, and no other has changed but the next
pub record HasEnded (number : ℕ) (these : List (List ℕ)) (old new : Files) : Type 0 where
  pub file : new number ≡ at_rest (these ++ [] ∷ [])
  pub others : (other : ℕ) → other ≢ number → other ≢ number + 1 → new other ≡ old other

-- it was, and the next one has these records, and is so long
pub record HasTurned {D : Type 0} (seen : D → Files) (may_leave : D → Files → Type 0) (old new : SegmentState D) (size : ℕ) (these next : List (List ℕ)) : Type 0 where
  pub begun : IsStaged seen may_leave 2 new.disk (old.number + 1) 0 size [] next
  pub ended : HasEnded old.number these (seen old.disk) (seen new.disk)

-- whatever records a segment has, where no byte is in the next file
abbrev pub IfAlone : {D : Type 0} → (D → Files) → (D → Files → Type 0) → SegmentState D → (List (List ℕ) → Type 0) → Type 0
IfAlone seen may_leave old P = (these : List (List ℕ)) → Stands seen may_leave old these → seen old.disk (old.number + 1) ≡ [] → P these

-- it ended its file at `Ok`
abbrev pub Ends : {D T E : Type 0} → (D → Files) → (D → Files → Type 0) → SegmentState D → SegmentState D → Result T E → Type 0
Ends seen may_leave old new result = IfAlone seen may_leave old (λ these. OnOk result (HasEnded old.number these (seen old.disk) (seen new.disk)))

-- it also began the next one with these records, which is as long as the answer
abbrev pub Turned : {D E : Type 0} → (D → Files) → (D → Files → Type 0) → SegmentState D → SegmentState D → List (List ℕ) → Result ℕ E → Type 0
Turned seen may_leave old new next result = IfAlone seen may_leave old (λ these. IfOk result (λ size. HasTurned seen may_leave old new size these next))

-- a crash at any moment since then leaves a file that is being ended, and the next one begun
abbrev pub LeavesTurn : {D : Type 0} → (D → Files) → (D → Files → Type 0) → (D → ℕ) → (D → ℕ → Files → Type 0) → SegmentState D → SegmentState D → List (List ℕ) → Type 0
LeavesTurn seen may_leave moment left_since old new next =
    IfAlone seen may_leave old (λ these. LeavesOnly moment left_since old.disk new.disk (Turns old.number these next (seen old.disk)))

-- the head of the file behind that of a log, as a batch
pub record IsNext {D : Type 0} (s : LogState D) (keep : ℕ) (checkpoint : List ℕ) (batch : List (List ℕ)) : Type 0 where
  pub batch_is : batch ≡ spelled (next_head s keep checkpoint) ∷ []
  pub wide : IsWide (next_head s keep checkpoint)

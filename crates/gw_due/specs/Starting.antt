-- What a start makes of a checkpoint and the records behind it.
use Rattle.std.specs.Prelude.{◌≡◌, ℕ, IsTrue, IsFalse, List, [], ◌∷◌, ◌++◌, map, take, get_or}
use Rattle.gw_due.specs.Events.{Event}
use Rattle.gw_due.specs.Spelling.{Entry, Fits, spelled}
use Rattle.gw_due.specs.State.{State, after, allows, has_room, state_of}
use Rattle.gw_due.specs.Checkpoint.{checkpoint, StateFits}

-- From the one state these records lead to the other: each is spelled so, and its event was allowed
pub data LeadsTo (first : State) : List (List ℕ) → State → Type 0 where
  none : LeadsTo first [] first
  more : (records : List (List ℕ)) (s : State) (e : Entry) → LeadsTo first records s → Fits e → IsTrue (allows s e.event)
      → LeadsTo first (records ++ spelled e ∷ []) (after s e.event)

-- the state that the checkpoint spells, moved on by the records
pub record Starts (bytes : List ℕ) (records : List (List ℕ)) (s : State) : Type 0 where
  pub first : State
  pub fits : StateFits first
  pub spells : bytes ≡ checkpoint first
  pub on : LeadsTo first records s

-- up to the record of this number they lead to a state
pub record StartsUpTo (bytes : List ℕ) (records : List (List ℕ)) (at : ℕ) (P : State → Type 0) : Type 0 where
  pub state : State
  pub starts : Starts bytes (take at records) state
  pub there : P state

-- no record is spelled so whose event the state allows
abbrev pub Refuses : List ℕ → State → Type 0
Refuses bytes s = (e : Entry) → Fits e → bytes ≡ spelled e → IsTrue (allows s e.event) → ⊥

abbrev pub StopsAt : List ℕ → List (List ℕ) → ℕ → Type 0
StopsAt bytes records at = StartsUpTo bytes records at (Refuses (get_or records at []))

-- a count of that state has no room for one more
abbrev pub IsFullAt : List ℕ → List (List ℕ) → ℕ → Type 0
IsFullAt bytes records at = StartsUpTo bytes records at (λ s. IsFalse (has_room s))

-- entries of these records, and the state of what stood before with them
pub record IsStateOf (before : List Event) (records : List (List ℕ)) (s : State) : Type 0 where
  pub entries : List Entry
  pub are : records ≡ map spelled entries
  pub is : s ≡ state_of (before ++ map (λ e. e.event) entries)

-- Which event may follow a log.
use Rattle.std.specs.Prelude.{◌≡◌, ◌↔◌, ⊤, ℕ, ◌<◌, ◌≤◌, Bool, not, nat_eq, bytes_eq, if◌then◌else◌, IsTrue, List, [], ◌∷◌, ◌++◌, Some, IfSome, slice_get}
use Rattle.std.specs.List.{list_any, list_all}
use Rattle.gw_due.specs.Events.{Event, Planned, Accepted, Again, Passed, Named, Margin, Retired}
use Rattle.gw_due.specs.Due.{left, plan, last, margin, oldest, Name, names}

-- the record at a place is an acceptance
pub record IsAccepted (place : ℕ) (log : List Event) : Type 0 where
  pub number : ℕ
  pub to : List ℕ
  pub bytes : List ℕ
  pub there : slice_get log place ≡ Some (Accepted number to bytes)

-- whether a receiver has a name
abbrev pub is_named : List Name → ℕ → Bool
is_named names r = list_any (λ n. nat_eq n.number r) names

-- whether a number and a name are a pair for good, beside another such pair: both are the same, or neither
abbrev pub agrees : ℕ → List ℕ → Name → Bool
agrees r name n = if nat_eq n.number r then bytes_eq n.name name else not (bytes_eq n.name name)

-- two names that were given are the same, or have nothing in common
abbrev pub IsOnePair : Name → Name → Type 0
IsOnePair n m = (n.number ≡ m.number) ↔ (n.name ≡ m.name)

module _ (Routes : (names : List Name) (plan to bytes : List ℕ) → Type 0) where
  -- A message is accepted for the receivers of its route under the plan in force, to which it conforms. Its number is above all
  -- numbers before, and below the margin.
  pub record MayAccept (log : List Event) (number : ℕ) (to bytes : List ℕ) : Type 0 where
    pub routed : Routes (names log) (plan log) to bytes
    pub named : IsTrue (list_all (is_named (names log)) to)
    pub above : IfSome (last log) (λ n. n < number)
    pub below : number < margin log

  -- what a receiver passes is the first that is left for it
  abbrev pub MayFollow : List Event → Event → Type 0
  MayFollow log (Planned text) = ⊤
  MayFollow log (Accepted number to bytes) = MayAccept log number to bytes
  MayFollow log (Again receiver place) = IsTrue (is_named (names log) receiver) × IsAccepted place log
  MayFollow log (Passed receiver place how) = IsTrue (is_named (names log) receiver) × (slice_get (left receiver log) 0 ≡ Some place)
  MayFollow log (Named receiver name address) = IsTrue (list_all (agrees receiver name) (names log))
  MayFollow log (Margin number) = margin log ≤ number
  MayFollow log (Retired segment) = oldest log ≤ segment

  pub data Lawful : List Event → Type 0 where
    no_event : Lawful []
    one_more : (log : List Event) (e : Event) → Lawful log → MayFollow log e → Lawful (log ++ e ∷ [])

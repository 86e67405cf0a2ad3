-- How a list is cut into parts, one for each node of a profile (HL7 v2.5.1 chapter 2, 2.5.2 "Segments and segment groups" and 2.12).
use Rattle.std.specs.Prelude.{◌≡◌, ℕ, zero, suc, ◌≤◌, List, [], ◌∷◌, ◌++◌, Option, length}
use Rattle.gw_profile.specs.Shapes.{Forest, nothing, segment, group}
use Rattle.gw_profile.specs.Deterministic.{Name, AtMost}

-- the list is a front of the one kind and a back of the other
pub record Cut {I : Type 0} (P Q : List I → Type 0) (list : List I) : Type 0 where
  pub front : List I
  pub back : List I
  pub joined : list ≡ front ++ back
  pub here : P front
  pub there : Q back

-- k lists joined
abbrev pub Many : {I : Type 0} → (List I → Type 0) → ℕ → List I → Type 0
Many P zero list = list ≡ []
Many P (suc k) list = Cut P (Many P k) list

-- k lists joined, for a number k inside the cardinality
abbrev pub Times : {I : Type 0} → ℕ → Option ℕ → (List I → Type 0) → List I → Type 0
Times low high P list = (k : ℕ) × (low ≤ k) × AtMost high k × Many P k list

-- the names can be cut into one part for each node
abbrev pub Fits : Forest → List Name → Type 0
Fits nothing list = list ≡ []
Fits (segment s rest) list = Cut (Times s.card.min s.card.max (λ one. one ≡ s.name ∷ [])) (Fits rest) list
Fits (group g nodes rest) list = Cut (Times g.card.min g.card.max (Fits nodes)) (Fits rest) list

-- the names begin a list that fits
abbrev pub Begins : Forest → List Name → Type 0
Begins forest names = (rest : List Name) × Fits forest (names ++ rest)

-- no completion of the names is shorter
pub record IsShortest (forest : Forest) (names rest : List Name) : Type 0 where
  pub fits : Fits forest (names ++ rest)
  pub least : (other : List Name) → Fits forest (names ++ other) → length rest ≤ length other

-- Occurrences as the program borrows them.
use Rattle.std.specs.Prelude.{◌≡◌, ℕ, List, [], ◌∷◌, map, reverse, Option, Some, None}
use Rattle.std.specs.List.{AllByRecursion}
use Rattle.gw_er7.specs.Message.{SegmentValue}
use Rattle.gw_validate.specs.Trees.{Tree}
use Rattle.gw_validate.specs.Fitting.{OccValue}
use Rattle.gw_interp.specs.Occurrences.{Occurrence, a_segment, nodes}

abbrev pub numbered : Option ℕ → Tree → Occurrence
numbered None t = nodes t
numbered (Some number) t = a_segment number

abbrev pub occurrence : OccValue → Occurrence
occurrence o = numbered o.number o.tree

-- the occurrences that are walked, the innermost last in the program
abbrev pub scope : List OccValue → List Occurrence
scope os = reverse (map occurrence os)

-- borrowed from the tree of this message
abbrev pub AreOf : List SegmentValue → List OccValue → Type 0
AreOf m os = AllByRecursion (λ o. o.message ≡ m) os

-- the first of the occurrences, if there is one
abbrev pub IsFirstOf : List Occurrence → Option OccValue → Type 0
IsFirstOf os None = os ≡ []
IsFirstOf os (Some o) = (more : List Occurrence) × (os ≡ occurrence o ∷ more)

-- What the program reads at the sources of a map.
use Rattle.std.specs.Prelude.{◌≡◌, ℕ, ◌<◌, Bool, true, false, List, [], ◌∷◌, Option, Some, None}
use Rattle.std.specs.List.{AllByRecursion}
use Rattle.std.specs.FinMap as texts
use Rattle.gw_er7.specs.Message.{Texts, text_of, SegmentValue}
use Rattle.gw_er7.specs.Presence.{RepAt}
use Rattle.gw_interp.specs.declared.reading.Repetition.{Repetition}
use Rattle.gw_interp.specs.declared.reading.Reading.{Reading}
use Rattle.gw_resolve.specs.Resolved.{FieldCondition, Leaf, const, copied, looked_up, dated, Alternative}
use Rattle.gw_interp.specs.Meaning.{IsFirst, Walked, meets, SourceMeans, look_up, LeafMeans, FirstText}
use Rattle.gw_interp.specs.Occurrences.{Occurrence}
use Rattle.gw_interp.specs.own.Borrowed.{scope, AreOf}

-- no text where there is no segment
abbrev pub texts_of : Option SegmentValue → Texts
texts_of None = texts.empty
texts_of (Some s) = s.at

-- the first of these repetitions, if there is one
abbrev pub IsFirstOne : (ℕ → Type 0) → Option ℕ → Type 0
IsFirstOne P None = ((rep : ℕ) × P rep) → ⊥
IsFirstOne P (Some rep) = IsFirst P rep

-- the first that is present of a field
abbrev pub IsFirstRep : Texts → ℕ → Option ℕ → Type 0
IsFirstRep m field = IsFirstOne (RepAt m field)

-- the first number behind this one at which this holds
pub record IsNext (P : ℕ → Type 0) (after n : ℕ) : Type 0 where
  pub holds : P n
  pub behind : after < n
  pub none_between : (k : ℕ) → after < k → k < n → P k → ⊥

-- the next of these behind it, if there is one
abbrev pub IsNextOne : (ℕ → Type 0) → ℕ → Option ℕ → Type 0
IsNextOne P after None = (k : ℕ) → after < k → P k → ⊥
IsNextOne P after (Some n) = IsNext P after n

abbrev pub current_texts : Option Repetition → ℕ → ℕ → List ℕ
current_texts None comp sub = []
current_texts (Some r) comp sub = text_of r.segment.at r.field r.rep comp sub

-- what is read in this message
abbrev pub walks : List SegmentValue → Reading → Walked
walks m r = record { message = m; scope = scope r.scope.now; current = current_texts r.current }

-- the rows give nothing for what is read
abbrev pub IsFault : Walked → Leaf → Type 0
IsFault w (const value) = ⊥
IsFault w (copied source) = ⊥
IsFault w (looked_up table source) = (from : List ℕ) × SourceMeans w source from × (look_up table from ≡ None)
IsFault w (dated digits source) = ⊥

-- the text of a leaf, or a fault
abbrev pub LeafGives : Walked → Leaf → Option (List ℕ) → Type 0
LeafGives w leaf None = IsFault w leaf
LeafGives w leaf (Some text) = LeafMeans w leaf text

-- a text or a fault, so that the leaves behind aren't asked
abbrev pub settles : Option (List ℕ) → Bool
settles None = true
settles (Some []) = false
settles (Some (b ∷ text)) = true

-- none of these leaves is a fault
abbrev pub NoFaultOf : Walked → List Alternative → Type 0
NoFaultOf w all = AllByRecursion (λ (o : Alternative). IsFault w o.leaf → ⊥) all

-- the first text that one of these leaves gives, or some leaf is a fault
abbrev pub FirstGives : Walked → List Alternative → Option (List ℕ) → Type 0
FirstGives w all None = NoFaultOf w all → ⊥
FirstGives w all (Some text) = FirstText w all text

-- the same of what a reading walks, whichever message that is of
abbrev pub ReadingGives : Reading → List Alternative → Option (List ℕ) → Type 0
ReadingGives r all found = (m : List SegmentValue) → AreOf m r.scope.now → FirstGives (walks m r) all found

-- a condition holds where these occurrences are walked, or there is none
abbrev pub is_met : List SegmentValue → List Occurrence → Option FieldCondition → Bool
is_met m scope None = true
is_met m scope (Some c) = meets m scope c

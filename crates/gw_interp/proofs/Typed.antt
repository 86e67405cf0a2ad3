-- Where the rules allow a map, what it gives can be cut for the target.
use Rattle.std.proofs.Common.{◌≡◌, ℕ, List, [], ◌∷◌}
use Rattle.gw_er7.specs.Message.{SegmentValue}
use Rattle.gw_profile.specs.Shapes.{FieldValue, ProfileValue}
use Rattle.gw_profile.specs.WellFormed.{WellFormed, table_names}
use Rattle.gw_validate.specs.Conforming.{Seq, Conforms, numbers}
use Rattle.gw_validate.specs.Trees.{Tree}
use Rattle.gw_validate.specs.Broken.{IsTreeOf}
use Rattle.gw_validate.proofs.Judged.{message_decided}
use Rattle.gw_resolve.specs.Places.{the_whole}
use Rattle.gw_resolve.specs.Resolved.{Rule, Resolved}
use Rattle.gw_check.specs.Levels.{level_failures, items_failures}
use Rattle.gw_check.specs.Typed.{IsTyped}
use Rattle.gw_resolve.specs.Lawful.{LawfulItems}
use Rattle.gw_interp.specs.Occurrences as occurrences
use Rattle.gw_interp.specs.Meaning.{Walked, GiveBy}
use Rattle.gw_interp.proofs.Splits.{nil_left, nil_right}
use Rattle.gw_interp.proofs.LevelsSound.{Scoped, FieldsSound}
use Rattle.gw_interp.proofs.Whole.{items_sound}
use Rattle.gw_interp.proofs.Trees.{is_level}

-- what the rules are shown of a map, as the checker keeps it
pub record Allows (source target : ProfileValue) (map : Resolved) : Type 0 where
  pub source_formed : WellFormed source
  pub target_formed : WellFormed target
  pub lawful : LawfulItems target.nodes map.items
  pub typed : IsTyped source target map

-- the whole message is walked
pub whole_scope : (source : ProfileValue) → WellFormed source → (m : List SegmentValue) (tree : Tree) → Conforms source m → IsTreeOf source m tree →
    Scoped source (table_names source.tables) m (the_whole source.nodes ∷ []) (occurrences.nodes tree ∷ [])
whole_scope source formed m tree conforms is =
    record {
      walks = (is_level source m tree source.nodes (numbers source.nodes m) is (message_decided source m formed.determined tree is conforms), tt);
      lawful = (record { segments = formed.segments; groups = formed.groups }, tt);
    }

module _ (source target : ProfileValue) (map : Resolved) (typed : IsTyped source target map) where
  pub level_passes : level_failures (the_whole source.nodes ∷ []) map.line 0 target.nodes map.items ≡ []
  level_passes =
      nil_left (level_failures (the_whole source.nodes ∷ []) map.line 0 target.nodes map.items) (items_failures source target (the_whole source.nodes ∷ []) target.nodes map.items) (nil_left _ _ typed.none_fails)

  pub items_pass : items_failures source target (the_whole source.nodes ∷ []) target.nodes map.items ≡ []
  items_pass =
      nil_right (level_failures (the_whole source.nodes ∷ []) map.line 0 target.nodes map.items) (items_failures source target (the_whole source.nodes ∷ []) target.nodes map.items) (nil_left _ _ typed.none_fails)

-- whatever is said of a segment, where the rules on fields keep it
pub seq_of : (source target : ProfileValue) (map : Resolved) → Allows source target map → (m : List SegmentValue) (tree : Tree) → Conforms source m → IsTreeOf source m tree →
    (Image : Walked → List ℕ → List Rule → SegmentValue → Type 0) (meets : List FieldValue → SegmentValue → Type 0) →
    FieldsSound source target (table_names source.tables) (table_names target.tables) m Image meets →
    (list : List SegmentValue) → GiveBy Image m (occurrences.nodes tree ∷ []) target.nodes map.items list → Seq (λ s. s.name) meets target.nodes list
seq_of source target map allowed m tree conforms is Image meets sound list give =
    items_sound source target (table_names source.tables) (table_names target.tables) m Image meets sound map.items
    (the_whole source.nodes ∷ []) (occurrences.nodes tree ∷ []) map.line target.nodes list (whole_scope source allowed.source_formed m tree conforms is)
    (record { segments = allowed.target_formed.segments; groups = allowed.target_formed.groups }) allowed.lawful allowed.typed.placed
    (level_passes source target map allowed.typed) (items_pass source target map allowed.typed) give

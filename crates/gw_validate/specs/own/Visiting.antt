-- The breaches that a walk over a segment visits, by the shapes that the program holds. Each has the numbers of its place in front.
use Rattle.std.specs.Prelude.{ℕ, List, [], ◌∷◌, Bool, map}
use Rattle.gw_er7.specs.declared.place.Place.{Place}
use Rattle.gw_er7.specs.Message.{Texts, numbers}
use Rattle.gw_profile.specs.declared.shape.SubShape.{SubShape}
use Rattle.gw_profile.specs.declared.shape.CompShape.{CompShape}
use Rattle.gw_profile.specs.declared.shape.FieldShape.{FieldShape}
use Rattle.gw_profile.specs.Seen.{Contents, profile_value, sub, comp as comp_value, field as field_value}
use Rattle.gw_validate.specs.declared.breach.Kind.{Kind}
use Rattle.gw_validate.specs.Kinds.{number_of}
use Rattle.gw_validate.specs.Breaches.{SubBreach, CompBreach, RepBreach, RepsBreach, FieldBreach, SegmentBreach}
use Rattle.gw_validate.specs.own.Least.{SubsBreach, CompsBreach}
use Rattle.gw_validate.specs.own.Gathering.{Under, Only}

-- of this kind at this place, where the test holds
abbrev pub AtPlace : Bool → Place → Kind → List ℕ → Type 0
AtPlace test place kind = Only test (place.field ∷ place.rep ∷ place.comp ∷ place.sub ∷ number_of kind ∷ [])

-- of the subcomponent at this place, with its text
abbrev pub AtSub : Contents → Place → SubShape → List ℕ → List ℕ → Type 0
AtSub profile place shape text = Under (numbers place) (SubBreach (profile_value profile) (sub shape) text)

-- of the subcomponents of the component at this place
abbrev pub AtSubs : Contents → Texts → Place → List SubShape → List ℕ → Type 0
AtSubs profile m place shapes =
    Under (place.field ∷ place.rep ∷ place.comp ∷ []) (SubsBreach (profile_value profile) m place.field place.rep place.comp (map sub shapes))

-- of a component of the repetition r of the field f
abbrev pub AtComp : Contents → Texts → ℕ → ℕ → CompShape → List ℕ → Type 0
AtComp profile m f r shape = Under (f ∷ r ∷ shape.number ∷ []) (CompBreach (profile_value profile) m f r (comp_value shape))

-- of its components
abbrev pub AtComps : Contents → Texts → ℕ → ℕ → List CompShape → List ℕ → Type 0
AtComps profile m f r shapes = Under (f ∷ r ∷ []) (CompsBreach (profile_value profile) m f r (map comp_value shapes))

-- of the repetition r of a field
abbrev pub AtRep : Contents → Texts → FieldShape → ℕ → List ℕ → Type 0
AtRep profile m shape r = Under (shape.number ∷ r ∷ []) (RepBreach (profile_value profile) m (field_value shape) r)

-- of its repetitions
abbrev pub AtReps : Contents → Texts → FieldShape → List ℕ → Type 0
AtReps profile m shape = Under (shape.number ∷ []) (RepsBreach (profile_value profile) m (field_value shape))

-- of a field
abbrev pub AtField : Contents → Texts → FieldShape → List ℕ → Type 0
AtField profile m shape = Under (shape.number ∷ []) (FieldBreach (profile_value profile) m (field_value shape))

-- of a segment's fields
abbrev pub AtFields : Contents → Texts → List FieldShape → List ℕ → Type 0
AtFields profile m shapes = SegmentBreach (profile_value profile) (map field_value shapes) m

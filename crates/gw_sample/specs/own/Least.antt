-- The least message of a profile: each element as often as it has to come, and each text `""`.
use Rattle.std.specs.Prelude.{◌≡◌, ℕ, zero, suc, List, [], ◌∷◌, ◌++◌, length, map, if◌then◌else◌}
use Rattle.std.specs.List.{AllByRecursion, flat_map}
use Rattle.std.specs.FinMap as texts
use Rattle.gw_er7.specs.declared.place.Place.{Place}
use Rattle.gw_er7.specs.Entries.{Entry}
use Rattle.gw_er7.specs.Message.{SegmentValue, IsEntry, IsMessage, numbers}
use Rattle.gw_profile.specs.Among.{Distinct}
use Rattle.gw_profile.specs.Shapes as shapes
use Rattle.gw_profile.specs.Shapes.{SubValue, CompValue, FieldValue, Forest, nothing, segment, group, ProfileValue}
use Rattle.gw_profile.specs.WellFormed.{LawfulSegment, EachSegment, IsHeader, IsOther}
use Rattle.gw_validate.specs.Breaches.{is_required}
use Rattle.gw_validate.specs.Conforming.{Conforms}
use Rattle.gw_sample.specs.Samples.{IsReadAgain}

-- field, repetition, component, subcomponent
abbrev pub Key : Type 0
Key = List ℕ

abbrev pub null : List ℕ
null = 34 ∷ 34 ∷ []

-- ---- the places of the texts

abbrev pub sub_keys : ℕ → ℕ → ℕ → SubValue → List Key
sub_keys f r c s = if is_required s.usage then (f ∷ r ∷ c ∷ s.number ∷ []) ∷ [] else []

-- where there is none, this one
abbrev pub or_else : Key → List Key → List Key
or_else key [] = key ∷ []
or_else key (k ∷ ks) = k ∷ ks

-- a component that has to come, and none of its subcomponents, has a text at one that no profile lists
abbrev pub comp_keys : ℕ → ℕ → CompValue → List Key
comp_keys f r k =
    if is_required k.usage then or_else (f ∷ r ∷ k.number ∷ 100 ∷ []) (flat_map (sub_keys f r k.number) k.subs) else []

-- and so has a repetition at such a component
abbrev pub rep_keys : FieldValue → ℕ → List Key
rep_keys v r = or_else (v.number ∷ r ∷ 100 ∷ 1 ∷ []) (flat_map (comp_keys v.number r) v.comps)

abbrev pub reps_keys : FieldValue → ℕ → List Key
reps_keys v zero = []
reps_keys v (suc r) = reps_keys v r ++ rep_keys v (suc r)

abbrev pub field_keys : FieldValue → List Key
field_keys v = reps_keys v v.card.min

abbrev pub keys_of : List FieldValue → List Key
keys_of vs = flat_map field_keys vs

-- ---- the message

abbrev pub entries_of : List Key → List Entry
entries_of ks = map (λ k. (k, null)) ks

-- a segment with `""` at each of these places
abbrev pub with_nulls : List ℕ → List Key → SegmentValue
with_nulls name ks = record { name = name; at = texts.from_entries (entries_of ks) }

abbrev pub one_of : shapes.SegmentValue → SegmentValue
one_of s = with_nulls s.name (keys_of s.fields)

abbrev pub several_of : {A : Type 0} → ℕ → List A → List A
several_of zero l = []
several_of (suc k) l = l ++ several_of k l

abbrev pub least : Forest → List SegmentValue
least nothing = []
least (segment s rest) = several_of s.card.min (one_of s ∷ []) ++ least rest
least (group g nodes rest) = several_of g.card.min (least nodes) ++ least rest

-- ---- what is made

abbrev pub keys : List Place → List Key
keys = map numbers

-- these places were put behind the others
abbrev pub AreListed : List Place → List Place → List Key → Type 0
AreListed old new ks = keys new ≡ keys old ++ ks

-- this place was put behind the others where none was put behind the first ones
abbrev pub HasOneBehind : ℕ → Key → List Place → List Place → Type 0
HasOneBehind before at old new = (first ks : List Key) → length first ≡ before → keys old ≡ first ++ ks → keys new ≡ first ++ or_else at ks

-- places for `""` in a segment whose first field is this one, each once
pub record ArePlaces (first : ℕ) (ks : List Key) : Type 0 where
  pub each : AllByRecursion (IsEntry first) (entries_of ks)
  pub distinct : Distinct ks

-- the segments of nodes may follow those of a message: none is the header
pub record MayFollow (f : Forest) (old : List SegmentValue) : Type 0 where
  pub tables : List (List ℕ)
  pub lawful : EachSegment (LawfulSegment tables) f
  pub others : EachSegment IsOther f
  pub message : IsMessage old

-- the header, and nodes whose segments may follow it
pub record MayHead (s : shapes.SegmentValue) (rest : Forest) : Type 0 where
  pub tables : List (List ℕ)
  pub lawful : LawfulSegment tables s
  pub header : IsHeader s
  pub each : EachSegment (LawfulSegment tables) rest
  pub others : EachSegment IsOther rest

-- these follow, and it is still a message
pub record Adds (l old new : List SegmentValue) : Type 0 where
  pub added : new ≡ old ++ l
  pub message : IsMessage new

-- a message that conforms and reads as itself again
pub record Fits (p : ProfileValue) (m : List SegmentValue) : Type 0 where
  pub conforms : Conforms p m
  pub again : IsReadAgain m

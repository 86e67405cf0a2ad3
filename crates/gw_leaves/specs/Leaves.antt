-- What is known of the texts that a leaf gives: whether one is there, and which it can be (HL7 v2.5.1 chapter 2, 2.12: usage, length, table).
use Rattle.std.specs.Prelude.{◌≡◌, ◌⊎◌, ◌≤◌, IsSomeAnd, ℕ, Bool, true, false, ◌&&◌, ◌||◌, not, nat_lt, nat_le, if◌then◌else◌, List, [], ◌∷◌, ◌++◌, map, filter, filter_map, Option, Some, None, is_some, option_map, option_to_list, unwrap_or}
use Rattle.std.specs.List.{list_any}
use Rattle.gw_profile.specs.declared.shape.Usage.{Usage}
use Rattle.gw_profile.specs.declared.shape.Usage.TheVariants.{R, X}
use Rattle.gw_profile.specs.Among.{Among}
use Rattle.gw_profile.specs.Shapes.{SubValue, CompValue, FieldValue, ProfileValue}
use Rattle.gw_profile.specs.declared.shape.Count.{Count}
use Rattle.gw_profile.specs.declared.shape.Count.TheVariants.{Octets, Characters}
use Rattle.gw_profile.specs.Lengths.{measure, len_count}
use Rattle.gw_profile.specs.Fault.{is_among}
use Rattle.gw_profile.specs.Numbered.{field_of, comp_of, sub_of}
use Rattle.gw_profile.specs.Value.{table_of}
use Rattle.gw_leaves.specs.declared.shape.Presence.{Presence}
use Rattle.gw_leaves.specs.declared.shape.Presence.TheVariants.{Always, Maybe, Never}
use Rattle.gw_resolve.specs.Intervals.{is_sure, is_never}
use Rattle.gw_resolve.specs.Places.{Element, Known, known}
use Rattle.gw_maplang.specs.Shapes.{Row, Rows, second_of}
use Rattle.gw_resolve.specs.Resolved.{Source, of_field, of_current, Reference, Leaf, const, copied, looked_up, dated, Alternative, At, alternatives}

-- ---- presence

-- required is there wherever its parent is, forbidden never
abbrev pub by_usage : Option Usage → Presence
by_usage (Some R) = Always
by_usage (Some X) = Never
by_usage usage = Maybe

abbrev pub is_always : Presence → Bool
is_always Always = true
is_always presence = false

abbrev pub is_absent : Presence → Bool
is_absent Never = true
is_absent presence = false

-- of something that is there only where two things are
abbrev pub both : Presence → Presence → Presence
both Never b = Never
both Always b = b
both Maybe Never = Never
both Maybe b = Maybe

abbrev pub comp_presence : Option CompValue → Presence
comp_presence c = by_usage (option_map (λ (d : CompValue). d.usage) c)

abbrev pub sub_usage : Option SubValue → Presence
sub_usage s = by_usage (option_map (λ (t : SubValue). t.usage) s)

-- of a subcomponent where its component is there: below one that never is, none is
abbrev pub sub_presence : Option CompValue → Option SubValue → Presence
sub_presence c s = if is_absent (comp_presence c) then Never else sub_usage s

-- of a subcomponent in a repetition that is there
abbrev pub rep_presence : Option FieldValue → ℕ → ℕ → Presence
rep_presence f comp sub = both (comp_presence (comp_of f comp)) (sub_usage (sub_of (comp_of f comp) sub))

-- of the first repetition of a field
abbrev pub field_presence : Known → Option FieldValue → Presence
field_presence k None = if is_never k.count.greatest then Never else Maybe
field_presence k (Some f) =
    if is_never k.count.greatest then Never else both (by_usage (Some f.usage)) (if is_sure k.count && nat_le 1 f.card.min then Always else Maybe)

-- ---- values

-- the listed texts, or any that by this count aren't longer than the length, if there is one
pub data Values : Type 0 where
  any : (count : Count) (len : Option ℕ) → Values
  listed : (texts : List (List ℕ)) → Values

pub record Shape : Type 0 where
  pub presence : Presence
  pub values : Values

abbrev pub is_short : Count → Option ℕ → List ℕ → Bool
is_short count None text = true
is_short count (Some most) text = nat_le (measure count text) most

-- the text is one of the values
abbrev pub IsOf : Values → List ℕ → Type 0
IsOf (any count len) text = is_short count len text ≡ true
IsOf (listed texts) text = Among text texts

-- with a table its texts that aren't too long, else any
abbrev pub sub_values : ProfileValue → Option SubValue → Values
sub_values profile None = any (len_count profile) None
sub_values profile (Some s) = go s.table
  where
    go : Option (List ℕ) → Values
    go None = any (len_count profile) s.len
    go (Some name) = listed (filter (is_short (len_count profile) s.len) (unwrap_or (table_of name profile.tables) []))

abbrev pub or_otherwise : Option (List ℕ) → Option (List ℕ) → Option (List ℕ)
or_otherwise None otherwise = otherwise
or_otherwise (Some text) otherwise = Some text

-- what the rows give for a text
abbrev pub given : Rows → List ℕ → Option (List ℕ)
given table text = or_otherwise (second_of text table.rows) table.other

abbrev pub given_values : Rows → Values → List (List ℕ)
given_values table (any count len) = map (λ (r : Row). r.second) table.rows ++ option_to_list table.other
given_values table (listed texts) = filter_map (given table) texts

-- a text of the source has no row, as far as is known
abbrev pub has_no_row : Rows → Values → Bool
has_no_row table (any count len) = true
has_no_row table (listed texts) = list_any (λ text. not (is_some (second_of text table.rows))) texts

-- ---- the shape of a leaf

-- what can be read: the source profile, what is walked, and the field whose repetition is walked
pub record Sources : Type 0 where
  pub profile : ProfileValue
  pub scope : List Element
  pub current : Option FieldValue

abbrev pub at_field : Sources → Reference → Option FieldValue
at_field s from = field_of (known s.scope from.place).fields from.field

-- of the first repetition of the field of a reference
abbrev pub reference_presence : Sources → Reference → Presence
reference_presence s from = field_presence (known s.scope from.place) (at_field s from)

abbrev pub source_shape : Sources → Source → Shape
source_shape s (of_field from comp sub) =
    record {
      presence = both (field_presence (known s.scope from.place) (at_field s from)) (rep_presence (at_field s from) comp sub);
      values = sub_values s.profile (sub_of (comp_of (at_field s from) comp) sub);
    }
source_shape s (of_current comp sub) =
    record { presence = rep_presence s.current comp sub; values = sub_values s.profile (sub_of (comp_of s.current comp) sub) }

-- of a text that is taken from a field
abbrev pub presence_of : Sources → Reference → ℕ → ℕ → Presence
presence_of s from comp sub = (source_shape s (of_field from comp sub)).presence

-- its segment is always there, its field is required and comes at least once, and its component and subcomponent are required
abbrev pub IsRequiredAt : Sources → Reference → ℕ → ℕ → Type 0
IsRequiredAt s from comp sub =
    (is_never (known s.scope from.place).count.greatest ≡ false) × (1 ≤ (known s.scope from.place).count.least)
    × IsSomeAnd (at_field s from) (λ f. (f.usage ≡ R) × (1 ≤ f.card.min))
    × IsSomeAnd (comp_of (at_field s from) comp) (λ c. c.usage ≡ R)
    × IsSomeAnd (sub_of (comp_of (at_field s from) comp) sub) (λ t. t.usage ≡ R)

-- its segment is never there, or the field, the component or the subcomponent is forbidden
abbrev pub IsForbiddenAt : Sources → Reference → ℕ → ℕ → Type 0
IsForbiddenAt s from comp sub =
    (is_never (known s.scope from.place).count.greatest ≡ true)
    ⊎ IsSomeAnd (at_field s from) (λ f. f.usage ≡ X)
    ⊎ IsSomeAnd (comp_of (at_field s from) comp) (λ c. c.usage ≡ X)
    ⊎ IsSomeAnd (sub_of (comp_of (at_field s from) comp) sub) (λ t. t.usage ≡ X)

-- of a text that may be left out
abbrev pub perhaps : Presence → Presence
perhaps Never = Never
perhaps presence = Maybe

abbrev pub leaf_shape : Sources → Leaf → Shape
leaf_shape s (const text) = record { presence = Always; values = listed (text ∷ []) }
leaf_shape s (copied source) = source_shape s source
leaf_shape s (looked_up table source) =
    record { presence = (source_shape s source).presence; values = listed (given_values table (source_shape s source).values) }
leaf_shape s (dated digits source) =
    record { presence = perhaps (source_shape s source).presence; values = any Octets (Some digits.most) }

-- of the first of two texts that is there
abbrev pub either : Presence → Presence → Presence
either Always b = Always
either Never b = b
either Maybe Always = Always
either Maybe b = Maybe

-- of the first text that one of these leaves gives
abbrev pub first_presence : Sources → List Alternative → Presence
first_presence s [] = Never
first_presence s (o ∷ os) = either (leaf_shape s o.leaf).presence (first_presence s os)

-- of a place: always there where one of its leaves is, never where none ever is
abbrev pub at_presence : Sources → At → Presence
at_presence s a = first_presence s (alternatives a)

-- ---- what a target subcomponent asks of them

-- a value may be missing from the table
abbrev pub may_be_unlisted : Values → Option (List (List ℕ)) → Bool
may_be_unlisted values None = false
may_be_unlisted (any count len) (Some table) = true
may_be_unlisted (listed texts) (Some table) = list_any (λ text. not (is_among text table)) texts

-- A text that isn't longer than the length by one count may be longer than the most by the other.
-- A text has no more characters than octets; its characters set no limit to its octets.
abbrev pub may_exceed : Count → ℕ → Count → ℕ → Bool
may_exceed Characters len Octets most = true
may_exceed count len to most = nat_lt most len

-- a value may be longer than the length, by the count of the target
abbrev pub may_be_long : Count → Values → Option ℕ → Bool
may_be_long to values None = false
may_be_long to (any count None) (Some most) = true
may_be_long to (any count (Some len)) (Some most) = may_exceed count len to most
may_be_long to (listed texts) (Some most) = list_any (λ text. nat_lt most (measure to text)) texts

-- what the usage asks of a presence
abbrev pub meets : Usage → Presence → Bool
meets R p = is_always p
meets X p = is_absent p
meets usage p = true

-- what stands there always meets the subcomponent, with these values of its table and the count of its profile
abbrev pub is_included : Count → Shape → SubValue → Option (List (List ℕ)) → Bool
is_included to shape s table =
    meets s.usage shape.presence && (is_absent shape.presence || (not (may_be_unlisted shape.values table) && not (may_be_long to shape.values s.len)))

-- what stands there meets the usage, and is never there or has only values of the table that aren't too long
abbrev pub MeetsSub : Count → Shape → SubValue → Option (List (List ℕ)) → Type 0
MeetsSub to shape s table =
    (s.usage ≡ R → shape.presence ≡ Always) × (s.usage ≡ X → shape.presence ≡ Never)
    × ((shape.presence ≡ Never) ⊎ ((may_be_unlisted shape.values table ≡ false) × (may_be_long to shape.values s.len ≡ false)))

-- Texts of the source against tables of the target, whatever the length at which a place reads them.
use Rattle.std.specs.Prelude.{◌≡◌, if◌then◌else◌, ◌∷◌, ℕ, Bool, true, false, ◌&&◌, ◌||◌, not, nat_lt, nat_le, List, [], ◌++◌, map, filter, Option, Some, None, is_some, option_copied, option_and_then, option_map, option_to_list, unwrap_or, bytes_eq}
use Rattle.std.specs.List.{list_any}
use Rattle.std.specs.Map.{lookup}
use Rattle.std.specs.Option.{option_eq, IfSome}
use Rattle.std.specs.Arc.{arc_value}
use Rattle.std.specs.declared.alloc.Global.{Global}
use Rattle.std.specs.declared.sync.Arc.{Arc}
use Rattle.std.specs.Global.{Vec}
use denote.Ref.{Bor}
use Rattle.gw_profile.specs.Shapes.{SubValue, TableValue, ProfileValue}
use Rattle.gw_profile.specs.declared.shape.Count.{Count}
use Rattle.gw_profile.specs.Lengths.{measure, len_count}
use Rattle.gw_profile.specs.Fault.{is_among}
use Rattle.gw_profile.specs.Seen as profiles
use Rattle.gw_profile.specs.Seen.{profile_value}
use Rattle.gw_profile.specs.Value.{table_of as table_in}
use Rattle.gw_maplang.specs.Seen as seen_maps
use Rattle.gw_maplang.specs.Seen.{now}
use Rattle.gw_maplang.specs.Shapes as maps
use Rattle.gw_resolve.specs.Naming.{no_rows}
use Rattle.gw_leaves.specs.Leaves.{Values, any, listed, is_short, given, given_values, has_no_row}
use Rattle.gw_leaves.specs.Context.{ContextValue, context_of}
use Rattle.gw_leaves.specs.Texts.{rows_value}
use Rattle.gw_leaves.specs.declared.comparison.Found.{Found}
use Rattle.gw_leaves.specs.declared.compared.Compared.{Compared}
use Rattle.gw_leaves.specs.declared.comparison.LookedUp.{LookedUp}

-- ---- what is read at a place

abbrev pub table_of : Option SubValue → Option (List ℕ)
table_of sub = option_and_then (λ (s : SubValue). s.table) sub

abbrev pub len_of : Option SubValue → Option ℕ
len_of sub = option_and_then (λ (s : SubValue). s.len) sub

-- the values of the table of this name, if one is named
abbrev pub values_named : List TableValue → Option (List ℕ) → List (List ℕ)
values_named tables name = unwrap_or (option_and_then (λ n. table_in n tables) name) []

-- those that aren't longer, or any texts that aren't
abbrev pub table_texts : ProfileValue → Option (List ℕ) → Option ℕ → Values
table_texts profile None len = any (len_count profile) len
table_texts profile (Some name) len = listed (filter (is_short (len_count profile) len) (values_named profile.tables (Some name)))

-- the rows of the table of this name
abbrev pub rows_named : List maps.TableValue → List ℕ → maps.Rows
rows_named tables name = unwrap_or (maps.table_of name tables) no_rows

-- texts as they are, or what the rows of the table of this name give for them
abbrev pub rowed : List maps.TableValue → Option (List ℕ) → Values → Values
rowed tables None values = values
rowed tables (Some name) values = listed (given_values (rows_named tables name) values)

-- a length isn't greater, where there is a greatest
abbrev pub fits : Option ℕ → ℕ → Bool
fits None n = true
fits (Some most) n = nat_le n most

-- a text may have no row, and nothing stands for it
abbrev pub is_unrowed : maps.Rows → Values → Bool
is_unrowed rows values = not (is_some rows.other) && has_no_row rows values

abbrev pub is_rowed : maps.Rows → List ℕ → Bool
is_rowed rows text = is_some (maps.second_of text rows.rows)

abbrev pub is_lacking : maps.Rows → List ℕ → Bool
is_lacking rows text = not (is_rowed rows text)

-- one of these texts that isn't longer has no row
abbrev pub some_unrowed : Count → Option ℕ → maps.Rows → List (List ℕ) → Bool
some_unrowed count len rows texts = list_any (λ t. fits len (measure count t) && is_lacking rows t) texts

-- ---- texts by their lengths

abbrev pub Sized : Type 0
Sized = ℕ × Vec ℕ

abbrev pub sized : Sized → ℕ × List ℕ
sized p = (p.0, p.1.items)

-- the length of the first of these texts that passes a test
abbrev pub first_length : (List ℕ → Bool) → List Sized → Option ℕ
first_length test [] = None
first_length test (p ∷ ps) = if test p.1.items then Some p.0 else first_length test ps

-- there is a length, and it isn't greater
abbrev pub is_within : Option ℕ → Option ℕ → Bool
is_within len None = false
is_within len (Some size) = fits len size

-- whatever the test: the first of the texts that passes it is the shortest one
abbrev pub IsListing : Count → List (List ℕ) → List Sized → Type 0
IsListing count texts all = (test : List ℕ → Bool) (len : Option ℕ) → is_within len (first_length test all) ≡ list_any (λ t. fits len (measure count t) && test t) texts

-- it isn't one of these values
abbrev pub is_missing : List (List ℕ) → List ℕ → Bool
is_missing values text = not (is_among text values)

-- of these, the first that has no row in the table of this name
abbrev pub unrowed_by : List maps.TableValue → Option (List ℕ) → List Sized → Option ℕ
unrowed_by tables name all = option_and_then (λ n. first_length (is_lacking (rows_named tables n)) all) name

-- the shortest of the texts that have no row has this length
abbrev pub IsShortest : Count → List (List ℕ) → maps.Rows → Option ℕ → Type 0
IsShortest count texts rows shortest = (len : Option ℕ) → is_within len shortest ≡ some_unrowed count len rows texts

-- ---- where texts are from

-- the table of the map in which they are looked up, and that of the source which lists them
abbrev pub Origin : Type 0
Origin = Option (Bor (List ℕ)) × Option (Bor (List ℕ))

-- any text can be read
abbrev pub is_any : Option (List ℕ) → Option (List ℕ) → Bool
is_any None None = true
is_any rows table = false

abbrev pub texts_in : Values → List (List ℕ)
texts_in (any count len) = []
texts_in (listed texts) = texts

-- what is given for texts that aren't longer
abbrev pub given_at : ContextValue → Option (List ℕ) → Option (List ℕ) → Option ℕ → List (List ℕ)
given_at s rows table len = texts_in (rowed s.map.tables rows (table_texts (profile_value s.source) table len))

-- as it is, or by these rows
abbrev pub given_by : Option maps.Rows → List ℕ → Option (List ℕ)
given_by None text = Some text
given_by (Some rows) text = given rows text

-- ---- what is asked of it

-- it isn't in these values of the target, and is longer than the most, where there is one
abbrev pub is_outside : Count → List (List ℕ) → Option ℕ → List ℕ → Bool
is_outside to values None text = not (is_among text values)
is_outside to values (Some most) text = not (is_among text values) && nat_lt most (measure to text)

-- of the target's table of this name, if one is named
abbrev pub is_outside_named : ContextValue → Option (List ℕ) → Option ℕ → List ℕ → Bool
is_outside_named s name = is_outside s.target.count (values_named s.target.tables name)

abbrev pub holds_of : (List ℕ → Bool) → Option (List ℕ) → Bool
holds_of test None = false
holds_of test (Some text) = test text

-- ---- as the program holds it

-- a length is greater than the most, where there is one
abbrev pub exceeds : Option ℕ → ℕ → Bool
exceeds None n = true
exceeds (Some most) n = nat_lt most n

-- lengths of texts by the count of the source, each with that of what is given for it by the count of the target
abbrev pub Lengths : Type 0
Lengths = List (ℕ × ℕ)

abbrev pub some_length : Option ℕ → Option ℕ → Lengths → Bool
some_length len most lengths = list_any (λ l. fits len l.0 && exceeds most l.1) lengths

-- a table that is named isn't asked for together with what is longest
abbrev pub Asks : Option (List ℕ) → Option ℕ → Type 0
Asks name most = is_some name ≡ true → most ≡ None

-- what is given for a text of this length was added
abbrev pub Adds : Count → List (List ℕ) → Lengths → Lengths → ℕ → Option (List ℕ) → Type 0
Adds to values old new size text = (len most : Option ℕ) → some_length len most new ≡ (some_length len most old || (fits len size && holds_of (is_outside to values most) text))

-- where no count says how long a text is, it is as short as one likes
abbrev pub size_of : Option Count → List ℕ → ℕ
size_of None text = 0
size_of (Some count) text = measure count text

-- what is given for each of these texts, as it is or by rows
abbrev pub AreOfValues : Option Count → Count → List (List ℕ) → Option maps.Rows → List (Vec ℕ) → Lengths → Type 0
AreOfValues count to values rows texts lengths = (len most : Option ℕ) →
    some_length len most lengths ≡ list_any (λ v. fits len (size_of count v.items) && holds_of (is_outside to values most) (given_by rows v.items)) texts

-- of these, the first that isn't one of the values
abbrev pub AreUnlisted : List (List ℕ) → List Sized → Lengths → Type 0
AreUnlisted values all lengths = (len : Option ℕ) → some_length len None lengths ≡ is_within len (first_length (is_missing values) all)

-- what the rows give for each of these firsts that is one of the texts
abbrev pub AreOfFirsts : Count → Count → List (List ℕ) → maps.Rows → List (List ℕ) → List (Vec ℕ) → Lengths → Type 0
AreOfFirsts count to values rows texts firsts lengths = (len most : Option ℕ) →
    some_length len most lengths ≡ list_any (λ v. is_among v.items texts && (fits len (measure count v.items) && holds_of (is_outside to values most) (given rows v.items))) firsts

-- one of these is one of the texts, and was added
abbrev pub AddsFirst : Count → Count → List (List ℕ) → maps.Rows → List (List ℕ) → Lengths → Lengths → List ℕ → Type 0
AddsFirst count to values rows texts old new text = (len most : Option ℕ) →
    some_length len most new ≡ (some_length len most old || (is_among text texts && (fits len (measure count text) && holds_of (is_outside to values most) (given rows text))))

-- what rows give for each of these texts
abbrev pub AreLookedUp : Count → Count → List (List ℕ) → maps.Rows → List (List ℕ) → Lengths → Type 0
AreLookedUp count to values rows texts lengths = (len most : Option ℕ) →
    some_length len most lengths ≡ list_any (λ t. fits len (measure count t) && holds_of (is_outside to values most) (given rows t)) texts

-- all that rows give, where texts are looked up in some
abbrev pub all_given : Option maps.Rows → List (List ℕ)
all_given None = []
all_given (Some rows) = map (λ (r : maps.Row). r.second) rows.rows ++ option_to_list rows.other

abbrev pub AreOfRows : Count → List (List ℕ) → Option maps.Rows → Lengths → Type 0
AreOfRows to values rows lengths = (len most : Option ℕ) → some_length len most lengths ≡ list_any (is_outside to values most) (all_given rows)

-- the table of the target, where there is one
abbrev pub some_values : Option (Bor (List (List ℕ))) → List (List ℕ)
some_values table = unwrap_or (option_copied table) []

-- the same of texts as the program holds them
abbrev pub AddsFirstOf : LookedUp → Count → List (List ℕ) → Lengths → Lengths → List ℕ → Type 0
AddsFirstOf t to values = AddsFirst t.count to values (rows_value t.rows) (some_values t.listed)

abbrev pub AreFirstsOf : LookedUp → Count → List (List ℕ) → List (Vec ℕ) → Lengths → Type 0
AreFirstsOf t to values = AreOfFirsts t.count to values (rows_value t.rows) (some_values t.listed)

abbrev pub AreAllOf : LookedUp → Count → List (List ℕ) → Lengths → Type 0
AreAllOf t to values = AreLookedUp t.count to values (rows_value t.rows) (some_values t.listed)

-- ---- what is kept of comparisons

-- where texts are from, and the table of the target with which they are compared, by its name
abbrev pub Comparison : Type 0
Comparison = Origin × Option (Bor (List ℕ))

abbrev pub names_eq : Bor (List ℕ) → Bor (List ℕ) → Bool
names_eq x y = bytes_eq x.now y.now

abbrev pub comparisons_eq : Comparison → Comparison → Bool
comparisons_eq x y = (option_eq names_eq x.0.0 y.0.0 && option_eq names_eq x.0.1 y.0.1) && option_eq names_eq x.1 y.1

-- of this comparison: a text that isn't longer than the length is given something that isn't in the target's table, and is longer than the most
abbrev pub some_given : ContextValue → Comparison → Option ℕ → Option ℕ → Bool
some_given s c len most = list_any (is_outside_named s (now c.1) most) (given_at s (now c.0.0) (now c.0.1) len)

-- a value of the source's table of one name that isn't longer has no row in the map's table of the other
abbrev pub some_value_unrowed : ContextValue → List ℕ → List ℕ → Option ℕ → Bool
some_value_unrowed s rows table len = some_unrowed s.source.count len (rows_named s.map.tables rows) (values_named s.source.tables (Some table))

-- these are the lengths where what is given isn't in the target's table
abbrev pub IsCompared : ContextValue → Comparison → Lengths → Type 0
IsCompared s c lengths = (len most : Option ℕ) → Asks (now c.1) most →
    some_length len most lengths ≡ some_given s c len most

-- the values of the source's table of this name, by their lengths
abbrev pub IsListed : profiles.Contents → Option (List ℕ) → List Sized → Type 0
IsListed source name all = IsListing source.count (values_named source.tables name) all

-- what is found by a comparison
pub record IsFound (s : ContextValue) (c : Comparison) (found : Found) : Type 0 where
  pub lengths : IsCompared s c found.lengths.keys
  pub unrowed : (name : List ℕ) → now c.0.0 ≡ Some name → IsShortest s.source.count (values_named s.source.tables (now c.0.1)) (rows_named s.map.tables name) found.unrowed

-- what is found of a comparison is so
abbrev pub AreKept : ContextValue → List (Comparison × Arc Found Global) → Type 0
AreKept s known = (c : Comparison) (found : Arc Found Global) → Some found ≡ lookup (comparisons_eq c) known → IsFound s c (arc_value found)

-- ---- what is kept of copies, whatever the map

-- the table of the source whose texts are copied, and that of the target, if one is named
abbrev pub Copied : Type 0
Copied = Vec ℕ × Option (Vec ℕ)

abbrev pub texts_eq : Vec ℕ → Vec ℕ → Bool
texts_eq x y = bytes_eq x.items y.items

-- a name, if there is one
abbrev pub name_of : Option (Vec ℕ) → Option (List ℕ)
name_of name = option_map (λ (v : Vec ℕ). v.items) name

abbrev pub copies_eq : Copied → Copied → Bool
copies_eq x y = texts_eq x.0 y.0 && option_eq texts_eq x.1 y.1

-- the comparison is of these tables, without rows
pub record IsCopyOf (c : Comparison) (k : Copied) : Type 0 where
  pub rows : now c.0.0 ≡ None
  pub listed : now c.0.1 ≡ Some k.0.items
  pub name : now c.1 ≡ name_of k.1

-- what is kept is found by each comparison of its tables
abbrev pub AreCopies : profiles.Contents → profiles.Contents → List (Copied × Arc Found Global) → Type 0
AreCopies source target copies = (k : Copied) (found : Arc Found Global) → Some found ≡ lookup (copies_eq k) copies
    → (map : seen_maps.Contents) (c : Comparison) → IsCopyOf c k → IsFound (context_of source target map) c (arc_value found)

-- the tables of the source that were listed, by their names
abbrev pub AreLists : profiles.Contents → List (Option (Vec ℕ) × Arc (Vec Sized) Global) → Type 0
AreLists source lists = (name : Option (Vec ℕ)) (all : Arc (Vec Sized) Global) → Some all ≡ lookup (option_eq texts_eq name) lists → IsListed source (name_of name) (arc_value all).items

-- what is found of the tables of these profiles is so
pub record AreCompared (source target : profiles.Contents) (compared : Compared) : Type 0 where
  pub copies : AreCopies source target compared.copies.entries
  pub lists : AreLists source compared.lists.entries

-- what was kept of a comparison is what it finds
abbrev pub IsRecalled : Compared → Comparison → Option (Arc Found Global) → Type 0
IsRecalled compared c recalled = (s : ContextValue) → AreCompared s.source s.target compared → IfSome recalled (λ f. IsFound s c (arc_value f))

-- what a comparison finds is kept beside what was
abbrev pub Keeps : Compared → Compared → Comparison → Found → Type 0
Keeps old new c found = (s : ContextValue) → IsFound s c found → AreCompared s.source s.target old → AreCompared s.source s.target new

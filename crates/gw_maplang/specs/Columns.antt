-- Tables as their lines say them, and the tables of a map that their columns are.
use Rattle.std.specs.Prelude.{ℕ, zero, suc, ◌+◌, ◌-◌, Bool, true, false, ◌&&◌, nat_le, if◌then◌else◌, List, [], ◌∷◌, ◌++◌, map, Option, Some, None, is_some, bytes_eq}
use Rattle.std.specs.List.{before_first}
use Rattle.std.specs.Option.{option_map}
use Rattle.gw_lines.specs.Spelled.{is_name, is_dot}
use Rattle.gw_maplang.specs.Shapes.{Row, row_of, TableValue}

-- a row: a value, and what stands for it in each column
pub record WideRow : Type 0 where
  pub first : List ℕ
  pub seconds : List (List ℕ)

-- how many columns a table has (0 so far, where no row and no `else` says it), its rows, and what stands in each column for each other value
pub record WideRows : Type 0 where
  pub width : ℕ
  pub rows : List WideRow
  pub other : Option (List (List ℕ))

pub record WideTable : Type 0 where
  pub name : List ℕ
  pub width : ℕ
  pub rows : List WideRow
  pub other : Option (List (List ℕ))

abbrev pub wide_row_of : List ℕ → List (List ℕ) → WideRow
wide_row_of first seconds = record { first = first; seconds = seconds }

-- a table of which no row and no `else` is said
abbrev pub new_table : List ℕ → WideTable
new_table name = record { name = name; width = 0; rows = []; other = None }

-- the first row or `else` says how many columns there are
abbrev pub widened : ℕ → ℕ → ℕ
widened zero count = count
widened (suc width) count = suc width

-- ---- a column, from 0

abbrev pub value_in : ℕ → List (List ℕ) → List ℕ
value_in k [] = []
value_in zero (value ∷ values) = value
value_in (suc k) (value ∷ values) = value_in k values

abbrev pub row_in : ℕ → WideRow → Row
row_in k r = row_of r.first (value_in k r.seconds)

-- the column, as a table of this name
abbrev pub column : List ℕ → ℕ → WideTable → TableValue
column name k t = record { name = name; rows = map (row_in k) t.rows; other = option_map (value_in k) t.other }

-- T.1 is the name of column 0 of the table T
abbrev pub column_name : List ℕ → ℕ → List ℕ
column_name name k = name ++ 46 ∷ (49 + k) ∷ []

-- this number of columns, from the first, under their numbers
abbrev pub numbered : ℕ → WideTable → List TableValue
numbered zero t = []
numbered (suc k) t = numbered k t ++ column (column_name t.name k) k t ∷ []

-- A table is its first column. In the second language each column is a table too.
abbrev pub columns : Bool → WideTable → List TableValue
columns second t = column t.name 0 t ∷ (if second then numbered t.width t else [])

abbrev pub all_columns : Bool → List WideTable → List TableValue
all_columns second [] = []
all_columns second (t ∷ tables) = columns second t ++ all_columns second tables

-- ---- the name of a table, or of a column

-- what stands behind the first such byte, where there is one
abbrev pub behind_first : (ℕ → Bool) → List ℕ → Option (List ℕ)
behind_first is_end [] = None
behind_first is_end (b ∷ bytes) = if is_end b then Some bytes else behind_first is_end bytes

abbrev pub column_number : List ℕ → Option ℕ
column_number [] = None
column_number (b ∷ []) = if nat_le 49 b then (if nat_le b 57 then Some (b - 48) else None) else None
column_number (b ∷ c ∷ bytes) = None

-- no number, or one from 1 to 9
abbrev pub is_numbered : Option (List ℕ) → Bool
is_numbered None = true
is_numbered (Some bytes) = is_some (column_number bytes)

-- TABLE or TABLE.K
abbrev pub is_table_word : List ℕ → Bool
is_table_word bytes = is_name (before_first is_dot bytes) && is_numbered (behind_first is_dot bytes)

-- how many columns the table of this name has
abbrev pub width_of : List ℕ → List WideTable → Option ℕ
width_of name [] = None
width_of name (t ∷ tables) = if bytes_eq name t.name then Some t.width else width_of name tables

abbrev pub is_within : Option ℕ → ℕ → Bool
is_within None width = false
is_within (Some k) width = nat_le k width

abbrev pub has_column : Option (List ℕ) → Option ℕ → Bool
has_column number None = false
has_column None (Some width) = true
has_column (Some bytes) (Some width) = is_within (column_number bytes) width

-- a table that stands above, with that column
abbrev pub is_known : List WideTable → List ℕ → Bool
is_known tables word = has_column (behind_first is_dot word) (width_of (before_first is_dot word) tables)

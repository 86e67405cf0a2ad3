-- What the lines of a table keep.
use Rattle.std.specs.Prelude.{◌≡◌, ℕ, ◌≤◌, true, List, [], ◌∷◌, ◌++◌, length, IfSome, None, Some}
use Rattle.std.specs.List.{AllByRecursion}
use Rattle.gw_lines.specs.Spelled.{is_name}
use Rattle.gw_lines.specs.Values.{is_value}
use Rattle.gw_maplang.specs.Among.{Distinct}
use Rattle.gw_maplang.specs.Columns.{WideRow, WideRows, WideTable, widened}
use Rattle.gw_maplang.specs.Fault.{wide_firsts, wide_names}

-- with one more row, and with what its `else` says
abbrev pub rows_with : WideRow → WideRows → WideRows
rows_with r t = record t { width = widened t.width (length r.seconds); rows = t.rows ++ r ∷ [] }

abbrev pub other_with : List (List ℕ) → WideRows → WideRows
other_with values t = record t { width = widened t.width (length values); other = Some values }

abbrev pub wide_named : List ℕ → WideRows → WideTable
wide_named name t = record { name = name; width = t.width; rows = t.rows; other = t.other }

-- a value for each column
pub record LawfulValues (width : ℕ) (values : List (List ℕ)) : Type 0 where
  pub each : AllByRecursion (λ value. is_value value ≡ true) values
  pub wide : length values ≡ width

abbrev pub LawfulWideRow : ℕ → WideRow → Type 0
LawfulWideRow width r = (is_value r.first ≡ true) × LawfulValues width r.seconds

-- one row for each first value; no line where no width is said
pub record LawfulWide (t : WideTable) : Type 0 where
  pub named : is_name t.name ≡ true
  pub narrow : t.width ≤ 9
  pub each : AllByRecursion (LawfulWideRow t.width) t.rows
  pub distinct : Distinct (wide_firsts t.rows)
  pub other : IfSome t.other (LawfulValues t.width)
  pub unsaid : t.width ≡ 0 → (t.rows ≡ []) × (t.other ≡ None)

pub record LawfulWides (tables : List WideTable) : Type 0 where
  pub each : AllByRecursion LawfulWide tables
  pub distinct : Distinct (wide_names tables)

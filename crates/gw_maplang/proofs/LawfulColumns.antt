-- The columns of lawful tables are lawful tables.
use Rattle.std.proofs.Common.{◌≡◌, inl, inr, ℕ, zero, suc, ◌<◌, ◌≤◌, Bool, true, false, List, [], ◌∷◌, ◌++◌, length, map, Option, Some, None, refl, sym, ap, subst, arith}
use Rattle.std.specs.Prelude.{◌==◌, ◌||◌, IfSome}
use Rattle.std.specs.List.{AllByRecursion, list_all}
use Rattle.std.specs.Option.{option_map}
use Rattle.std.proofs.lemmas.Bool.Decides.{Decides-eqb}
use Rattle.gw_lines.specs.Values.{is_value}
use Rattle.gw_profile.proofs.Facts.{both, either}
use Rattle.gw_maplang.specs.Among.{Distinct}
use Rattle.gw_maplang.specs.Lawful.{LawfulRow, LawfulTable, firsts}
use Rattle.gw_maplang.specs.Columns.{WideRow, WideTable, widened, value_in, row_in, column, column_name, numbered, columns, all_columns, is_table_word}
use Rattle.gw_maplang.specs.Fault.{fits, wide_firsts}
use Rattle.gw_maplang.specs.own.Widths.{LawfulValues, LawfulWideRow, LawfulWide}
use Rattle.gw_maplang.proofs.ColumnNames.{own_word, number_word, AreNamed}

value_lawful : (k : ℕ) (values : List (List ℕ)) → AllByRecursion (λ value. is_value value ≡ true) values → k < length values → is_value (value_in k values) ≡ true
value_lawful k [] h l = absurd (omega (arith, l))
value_lawful zero (value ∷ values) h l = h.0
value_lawful (suc k) (value ∷ values) h l = value_lawful k values h.1 (omega (arith, l))

value_of : (width k : ℕ) (values : List (List ℕ)) → LawfulValues width values → k < width → is_value (value_in k values) ≡ true
value_of width k values h l = value_lawful k values h.each (let w : length values ≡ width = h.wide in omega (arith, l, w))

rows_lawful : (width k : ℕ) (rows : List WideRow) → k < width → AllByRecursion (LawfulWideRow width) rows → AllByRecursion LawfulRow (map (row_in k) rows)
rows_lawful width k [] l h = tt
rows_lawful width k (r ∷ rows) l h = ((h.0.0, value_of width k r.seconds h.0.1 l), rows_lawful width k rows l h.1)

same_firsts : (k : ℕ) (rows : List WideRow) → firsts (map (row_in k) rows) ≡ wide_firsts rows
same_firsts k [] = refl
same_firsts k (r ∷ rows) = ap (λ l. r.first ∷ l) (same_firsts k rows)

other_lawful : (width k : ℕ) (o : Option (List (List ℕ))) → k < width → IfSome o (LawfulValues width) → IfSome (option_map (value_in k) o) (λ value. is_value value ≡ true)
other_lawful width k None l h = tt
other_lawful width k (Some values) l h = value_of width k values h l

column_lawful : (name : List ℕ) (k : ℕ) (t : WideTable) → is_table_word name ≡ true → k < t.width → LawfulWide t → LawfulTable (column name k t)
column_lawful name k t n l h =
    record {
      named = n;
      each = rows_lawful t.width k t.rows l h.each;
      distinct = subst Distinct (sym (same_firsts k t.rows)) h.distinct;
      other = other_lawful t.width k t.other l h.other;
    }

-- a table without a line
empty_lawful : (name : List ℕ) (rows : List WideRow) (other : Option (List (List ℕ))) → is_table_word name ≡ true → rows ≡ [] → other ≡ None
    → LawfulTable (record { name = name; rows = map (row_in 0) rows; other = option_map (value_in 0) other })
empty_lawful name [] None n r o = record { named = n; each = tt; distinct = tt; other = tt }
empty_lawful name (x ∷ rows) other n r o = absurd (cc)
empty_lawful name [] (Some values) n r o = absurd (cc)

own_lawful : (t : WideTable) → LawfulWide t → LawfulTable (column t.name 0 t)
own_lawful t h = by t.width refl
  where
    n : is_table_word t.name ≡ true
    n = own_word t.name h.named

    by : (w : ℕ) → t.width ≡ w → LawfulTable (column t.name 0 t)
    by zero e = let u = h.unsaid e in empty_lawful t.name t.rows t.other n u.0 u.1
    by (suc w) e = column_lawful t.name 0 t n (omega (arith, e)) h

all_push : {A : Type 0} (P : A → Type 0) (xs ys : List A) → AllByRecursion P xs → AllByRecursion P ys → AllByRecursion P (xs ++ ys)
all_push P [] ys h k = k
all_push P (x ∷ xs) ys h k = (h.0, all_push P xs ys h.1 k)

numbered_lawful : (n : ℕ) (t : WideTable) → n ≤ t.width → LawfulWide t → AllByRecursion LawfulTable (numbered n t)
numbered_lawful zero t l h = tt
numbered_lawful (suc n) t l h =
    all_push LawfulTable (numbered n t) (column (column_name t.name n) n t ∷ []) (numbered_lawful n t (omega (arith, l)) h)
    (column_lawful (column_name t.name n) n t (number_word t.name n h.named (let w = h.narrow in omega (arith, l, w))) (omega (arith, l)) h, tt)

columns_lawful : (second : Bool) (t : WideTable) → LawfulWide t → AllByRecursion LawfulTable (columns second t)
columns_lawful true t h = (own_lawful t h, numbered_lawful t.width t (omega arith) h)
columns_lawful false t h = (own_lawful t h, tt)

pub all_lawful : (second : Bool) (ts : List WideTable) → AllByRecursion LawfulWide ts → AllByRecursion LawfulTable (all_columns second ts)
all_lawful second [] h = tt
all_lawful second (t ∷ ts) h = all_push LawfulTable (columns second t) (all_columns second ts) (columns_lawful second t h.0) (all_lawful second ts h.1)

pub are_named : (ts : List WideTable) → AllByRecursion LawfulWide ts → AreNamed ts
are_named [] h = tt
are_named (t ∷ ts) h = (h.0.named, are_named ts h.1)

-- ---- one more line

all_values : (values : List (List ℕ)) → list_all is_value values ≡ true → AllByRecursion (λ value. is_value value ≡ true) values
all_values [] e = tt
all_values (value ∷ values) e = let p = both (is_value value) (list_all is_value values) e in (p.0, all_values values p.1)

-- this number of values, where a line has any
some_wide : (width count : ℕ) → 1 ≤ count → widened width count ≡ 0 → ⊥
some_wide zero count l e = absurd (omega (arith, l, e))
some_wide (suc width) count l e = cc

pub record Fits (width count : ℕ) : Type 0 where
  pub wide : widened width count ≡ count

pub fits_is : (second : Bool) (width count : ℕ) → fits second width count ≡ true → Fits width count
fits_is second zero count e = record { wide = refl }
fits_is second (suc width) count e = elim (either (suc width == 0) (suc width == count) (both (second || count == 1) _ e).1) [
  | inl z ↦ (let none : suc width ≡ 0 = (Decides-eqb (suc width) 0).0 z in absurd (omega (arith, none)))
  | inr same ↦ record { wide = (Decides-eqb (suc width) count).0 same }
]

pub values_lawful : (width : ℕ) (values : List (List ℕ)) → Fits width (length values) → list_all is_value values ≡ true → LawfulValues (widened width (length values)) values
values_lawful width values f e = record { each = all_values values e; wide = sym f.wide }

-- the rows so far, where a line says the width
pub rows_stay : (width count : ℕ) (rows : List WideRow) → Fits width count → (width ≡ 0 → rows ≡ []) → AllByRecursion (LawfulWideRow width) rows → AllByRecursion (LawfulWideRow (widened width count)) rows
rows_stay zero count rows f u h = subst (λ rs. AllByRecursion (LawfulWideRow count) rs) (sym (u refl)) tt
rows_stay (suc width) count rows f u h = h

pub other_stays : (width count : ℕ) (o : Option (List (List ℕ))) → Fits width count → (width ≡ 0 → o ≡ None) → IfSome o (LawfulValues width) → IfSome o (LawfulValues (widened width count))
other_stays zero count o f u h = subst (λ x. IfSome x (LawfulValues count)) (sym (u refl)) tt
other_stays (suc width) count o f u h = h

pub narrow_stays : (width count : ℕ) → width ≤ 9 → count ≤ 9 → widened width count ≤ 9
narrow_stays zero count w c = c
narrow_stays (suc width) count w c = w

pub never_unsaid : {A : Type 0} (width count : ℕ) → 1 ≤ count → widened width count ≡ 0 → A
never_unsaid width count l e = absurd (some_wide width count l e)

pub widened_grows : (width count : ℕ) → width ≤ widened width count
widened_grows zero count = omega arith
widened_grows (suc width) count = omega arith

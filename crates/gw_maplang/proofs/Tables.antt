-- What a table, and the tables of a map, find and hold.
use Rattle.std.proofs.Common.{◌≡◌, ℕ, suc, ◌-◌, List, [], ◌∷◌, ◌++◌, length, map, Option, Some, None, Bor, Bool, true, false, refl, sym, ap, ◌∙◌, arith}
use Rattle.std.specs.Prelude.{Result, Ok, Err, OnOk, bytes_eq, slice_get, is_some, ◌||◌, if◌then◌else◌}
use Rattle.std.specs.List.{list_any}
use Rattle.std.specs.Option.{option_map}
use Rattle.std.specs.Global.{Vec}
use Rattle.std.specs.Map.{lookup, keys_of}
use Rattle.std.proofs.lemmas.Map.Made.{is_some-lookup}
use Rattle.indexmap.specs.IndexMap.{insert_entry}
use Rattle.indexmap.specs.Layout.{set_value_at}
use Rattle.gw_profile.proofs.Kept.{map_push}
use Rattle.gw_maplang.specs.Shapes.{Rows, second_of, table_of}
use Rattle.gw_maplang.specs.Columns.{WideRows, WideTable, width_of}
use Rattle.gw_maplang.specs.Lawful.{firsts, table_names}
use Rattle.gw_maplang.specs.Fault.{is_among, last_table, at_last, is_said, wide_names, wide_firsts}
use Rattle.gw_maplang.specs.Seen.{row, table, now_all, path, path_some, wide_row, wide_table}

pub row_found : (value : List ℕ) (es : List (Vec ℕ × Vec ℕ)) → option_map (λ (v : Vec ℕ). v.items) (lookup (λ k. bytes_eq value k.items) es) ≡ second_of value (map row es)
row_found value [] = refl
row_found value (e ∷ es) = by (bytes_eq value e.0.items) (row_found value es)
  where
    by : (b : Bool) → option_map (λ (v : Vec ℕ). v.items) (lookup (λ k. bytes_eq value k.items) es) ≡ second_of value (map row es) → option_map (λ (v : Vec ℕ). v.items) (if b then Some e.1 else lookup (λ k. bytes_eq value k.items) es) ≡ (if b then Some e.1.items else second_of value (map row es))
    by true h = refl
    by false h = h

pub table_found : (name : List ℕ) (es : List (Vec ℕ × Rows)) → lookup (λ k. bytes_eq name k.items) es ≡ table_of name (map table es)
table_found name [] = refl
table_found name (e ∷ es) = ap (λ o. if bytes_eq name e.0.items then Some e.1 else o) (table_found name es)

-- ---- keys

rows_named : (value : List ℕ) (es : List (Vec ℕ × Vec ℕ)) → list_any (λ k. bytes_eq value k.items) (keys_of es) ≡ is_among value (firsts (map row es))
rows_named value [] = refl
rows_named value (e ∷ es) = ap (λ b. bytes_eq value e.0.items || b) (rows_named value es)

tables_named : (name : List ℕ) (es : List (Vec ℕ × Rows)) → list_any (λ k. bytes_eq name k.items) (keys_of es) ≡ is_among name (table_names (map table es))
tables_named name [] = refl
tables_named name (e ∷ es) = ap (λ b. bytes_eq name e.0.items || b) (tables_named name es)

-- ---- tables as their lines say them

wide_rows_named : (value : List ℕ) (es : List (Vec ℕ × Vec (Vec ℕ))) → list_any (λ k. bytes_eq value k.items) (keys_of es) ≡ is_among value (wide_firsts (map wide_row es))
wide_rows_named value [] = refl
wide_rows_named value (e ∷ es) = ap (λ b. bytes_eq value e.0.items || b) (wide_rows_named value es)

pub wide_row_known : (value : List ℕ) (es : List (Vec ℕ × Vec (Vec ℕ))) → is_some (lookup (λ k. bytes_eq value k.items) es) ≡ is_among value (wide_firsts (map wide_row es))
wide_row_known value es = is_some-lookup _ es ∙ wide_rows_named value es

wides_named : (name : List ℕ) (es : List (Vec ℕ × WideRows)) → list_any (λ k. bytes_eq name k.items) (keys_of es) ≡ is_among name (wide_names (map wide_table es))
wides_named name [] = refl
wides_named name (e ∷ es) = ap (λ b. bytes_eq name e.0.items || b) (wides_named name es)

pub wide_known : (name : List ℕ) (es : List (Vec ℕ × WideRows)) → is_some (lookup (λ k. bytes_eq name k.items) es) ≡ is_among name (wide_names (map wide_table es))
wide_known name es = is_some-lookup _ es ∙ wides_named name es

pub width_found : (name : List ℕ) (es : List (Vec ℕ × WideRows)) → option_map (λ (t : WideRows). t.width) (lookup (λ k. bytes_eq name k.items) es) ≡ width_of name (map wide_table es)
width_found name [] = refl
width_found name (e ∷ es) = by (bytes_eq name e.0.items) (width_found name es)
  where
    by : (b : Bool) → option_map (λ (t : WideRows). t.width) (lookup (λ k. bytes_eq name k.items) es) ≡ width_of name (map wide_table es)
        → option_map (λ (t : WideRows). t.width) (if b then Some e.1 else lookup (λ k. bytes_eq name k.items) es) ≡ (if b then Some e.1.width else width_of name (map wide_table es))
    by true h = refl
    by false h = h

-- a new key goes last
put_last : {V : Type 0} (es : List (Vec ℕ × V)) (key : Vec ℕ) (value : V) → list_any (λ k. bytes_eq key.items k.items) (keys_of es) ≡ false → insert_entry (λ x y. bytes_eq x.items y.items) es key value ≡ es ++ (key, value) ∷ []
put_last [] key value new = refl
put_last {V} (e ∷ es) key value new = by (bytes_eq key.items e.0.items) new (put_last es key value)
  where
    by : (b : Bool) → b || list_any (λ k. bytes_eq key.items k.items) (keys_of es) ≡ false → (list_any (λ k. bytes_eq key.items k.items) (keys_of es) ≡ false → insert_entry (λ x y. bytes_eq x.items y.items) es key value ≡ es ++ (key, value) ∷ [])
        → (if b then (e.0, value) ∷ es else e ∷ insert_entry (λ x y. bytes_eq x.items y.items) es key value) ≡ e ∷ (es ++ (key, value) ∷ [])
    by true n h = absurd (cc)
    by false n h = ap (λ l. e ∷ l) (h n)

pub row_put : (es : List (Vec ℕ × Vec ℕ)) (first second : Vec ℕ) → is_among first.items (firsts (map row es)) ≡ false → map row (insert_entry (λ x y. bytes_eq x.items y.items) es first second) ≡ map row es ++ record { first = first.items; second = second.items } ∷ []
row_put es first second new = ap (map row) (put_last es first second (rows_named first.items es ∙ new)) ∙ map_push row es (first, second)

pub table_put : (es : List (Vec ℕ × Rows)) (name : Vec ℕ) (rows : Rows) → is_among name.items (table_names (map table es)) ≡ false → map table (insert_entry (λ x y. bytes_eq x.items y.items) es name rows) ≡ map table es ++ table (name, rows) ∷ []
table_put es name rows new = ap (map table) (put_last es name rows (tables_named name.items es ∙ new)) ∙ map_push table es (name, rows)

pub wide_row_put : (es : List (Vec ℕ × Vec (Vec ℕ))) (first : Vec ℕ) (seconds : Vec (Vec ℕ)) → is_among first.items (wide_firsts (map wide_row es)) ≡ false → map wide_row (insert_entry (λ x y. bytes_eq x.items y.items) es first seconds) ≡ map wide_row es ++ record { first = first.items; seconds = path seconds } ∷ []
wide_row_put es first seconds new = ap (map wide_row) (put_last es first seconds (wide_rows_named first.items es ∙ new)) ∙ map_push wide_row es (first, seconds)

pub wide_put : (es : List (Vec ℕ × WideRows)) (name : Vec ℕ) (rows : WideRows) → is_among name.items (wide_names (map wide_table es)) ≡ false → map wide_table (insert_entry (λ x y. bytes_eq x.items y.items) es name rows) ≡ map wide_table es ++ wide_table (name, rows) ∷ []
wide_put es name rows new = ap (map wide_table) (put_last es name rows (wides_named name.items es ∙ new)) ∙ map_push wide_table es (name, rows)

pub many_now : (all : List (Bor (List ℕ))) → length all ≡ length (now_all all)
many_now [] = refl
many_now (x ∷ all) = ap suc (many_now all)

-- ---- the last table

pub last_is : (es : List (Vec ℕ × WideRows)) (t : Vec ℕ × WideRows) → slice_get es (length es - 1) ≡ Some t → wide_table t ≡ last_table (map wide_table es)
last_is [] t e = absurd (cc)
last_is (x ∷ []) t e = let s : x ≡ t = cc in ap wide_table (sym s)
last_is (x ∷ y ∷ es) t e =
    let n : length (x ∷ y ∷ es) - 1 ≡ suc (length (y ∷ es) - 1) = omega arith in
    last_is (y ∷ es) t (ap (slice_get (x ∷ y ∷ es)) (sym n) ∙ e)

pub last_value_is : (es : List (Vec ℕ × WideRows)) (v : WideRows) → slice_get (map (λ (e : Vec ℕ × WideRows). e.1) es) (length es - 1) ≡ Some v → v.rows ≡ (last_table (map wide_table es)).rows
last_value_is [] v e = absurd (cc)
last_value_is (x ∷ []) v e = let s : x.1 ≡ v = cc in ap (λ (r : WideRows). r.rows) (sym s)
last_value_is (x ∷ y ∷ es) v e =
    let n : length (x ∷ y ∷ es) - 1 ≡ suc (length (y ∷ es) - 1) = omega arith in
    last_value_is (y ∷ es) v (ap (slice_get (map (λ (e : Vec ℕ × WideRows). e.1) (x ∷ y ∷ es))) (sym n) ∙ e)

-- the last table changed
pub last_set : (es : List (Vec ℕ × WideRows)) (v w : WideRows) (f : WideTable → WideTable) → slice_get (map (λ (e : Vec ℕ × WideRows). e.1) es) (length es - 1) ≡ Some v → ((k : Vec ℕ) → wide_table (k, w) ≡ f (wide_table (k, v))) → map wide_table (set_value_at es (length es - 1) w) ≡ at_last f (map wide_table es)
last_set [] v w f e h = refl
last_set (x ∷ []) v w f e h = let s : x.1 ≡ v = cc in ap (λ t. t ∷ []) (h x.0 ∙ ap (λ (r : WideRows). f (wide_table (x.0, r))) (sym s))
last_set (x ∷ y ∷ es) v w f e h =
    let n : length (x ∷ y ∷ es) - 1 ≡ suc (length (y ∷ es) - 1) = omega arith in
    ap (λ m. map wide_table (set_value_at (x ∷ y ∷ es) m w)) n
    ∙ ap (λ l. wide_table x ∷ l) (last_set (y ∷ es) v w f (ap (slice_get (map (λ (e : Vec ℕ × WideRows). e.1) (x ∷ y ∷ es))) (sym n) ∙ e) h)

pub said_is : (o : Option (Vec (Vec ℕ))) → is_some o ≡ is_said (path_some o)
said_is None = refl
said_is (Some v) = refl

pub last_set_where : {A E : Type 0} (es : List (Vec ℕ × WideRows)) (v w : WideRows) (f : WideTable → WideTable) (result : Result A E) → slice_get (map (λ (e : Vec ℕ × WideRows). e.1) es) (length es - 1) ≡ Some v → (new : WideRows) → OnOk result (w ≡ new) → (w ≡ new → (k : Vec ℕ) → wide_table (k, w) ≡ f (wide_table (k, v))) → OnOk result (map wide_table (set_value_at es (length es - 1) w) ≡ at_last f (map wide_table es))
last_set_where es v w f (Ok x) e new h k = last_set es v w f e (k h)
last_set_where es v w f (Err x) e new h k = tt

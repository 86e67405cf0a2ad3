-- Tables and labels that are kept in sets: what the set finds, and what it holds after one more.
use Rattle.std.proofs.Common.{◌≡◌, ℕ, suc, ◌+◌, ◌<◌, add-one, take, drop, drop-cons, get_or, length, Bool, true, false, List, [], ◌∷◌, ◌++◌, map, reverse, Option, Some, None, Bor, refl, sym, ap, ◌∙◌}
use Rattle.std.specs.Prelude.{bytes_eq, is_some, not, ◌||◌, if◌then◌else◌}
use Rattle.std.specs.List.{list_any}
use Rattle.std.specs.Global.{Vec}
use Rattle.std.specs.Map.{lookup, keys_of}
use Rattle.indexmap.specs.IndexSet.{insert_key}
use Rattle.indexmap.specs.IndexMap.{insert_entry}
use Rattle.std.proofs.lemmas.Map.Made.{is_some-lookup}
use Rattle.std.proofs.lemmas.List.Folds.{list_any-append}
use Rattle.std.proofs.lemmas.Cmp.{nat_list_eq_equiv}
use Rattle.std.proofs.lemmas.List.{append-nil, reverse-append, reverse-reverse, take_more}
use Rattle.gw_profile.specs.Shapes.{TableValue}
use Rattle.gw_profile.specs.Among.{Among, Distinct}
use Rattle.gw_profile.specs.Line.{Line, Begins, Table, Segment, Field, Comp, Sub, Group, End, Counts}
use Rattle.gw_lines.specs.Grammar.{Taken}
use Rattle.gw_profile.specs.Value as Value
use Rattle.gw_profile.proofs.Facts.{false_not}
use Rattle.gw_profile.proofs.Among.{among_is}
use Rattle.gw_profile.proofs.Passed.{Passes, taken_keeps}
use Rattle.gw_profile.specs.Fault.{grammar, is_among, has_repeat, tables, levels}
use Rattle.gw_profile.specs.Value.{table_of}
use Rattle.gw_profile.specs.WellFormed.{table_names}
use Rattle.gw_profile.specs.Seen.{table, now_all, with_table, kept, IsNewTable, IsNewLabel}

-- whether an item's bytes are among those of a list
pub among_map : {A : Type 0} (f : A → List ℕ) (bytes : List ℕ) (xs : List A) → list_any (λ x. bytes_eq bytes (f x)) xs ≡ is_among bytes (map f xs)
among_map f bytes [] = refl
among_map f bytes (x ∷ xs) = ap (λ b. bytes_eq bytes (f x) || b) (among_map f bytes xs)

-- one more at the end
pub map_push : {A B : Type 0} (f : A → B) (xs : List A) (x : A) → map f (xs ++ x ∷ []) ≡ map f xs ++ f x ∷ []
map_push f [] x = refl
map_push f (y ∷ xs) x = ap (λ l. f y ∷ l) (map_push f xs x)

unchosen : {A : Type 0} (b : Bool) (x y : A) → b ≡ false → (if b then x else y) ≡ y
unchosen true x y e = absurd (cc)
unchosen false x y e = refl

-- a new key goes last
pub key_put : {A : Type 0} (f : A → List ℕ) (ks : List A) (k : A) → is_among (f k) (map f ks) ≡ false → map f (insert_key (λ x y. bytes_eq (f x) (f y)) ks k) ≡ map f ks ++ f k ∷ []
key_put f ks k new = ap (map f) (unchosen (list_any (λ y. bytes_eq (f k) (f y)) ks) ks (ks ++ k ∷ []) (among_map f (f k) ks ∙ new)) ∙ map_push f ks k

-- the keys of entries
keys_named : (name : List ℕ) (es : List (Vec ℕ × List (List ℕ))) → list_any (λ k. bytes_eq name k.items) (keys_of es) ≡ is_among name (table_names (map table es))
keys_named name [] = refl
keys_named name (e ∷ es) = ap (λ b. bytes_eq name e.0.items || b) (keys_named name es)

pub table_known : (name : List ℕ) (es : List (Vec ℕ × List (List ℕ))) → is_some (lookup (λ k. bytes_eq name k.items) es) ≡ is_among name (table_names (map table es))
table_known name es = is_some-lookup _ es ∙ keys_named name es

pub table_found : (name : List ℕ) (es : List (Vec ℕ × List (List ℕ))) → lookup (λ k. bytes_eq name k.items) es ≡ table_of name (map table es)
table_found name [] = refl
table_found name (e ∷ es) = ap (λ o. if bytes_eq name e.0.items then Some e.1 else o) (table_found name es)

-- a table that lies under a name is the one of that name
pub table_at : (name : List ℕ) (es : List (Vec ℕ × List (List ℕ))) (other : Vec ℕ) (found : List (List ℕ)) → other.items ≡ name → lookup (λ k. bytes_eq other.items k.items) es ≡ Some found → table_of name (map table es) ≡ Some found
table_at name es other found same is = sym (table_found name es) ∙ ap (λ (n : List ℕ). lookup (λ k. bytes_eq n k.items) es) (sym same) ∙ is

drop_first : (a b : Bool) → a || b ≡ false → b ≡ false
drop_first true b e = absurd (cc)
drop_first false b e = e

first_of : (a b : Bool) → a || b ≡ false → a ≡ false
first_of true b e = absurd (cc)
first_of false b e = refl

-- a new table goes last
pub table_put : (es : List (Vec ℕ × List (List ℕ))) (name : Vec ℕ) (values : List (List ℕ)) → is_among name.items (table_names (map table es)) ≡ false → map table (insert_entry (λ x y. bytes_eq x.items y.items) es name values) ≡ map table es ++ record { name = name.items; values = values } ∷ []
table_put [] name values new = refl
table_put (e ∷ es) name values new =
    ap (map table) (unchosen (bytes_eq name.items e.0.items) ((e.0, values) ∷ es) (e ∷ insert_entry (λ x y. bytes_eq x.items y.items) es name values) (first_of (bytes_eq name.items e.0.items) _ new))
    ∙ ap (λ l. table e ∷ l) (table_put es name values (drop_first (bytes_eq name.items e.0.items) _ new))

-- ---- values that stand twice

-- a value of the rest is among those that are done, or stands twice in the rest
abbrev pub repeats_behind : List (List ℕ) → List (List ℕ) → Bool
repeats_behind done rest = list_any (λ v. is_among v done) rest || has_repeat rest

shuffle : (a b c d : Bool) → (a || (b || false)) || (c || d) ≡ (a || c) || (b || d)
shuffle true b c d = refl
shuffle false true true d = refl
shuffle false true false d = refl
shuffle false false c d = refl

shuffle_behind : (a b c : Bool) → (a || b) || c ≡ a || (b || c)
shuffle_behind true b c = refl
shuffle_behind false b c = refl

any_push : (done : List (List ℕ)) (v : List ℕ) (rest : List (List ℕ)) → list_any (λ w. is_among w (done ++ v ∷ [])) rest ≡ list_any (λ w. is_among w done) rest || is_among v rest
any_push done v [] = refl
any_push done v (w ∷ rest) =
    ap (λ b. b || list_any (λ x. is_among x (done ++ v ∷ [])) rest) (list_any-append (bytes_eq w) done (v ∷ []))
    ∙ ap (λ b. (is_among w done || (bytes_eq w v || false)) || b) (any_push done v rest)
    ∙ shuffle (is_among w done) (bytes_eq w v) (list_any (λ x. is_among x done) rest) (is_among v rest)
    ∙ ap (λ b. (is_among w done || list_any (λ x. is_among x done) rest) || (b || is_among v rest)) (nat_list_eq_equiv.symm w v)

pub repeats_step : (done : List (List ℕ)) (v : List ℕ) (rest : List (List ℕ)) → is_among v done ≡ false → repeats_behind done (v ∷ rest) ≡ repeats_behind (done ++ v ∷ []) rest
repeats_step done v rest new =
    ap (λ b. (b || list_any (λ w. is_among w done) rest) || (is_among v rest || has_repeat rest)) new
    ∙ sym (shuffle_behind (list_any (λ w. is_among w done) rest) (is_among v rest) (has_repeat rest))
    ∙ ap (λ b. b || has_repeat rest) (sym (any_push done v rest))

pub repeats_none : (rest : List (List ℕ)) → has_repeat rest ≡ repeats_behind [] rest
repeats_none rest = ap (λ b. b || has_repeat rest) (sym (no_one rest))
  where
    no_one : (rest : List (List ℕ)) → list_any (λ w. is_among w []) rest ≡ false
    no_one [] = refl
    no_one (w ∷ rest) = no_one rest

-- ---- lines that were taken

not_among_is : (name : List ℕ) (names : List (List ℕ)) → (Among name names → ⊥) → is_among name names ≡ false
not_among_is name names h = false_not (is_among name names) (λ e. h ((among_is name names).0 e))

no_repeat : (values : List (List ℕ)) → Distinct values → has_repeat values ≡ false
no_repeat [] d = refl
no_repeat (v ∷ values) d = ap (λ b. b || has_repeat values) (not_among_is v values d.0) ∙ no_repeat values d.1

-- the table of a line that was taken is new
new_table_of : (above : List Line) (line : Line) → Passes above line → (held : List TableValue) → table_names held ≡ tables above → IsNewTable held line
new_table_of above (Begins name) p held e = tt
new_table_of above (Table name values) p held e = (ap (is_among name) e ∙ not_among_is name (tables above) p.1, no_repeat values p.2)
new_table_of above (Segment name label renamed usage card) p held e = tt
new_table_of above (Field number usage card leaf) p held e = tt
new_table_of above (Comp number usage leaf) p held e = tt
new_table_of above (Sub number usage leaf) p held e = tt
new_table_of above (Group at label usage card) p held e = tt
new_table_of above End p held e = tt
new_table_of above Counts p held e = tt

pub new_table : (above : List Line) (line : Line) → Taken grammar above line → (held : List TableValue) → table_names held ≡ tables above → IsNewTable held line
new_table above line t held e = new_table_of above line (taken_keeps above line t).passes held e

-- the label of a line that was taken is new
new_label_of : (above : List Line) (line : Line) → Passes above line → (held : List (List ℕ)) → held ≡ (levels above).labels → IsNewLabel held line
new_label_of above (Begins name) p held e = tt
new_label_of above (Table name values) p held e = tt
new_label_of above (Segment name label renamed usage card) p held e = ap (is_among label) e ∙ not_among_is label (levels above).labels p.2
new_label_of above (Field number usage card leaf) p held e = tt
new_label_of above (Comp number usage leaf) p held e = tt
new_label_of above (Sub number usage leaf) p held e = tt
new_label_of above (Group at label usage card) p held e = ap (is_among label) e ∙ not_among_is label (levels above).labels p.3
new_label_of above End p held e = tt
new_label_of above Counts p held e = tt

pub new_label : (above : List Line) (line : Line) → Taken grammar above line → (held : List (List ℕ)) → held ≡ (levels above).labels → IsNewLabel held line
new_label above line t held e = new_label_of above line (taken_keeps above line t).passes held e

-- the test of a table line, told whether a value stands twice
pub table_told : (found : Option (List (List ℕ))) (none : Bool) (values : List (List ℕ)) → is_some found ≡ not none → found ≡ (if has_repeat values then None else Some values) → none ≡ has_repeat values
table_told found none values e f = by found none (has_repeat values) e f
  where
    by : (o : Option (List (List ℕ))) (n r : Bool) → is_some o ≡ not n → o ≡ (if r then None else Some values) → n ≡ r
    by o true true e f = refl
    by o false false e f = refl
    by o true false e f = let g : is_some o ≡ true = ap is_some f in absurd (cc)
    by o false true e f = let g : is_some o ≡ false = ap is_some f in absurd (cc)

-- the tables of lines from the first on
tables_more : (xs ys : List Line) → Value.tables (xs ++ ys) ≡ Value.tables xs ++ Value.tables ys
tables_more [] ys = refl
tables_more (Begins name ∷ xs) ys = tables_more xs ys
tables_more (Table name values ∷ xs) ys = ap (λ l. record { name = name; values = values } ∷ l) (tables_more xs ys)
tables_more (Segment name label renamed usage card ∷ xs) ys = tables_more xs ys
tables_more (Field number usage card leaf ∷ xs) ys = tables_more xs ys
tables_more (Comp number usage leaf ∷ xs) ys = tables_more xs ys
tables_more (Sub number usage leaf ∷ xs) ys = tables_more xs ys
tables_more (Group at label usage card ∷ xs) ys = tables_more xs ys
tables_more (End ∷ xs) ys = tables_more xs ys
tables_more (Counts ∷ xs) ys = tables_more xs ys

one_table : (line : Line) (held : List TableValue) → held ++ Value.tables (line ∷ []) ≡ with_table held line
one_table (Begins name) held = simp append-nil
one_table (Table name values) held = refl
one_table (Segment name label renamed usage card) held = simp append-nil
one_table (Field number usage card leaf) held = simp append-nil
one_table (Comp number usage leaf) held = simp append-nil
one_table (Sub number usage leaf) held = simp append-nil
one_table (Group at label usage card) held = simp append-nil
one_table End held = simp append-nil
one_table Counts held = simp append-nil

pub kept_is : (all : List Line) → Value.tables (reverse all) ≡ kept all
kept_is [] = refl
kept_is (line ∷ all) =
    ap Value.tables (reverse-append (line ∷ []) all) ∙ tables_more (reverse all) (line ∷ []) ∙ ap (λ l. l ++ Value.tables (line ∷ [])) (kept_is all) ∙ one_table line (kept all)

pub kept_lines : (lines : List Line) → kept (reverse lines) ≡ Value.tables lines
kept_lines lines = sym (kept_is (reverse lines)) ∙ ap Value.tables (reverse-reverse lines)

-- one more value is held
pub values_held : (values : List (Bor (List ℕ))) (i : ℕ) (d : Bor (List ℕ)) (done new : List (List ℕ)) → i < length values → done ≡ now_all (take i values) → has_repeat (now_all values) ≡ repeats_behind done (now_all (drop i values)) → is_among (get_or values i d).now done ≡ false → new ≡ done ++ (get_or values i d).now ∷ [] → (new ≡ now_all (take (i + 1) values)) × (has_repeat (now_all values) ≡ repeats_behind new (now_all (drop (i + 1) values)))
values_held values i d done new more held rest fresh put = (
  put ∙ ap (λ l. l ++ (get_or values i d).now ∷ []) held ∙ sym (map_push (λ b. b.now) (take i values) (get_or values i d)) ∙ ap now_all (sym (take_more values i d more)),
  rest ∙ ap (λ l. repeats_behind done (now_all l)) (drop-cons values i d more)
      ∙ repeats_step done (get_or values i d).now (now_all (drop (suc i) values)) fresh
      ∙ ap (λ l. repeats_behind l (now_all (drop (suc i) values))) (sym put)
      ∙ ap (λ n. repeats_behind new (now_all (drop n values))) (sym (add-one i)),
)

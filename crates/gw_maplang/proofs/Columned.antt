-- Columns as they are built, one entry after another.
use Rattle.std.proofs.Common.{◌≡◌, ℕ, zero, suc, ◌+◌, ◌<◌, ◌≤◌, reverse, get_or, inl, inr, Bool, false, List, [], ◌∷◌, ◌++◌, length, take, map, Some, refl, sym, ap, subst, ◌∙◌, bytes_eq, append_assoc, arith}
use Rattle.std.specs.Prelude.{slice_get}
use Rattle.std.specs.List.{AllByRecursion}
use Rattle.std.specs.Global.{Vec}
use Rattle.std.proofs.lemmas.List.{reverse-append}
use Rattle.indexmap.specs.IndexMap.{insert_entry}
use Rattle.gw_profile.proofs.Facts.{false_not}
use Rattle.gw_maplang.specs.Among.{Among, Distinct}
use Rattle.gw_maplang.specs.Shapes.{Rows, row_of}
use Rattle.gw_maplang.specs.Lawful.{firsts, table_names}
use Rattle.gw_maplang.specs.Columns.{WideRows, value_in, row_in, columns, all_columns}
use Rattle.gw_maplang.specs.Fault.{is_among, wide_firsts}
use Rattle.gw_maplang.specs.Seen.{items_all, path, table, wide_row, wide_table}
use Rattle.gw_maplang.specs.own.Widths.{LawfulWide}
use Rattle.gw_maplang.proofs.Among.{among_right, among_tells, bytes_tell}
use Rattle.gw_maplang.proofs.ColumnNames.{names_append}
use Rattle.gw_maplang.proofs.Tables.{table_put}

append_nil : {A : Type 0} (xs : List A) → xs ++ [] ≡ xs
append_nil [] = refl
append_nil (x ∷ xs) = ap (λ l. x ∷ l) (append_nil xs)

-- ---- a value

pub value_none : (k : ℕ) (values : List (Vec ℕ)) → length values ≤ k → [] ≡ value_in k (items_all values)
value_none k [] l = refl
value_none zero (value ∷ values) l = absurd (omega (arith, l))
value_none (suc k) (value ∷ values) l = value_none k values (omega (arith, l))

pub value_some : (k : ℕ) (values : List (Vec ℕ)) (value : Vec ℕ) → k < length values → value ≡ get_or values k value → value.items ≡ value_in k (items_all values)
value_some k [] value l e = absurd (omega (arith, l))
value_some zero (first ∷ values) value l e = ap (λ (v : Vec ℕ). v.items) e
value_some (suc k) (first ∷ values) value l e = value_some k values value (omega (arith, l)) e

-- ---- rows

abbrev Entry : Type 0
Entry = Vec ℕ × Vec (Vec ℕ)

there : (es : List Entry) (i : ℕ) (e : Entry) → slice_get es i ≡ Some e → Among e.0.items (wide_firsts (map wide_row es))
there [] i e s = absurd (cc)
there (x ∷ es) zero e s = let same : x ≡ e = cc in inl (ap (λ (y : Entry). y.0.items) (sym same))
there (x ∷ es) (suc i) e s = inr (there es i e s)

apart : (k : ℕ) (es : List Entry) (i : ℕ) (e : Entry) → Distinct (wide_firsts (map wide_row es)) → slice_get es i ≡ Some e → Among e.0.items (firsts (map (row_in k) (map wide_row (take i es)))) → ⊥
apart k [] i e d s h = absurd (cc)
apart k (x ∷ es) zero e d s h = h
apart k (x ∷ es) (suc i) e d s (inl f) = d.0 (subst (λ y. Among y (wide_firsts (map wide_row es))) f (there es i e s))
apart k (x ∷ es) (suc i) e d s (inr g) = apart k es i e d.1 s g

pub row_new : (k : ℕ) (es : List Entry) (i : ℕ) (e : Entry) → Distinct (wide_firsts (map wide_row es)) → slice_get es i ≡ Some e → is_among e.0.items (firsts (map (row_in k) (map wide_row (take i es)))) ≡ false
row_new k es i e d s = false_not _ (λ h. apart k es i e d s (among_tells bytes_eq bytes_tell e.0.items _ h))

next : (k : ℕ) (es : List Entry) (i : ℕ) (e : Entry) → slice_get es i ≡ Some e → map (row_in k) (map wide_row (take (suc i) es)) ≡ map (row_in k) (map wide_row (take i es)) ++ row_of e.0.items (value_in k (path e.1)) ∷ []
next k [] i e s = absurd (cc)
next k (x ∷ es) zero e s = let same : x ≡ e = cc in ap (λ (y : Entry). row_in k (wide_row y) ∷ []) same
next k (x ∷ es) (suc i) e s = ap (λ l. row_in k (wide_row x) ∷ l) (next k es i e s)

pub row_next : (k : ℕ) (es : List Entry) (i : ℕ) (e : Entry) → slice_get es i ≡ Some e → map (row_in k) (map wide_row (take (i + 1) es)) ≡ map (row_in k) (map wide_row (take i es)) ++ row_of e.0.items (value_in k (path e.1)) ∷ []
row_next k es i e s = let n : i + 1 ≡ suc i = omega arith in ap (λ m. map (row_in k) (map wide_row (take m es))) n ∙ next k es i e s

-- ---- tables

abbrev Named : Type 0
Named = Vec ℕ × WideRows

pub lawful_at : (es : List Named) (i : ℕ) (e : Named) → slice_get es i ≡ Some e → AllByRecursion LawfulWide (map wide_table es) → LawfulWide (wide_table e)
lawful_at [] i e s h = absurd (cc)
lawful_at (x ∷ es) zero e s h = let same : x ≡ e = cc in subst (λ (y : Named). LawfulWide (wide_table y)) same h.0
lawful_at (x ∷ es) (suc i) e s h = lawful_at es i e s h.1

after : (second : Bool) (es : List Named) (i : ℕ) (e : Named) → slice_get es i ≡ Some e → all_columns second (map wide_table (take (suc i) es)) ≡ all_columns second (map wide_table (take i es)) ++ columns second (wide_table e)
after second [] i e s = absurd (cc)
after second (x ∷ es) zero e s = let same : x ≡ e = cc in append_nil (columns second (wide_table x)) ∙ ap (λ (y : Named). columns second (wide_table y)) same
after second (x ∷ es) (suc i) e s = ap (λ l. columns second (wide_table x) ++ l) (after second es i e s) ∙ sym (append_assoc (columns second (wide_table x)) _ _)

pub columns_next : (second : Bool) (es : List Named) (i : ℕ) (e : Named) → slice_get es i ≡ Some e → all_columns second (map wide_table (take (i + 1) es)) ≡ all_columns second (map wide_table (take i es)) ++ columns second (wide_table e)
columns_next second es i e s = let n : i + 1 ≡ suc i = omega arith in ap (λ m. all_columns second (map wide_table (take m es))) n ∙ after second es i e s

-- ---- tables under their names

abbrev Kept : Type 0
Kept = Vec ℕ × Rows

in_the_middle : (xs ys : List (List ℕ)) (x : List ℕ) → Distinct (xs ++ x ∷ ys) → Among x xs → ⊥
in_the_middle [] ys x d h = h
in_the_middle (z ∷ xs) ys x d (inl e) = d.0 (among_right xs (x ∷ ys) z (inl (sym e)))
in_the_middle (z ∷ xs) ys x d (inr h) = in_the_middle xs ys x d.1 h

pub put_next : (done new left rest all : List Kept) (x : Kept) → left ≡ rest ++ x ∷ [] → new ≡ insert_entry (λ x y. bytes_eq x.items y.items) done x.0 x.1 → map table done ++ map table (reverse left) ≡ map table (reverse all)
    → Distinct (table_names (map table (reverse all))) → map table new ++ map table (reverse rest) ≡ map table (reverse all)
put_next done new left rest all x l put whole d =
    let back : reverse left ≡ x ∷ reverse rest = ap reverse l ∙ reverse-append rest (x ∷ []) in
    let next : map table done ++ table x ∷ map table (reverse rest) ≡ map table (reverse all) = ap (λ (r : List Kept). map table done ++ map table r) (sym back) ∙ whole in
    let names = subst Distinct (names_append (map table done) (table x ∷ map table (reverse rest))) (subst (λ ts. Distinct (table_names ts)) (sym next) d) in
    let fresh = false_not _ (λ h. in_the_middle (table_names (map table done)) (table_names (map table (reverse rest))) x.0.items names (among_tells bytes_eq bytes_tell x.0.items _ h)) in
    ap (λ (n : List Kept). map table n ++ map table (reverse rest)) put
    ∙ ap (λ ts. ts ++ map table (reverse rest)) (table_put done x.0 x.1 fresh)
    ∙ append_assoc (map table done) (table x ∷ []) (map table (reverse rest))
    ∙ next

-- Texts of the source that are compared with tables of the target.
use Rattle.std.proofs.Common.{◌≡◌, ℕ, ◌+◌, ◌<◌, Bool, true, false, List, [], ◌∷◌, Option, Some, None, Result, Ok, Err, IfOk, Bor, refl, sym, ap, subst, ◌∙◌, map, length, take, get_or, cond, is_some, true≢false, arith}
use Rattle.std.specs.Prelude.{unwrap_or, option_copied, option_map, option_and_then, filter, option_to_list, not, ◌==◌, ◌||◌, ◌&&◌}
use Rattle.std.specs.List.{list_any}
use Rattle.std.specs.Map.{lookup}
use Rattle.std.specs.Global.{Vec}
use Rattle.std.specs.Option.{option_eq}
use Rattle.std.specs.Arc.{arc_value}
use Rattle.std.specs.declared.alloc.Global.{Global}
use Rattle.std.specs.declared.sync.Arc.{Arc}
use Rattle.std.proofs.lemmas.Bool.Decides.{nat_tests}
use Rattle.std.proofs.lemmas.List.Folds.{list_any-append, list_any_more}
use Rattle.std.proofs.lemmas.Slice.Eq.{bytes_eq-Decides}
use Rattle.indexmap.specs.IndexSet.{IndexSet, insert_key}
use Rattle.gw_profile.specs.Fault.{is_among}
use Rattle.gw_profile.specs.declared.shape.Count.{Count}
use Rattle.gw_profile.specs.Lengths.{measure, len_count}
use Rattle.gw_profile.specs.Numbered.{some_sub}
use Rattle.gw_profile.specs.Seen.{Contents, profile_value}
use Rattle.gw_profile.specs.Shapes.{SubValue, ProfileValue}
use Rattle.gw_profile.specs.Value.{table_of as table_in}
use Rattle.gw_profile.proofs.Facts.{both}
use Rattle.gw_maplang.specs.Seen as seen_maps
use Rattle.gw_maplang.specs.Seen.{now}
use Rattle.gw_maplang.specs.Shapes as maps
use Rattle.gw_leaves.specs.declared.compared.Compared.{Compared}
use Rattle.gw_leaves.specs.declared.comparison.Found.{Found}
use Rattle.gw_leaves.specs.declared.given.LeafSource.{LeafSource}
use Rattle.gw_leaves.specs.Components.{table_values}
use Rattle.gw_leaves.specs.Context.{ContextValue, context_of}
use Rattle.gw_leaves.specs.Leaves.{listed, is_short, sub_values, has_no_row, may_be_unlisted, may_be_long}
use Rattle.gw_leaves.specs.Texts.{items_all}
use Rattle.gw_leaves.specs.own.Held.{given_texts}
use Rattle.gw_leaves.specs.own.Comparisons.{table_texts, values_named, rows_named, rowed, table_of, len_of, some_unrowed, is_unrowed, Origin, is_any, texts_in, given_at, given_by, all_given, fits, exceeds, is_outside, is_outside_named, holds_of, Lengths, size_of, some_length, Adds, AreOfValues, AreOfRows, AreUnlisted, AreLookedUp, Asks, some_values, Comparison, names_eq, comparisons_eq, IsCompared, IsFound, IsListed, AreKept, AreLists, AreCompared, Copied, texts_eq, name_of, copies_eq, IsCopyOf, AreCopies, Sized, is_lacking, is_missing, is_within, unrowed_by, IsListing, IsShortest}
use Rattle.gw_leaves.proofs.Inserted.{any_map, inserted}

-- of a slice of texts
over_items : (test : List ℕ → Bool) (texts : List (Vec ℕ)) (all : List (List ℕ)) → items_all texts ≡ all → list_any (λ (v : Vec ℕ). test v.items) texts ≡ list_any test all
over_items test texts all e = sym (any_map (λ (v : Vec ℕ). v.items) test texts) ∙ ap (list_any test) e

-- ---- lengths

module _ (to : Count) (values : List (List ℕ)) where
  pub listed_added : (lengths : Lengths) (size : ℕ) (text : List ℕ) → is_among text values ≡ true → Adds to values lengths lengths size (Some text)
  listed_added lengths size text e len None = grind arith
  listed_added lengths size text e len (Some most) = grind arith

  pub one_added : (old new : Lengths) (size : ℕ) (text : List ℕ) → is_among text values ≡ false → new ≡ insert_key (λ (a b : ℕ × ℕ). a.0 == b.0 && a.1 == b.1) old (size, measure to text) → Adds to values old new size (Some text)
  one_added old new size text e is len most =
      ap (some_length len most) is
      ∙ inserted (λ (a b : ℕ × ℕ). a.0 == b.0 && a.1 == b.1) (λ (l : ℕ × ℕ). fits len l.0 && exceeds most l.1) (size, measure to text) alike old
      ∙ outside most
    where
      alike : (x : ℕ × ℕ) → size == x.0 && measure to text == x.1 ≡ true → fits len size && exceeds most (measure to text) ≡ (fits len x.0 && exceeds most x.1)
      alike x h = grind (arith, nat_tests)

      outside : (m : Option ℕ) → some_length len m old || (fits len size && exceeds m (measure to text)) ≡ some_length len m old || (fits len size && is_outside to values m text)
      outside None = grind arith
      outside (Some n) = grind arith

  -- one text more
  pub more_values : (count : Option Count) (rows : Option maps.Rows) (texts : List (Vec ℕ)) (i : ℕ) (x : Vec ℕ) (old new : Lengths) → i < length texts → x ≡ get_or texts i x
      → Adds to values old new (size_of count x.items) (given_by rows x.items) → AreOfValues count to values rows (take i texts) old → AreOfValues count to values rows (take (i + 1) texts) new
  more_values count rows texts i x old new low at adds h len most =
      let test : Vec ℕ → Bool = λ v. fits len (size_of count v.items) && holds_of (is_outside to values most) (given_by rows v.items) in
      adds len most
      ∙ ap (λ b. b || test x) (h len most)
      ∙ ap (λ v. list_any test (take i texts) || test v) at
      ∙ sym (list_any_more test texts i x low)

  -- all rows: no length is too small for what they give
  pub all_rows : (rows : maps.Rows) (texts : List (Vec ℕ)) (old new : Lengths) → items_all texts ≡ map (λ (r : maps.Row). r.second) rows.rows
      → Adds to values old new 0 rows.other → AreOfValues None to values None texts old → AreOfRows to values (Some rows) new
  all_rows rows texts old new e adds h len most =
      let p = is_outside to values most in
      let seconds = map (λ (r : maps.Row). r.second) rows.rows in
      adds len most
      ∙ ap (λ b. some_length len most old || (b && holds_of p rows.other)) (fits_none len)
      ∙ ap (λ b. b || holds_of p rows.other) (h len most ∙ ap (λ b. list_any (λ (v : Vec ℕ). b && p v.items) texts) (fits_none len) ∙ over_items p texts seconds e)
      ∙ sym (list_any-append p seconds (option_to_list rows.other) ∙ ap (λ b. list_any p seconds || b) (any_one p rows.other))
    where
      fits_none : (len : Option ℕ) → fits len 0 ≡ true
      fits_none None = refl
      fits_none (Some most) = grind (arith, nat_tests)

      any_one : (p : List ℕ → Bool) (o : Option (List ℕ)) → list_any p (option_to_list o) ≡ holds_of p o
      any_one p None = refl
      any_one p (Some t) = grind arith

-- ---- tables

shortness : (count : Count) (len : Option ℕ) → (λ t. fits len (measure count t)) ≡ is_short count len
shortness count None = refl
shortness count (Some most) = refl

-- what is given for texts that pass a test, one by one
any_given : (p q : List ℕ → Bool) (tables : List maps.TableValue) (rows : Option (List ℕ)) (texts : List (List ℕ))
    → list_any (λ t. q t && holds_of p (given_by (option_map (rows_named tables) rows) t)) texts ≡ list_any p (texts_in (rowed tables rows (listed (filter q texts))))
any_given p q tables None [] = refl
any_given p q tables (Some name) [] = refl
any_given p q tables None (t ∷ texts) = let more = any_given p q tables None texts in grind arith
any_given p q tables (Some name) (t ∷ texts) = let more = any_given p q tables (Some name) texts in grind arith

module _ (s : ContextValue) (c : Comparison) (to : Count) (there : Option (Bor (List (List ℕ)))) (rows : Option maps.Rows) (target : to ≡ s.target.count)
    (asked : option_copied there ≡ option_and_then (λ n. table_in n s.target.tables) (now c.1)) (looked : rows ≡ option_map (rows_named s.map.tables) (now c.0.0)) where
  abbrev p : Option ℕ → List ℕ → Bool
  p most = is_outside_named s (now c.1) most

  pub of_all : {S E : Type 0} (made : Result (IndexSet (ℕ × ℕ) S) E) → c.0.1 ≡ None → IfOk made (λ l. AreOfRows to (some_values there) rows l.keys) → IfOk made (λ l. IsCompared s c l.keys)
  of_all (Err x) none h = tt
  of_all (Ok l) none h = λ len most asks.
      h len most
      ∙ (λ i. list_any (is_outside (target i) (unwrap_or (asked i) []) most) (all_given (looked i)))
      ∙ by len most (now c.0.0)
      ∙ (λ i. list_any (p most) (given_at s (now c.0.0) (now (sym none i)) len))
    where
      by : (len most : Option ℕ) (name : Option (List ℕ)) → list_any (p most) (all_given (option_map (rows_named s.map.tables) name)) ≡ list_any (p most) (given_at s name None len)
      by len most None = refl
      by len most (Some name) = refl

  pub of_listed : {S E : Type 0} (count : Count) (table : Bor (List ℕ)) (texts : List (Vec ℕ)) (made : Result (IndexSet (ℕ × ℕ) S) E) → count ≡ s.source.count → c.0.1 ≡ Some table
      → items_all texts ≡ values_named s.source.tables (Some table.now) → IfOk made (λ l. AreOfValues (Some count) to (some_values there) rows texts l.keys) → IfOk made (λ l. IsCompared s c l.keys)
  of_listed count table texts (Err x) e some is h = tt
  of_listed count table texts (Ok l) e some is h = λ len most asks.
      let all = values_named s.source.tables (Some table.now) in
      let short = is_short s.source.count len in
      h len most
      ∙ (λ i. list_any (λ (v : Vec ℕ). fits len (measure (e i) v.items) && holds_of (is_outside (target i) (unwrap_or (asked i) []) most) (given_by (looked i) v.items)) texts)
      ∙ over_items (λ t. fits len (measure s.source.count t) && holds_of (p most) (given_by (option_map (rows_named s.map.tables) (now c.0.0)) t)) texts all is
      ∙ ap (λ q. list_any (λ t. q t && holds_of (p most) (given_by (option_map (rows_named s.map.tables) (now c.0.0)) t)) all) (shortness s.source.count len)
      ∙ any_given (p most) short s.map.tables (now c.0.0) all
      ∙ (λ i. list_any (p most) (given_at s (now c.0.0) (now (sym some i)) len))

  pub of_looked : {S E : Type 0} (count : Count) (table : Bor (List ℕ)) (all : List (List ℕ)) (found : maps.Rows) (made : Result (IndexSet (ℕ × ℕ) S) E) → count ≡ s.source.count → c.0.1 ≡ Some table
      → all ≡ values_named s.source.tables (Some table.now) → rows ≡ Some found → IfOk made (λ l. AreLookedUp count to (some_values there) found all l.keys) → IfOk made (λ l. IsCompared s c l.keys)
  of_looked count table all found (Err x) e some is found_is h = tt
  of_looked count table all found (Ok l) e some is found_is h = λ len most asks.
      let short = is_short s.source.count len in
      let listed = values_named s.source.tables (Some table.now) in
      h len most
      ∙ (λ i. list_any (λ t. fits len (measure (e i) t) && holds_of (is_outside (target i) (unwrap_or (asked i) []) most) (given_by (sym found_is i) t)) (is i))
      ∙ ap (λ r. list_any (λ t. fits len (measure s.source.count t) && holds_of (p most) (given_by r t)) listed) looked
      ∙ ap (λ q. list_any (λ t. q t && holds_of (p most) (given_by (option_map (rows_named s.map.tables) (now c.0.0)) t)) listed) (shortness s.source.count len)
      ∙ any_given (p most) short s.map.tables (now c.0.0) listed
      ∙ (λ i. list_any (p most) (given_at s (now c.0.0) (now (sym some i)) len))

  -- against a table that is named: the shortest text that this lacks
  pub of_missing : {S E : Type 0} (table name : Bor (List ℕ)) (sizes : List Sized) (made : Result (IndexSet (ℕ × ℕ) S) E) → c.0.1 ≡ Some table → c.1 ≡ Some name → rows ≡ None
      → IsListed s.source (now c.0.1) sizes → IfOk made (λ l. AreUnlisted (some_values there) sizes l.keys) → IfOk made (λ l. IsCompared s c l.keys)
  of_missing table name sizes (Err x) some named none listing h = tt
  of_missing table name sizes (Ok l) some named none listing h = λ len most asks.
      let least : most ≡ None = asks (ap (λ n. is_some (now n)) named) in
      let listed = values_named s.source.tables (now c.0.1) in
      ap (λ m. some_length len m l.keys) least
      ∙ h len
      ∙ listing (is_missing (some_values there)) len
      ∙ (λ i. list_any (λ t. fits len (measure s.source.count t) && is_outside s.target.count (unwrap_or (asked i) []) (sym least i) t) listed)
      ∙ ap (λ r. list_any (λ t. fits len (measure s.source.count t) && holds_of (p most) (given_by r t)) listed) (sym none ∙ looked)
      ∙ ap (λ q. list_any (λ t. q t && holds_of (p most) (given_by (option_map (rows_named s.map.tables) (now c.0.0)) t)) listed) (shortness s.source.count len)
      ∙ any_given (p most) (is_short s.source.count len) s.map.tables (now c.0.0) listed
      ∙ by len most (now c.0.0) (now c.0.1) (ap (λ t. is_some (now t)) some)
    where
      by : (len most : Option ℕ) (rows table : Option (List ℕ)) → is_some table ≡ true → list_any (p most) (texts_in (rowed s.map.tables rows (listed (filter (is_short s.source.count len) (values_named s.source.tables table)))))
          ≡ list_any (p most) (given_at s rows table len)
      by len most rows None e = absurd (true≢false (sym e))
      by len most None (Some table) e = refl
      by len most (Some name) (Some table) e = refl

-- ---- what is kept

same_name : (x y : Option (Bor (List ℕ))) → option_eq names_eq x y ≡ true → now x ≡ now y
same_name None None e = refl
same_name (Some x) (Some y) e = ap Some ((bytes_eq-Decides x.now y.now).0 e)
same_name x y e = grind arith

same_found : (s : ContextValue) (x y : Comparison) (found : Found) → comparisons_eq x y ≡ true → IsFound s x found → IsFound s y found
same_found s x y found e h =
    let b = both _ _ e in
    let o = both _ _ b.0 in
    let table = same_name x.1 y.1 b.1 in
    let rows = same_name x.0.0 y.0.0 o.0 in
    let listed = same_name x.0.1 y.0.1 o.1 in
    record {
      lengths = λ len most asks. h.lengths len most (subst (λ n. Asks n most) (sym table) asks) ∙ (λ i. list_any (is_outside_named s (table i) most) (given_at s (rows i) (listed i) len));
      unrowed = λ name is. subst (λ n. IsShortest s.source.count (values_named s.source.tables n) (rows_named s.map.tables name) found.unrowed) listed (h.unrowed name (rows ∙ is));
    }

pub found_of : (s : ContextValue) (c : Comparison) (found : Found) (all : List Sized) → IsListed s.source (now c.0.1) all → IsCompared s c found.lengths.keys → found.unrowed ≡ unrowed_by s.map.tables (now c.0.0) all → IsFound s c found
found_of s c found all listing is e = record {
  lengths = is;
  unrowed = λ name there len. ap (is_within len) (e ∙ ap (λ n. unrowed_by s.map.tables n all) there) ∙ listing (is_lacking (rows_named s.map.tables name)) len;
}

-- one comparison more
pub kept_more : (s : ContextValue) (x : Comparison) (found : Arc Found Global) (old new : List (Comparison × Arc Found Global))
    → ((c : Comparison) → lookup (comparisons_eq c) new ≡ cond (comparisons_eq x c) (Some found) (lookup (comparisons_eq c) old))
    → IsFound s x (arc_value found) → AreKept s old → AreKept s new
kept_more s x found old new updates is h c f e = by (comparisons_eq x c) refl (e ∙ updates c)
  where
    by : (b : Bool) → comparisons_eq x c ≡ b → Some f ≡ cond b (Some found) (lookup (comparisons_eq c) old) → IsFound s c (arc_value f)
    by true same e = subst (λ o. IsFound s c (arc_value o)) (sym (ap (λ o. unwrap_or o f) e)) (same_found s x c (arc_value found) same is)
    by false other e = h c f e

pub listed_as : (source : Contents) (name : Option (List ℕ)) (count : Count) (texts : List (List ℕ)) (all : List Sized) → count ≡ source.count → texts ≡ values_named source.tables name
    → IsListing count texts all → IsListed source name all
listed_as source name count texts all e f h = λ test len. h test len ∙ (λ i. list_any (λ t. fits len (measure (e i) t) && test t) (f i))

pub none_kept : (s : ContextValue) (known : List (Comparison × Arc Found Global)) → known ≡ [] → AreKept s known
none_kept s known e c found f = absurd (true≢false (ap is_some f ∙ ap (λ l. is_some (lookup (comparisons_eq c) l)) e))

-- copies depend on the profiles alone
same_text : (x y : Option (Vec ℕ)) → option_eq texts_eq x y ≡ true → name_of x ≡ name_of y
same_text None None e = refl
same_text (Some x) (Some y) e = ap Some ((bytes_eq-Decides x.items y.items).0 e)
same_text x y e = grind arith

same_copy : (s : ContextValue) (map : seen_maps.Contents) (c d : Comparison) (x k : Copied) (found : Found) → copies_eq x k ≡ true → IsCopyOf c x → IsCopyOf d k → IsFound s c found
    → IsFound (context_of s.source s.target map) d found
same_copy s map c d x k found e of also h =
    let b = both _ _ e in
    let other = context_of s.source s.target map in
    let listed : now c.0.1 ≡ now d.0.1 = of.listed ∙ ap Some ((bytes_eq-Decides x.0.items k.0.items).0 b.0) ∙ sym also.listed in
    let name : now c.1 ≡ now d.1 = of.name ∙ same_text x.1 k.1 b.1 ∙ sym also.name in
    record {
      lengths = λ len most asks.
          h.lengths len most (subst (λ n. Asks n most) (sym name) asks)
          ∙ (λ i. list_any (is_outside_named s (name i) most) (given_at s (of.rows i) (listed i) len))
          ∙ (λ i. list_any (is_outside_named other (now d.1) most) (given_at other (sym also.rows i) (now d.0.1) len));
      unrowed = λ rows there. absurd (true≢false (sym (ap is_some there) ∙ ap is_some also.rows));
    }

-- one copy more
pub copies_more : (s : ContextValue) (c : Comparison) (x : Copied) (found : Arc Found Global) (old new : List (Copied × Arc Found Global))
    → ((k : Copied) → lookup (copies_eq k) new ≡ cond (copies_eq x k) (Some found) (lookup (copies_eq k) old))
    → IsCopyOf c x → IsFound s c (arc_value found) → AreCopies s.source s.target old → AreCopies s.source s.target new
copies_more s c x found old new updates of is h k f e map d also = by (copies_eq x k) refl (e ∙ updates k)
  where
    by : (b : Bool) → copies_eq x k ≡ b → Some f ≡ cond b (Some found) (lookup (copies_eq k) old) → IsFound (context_of s.source s.target map) d (arc_value f)
    by true same e = subst (λ o. IsFound (context_of s.source s.target map) d (arc_value o)) (sym (ap (λ o. unwrap_or o f) e)) (same_copy s map c d x k (arc_value found) same of also is)
    by false other e = h k f e map d also

-- one list more
pub listed_more : (source : Contents) (x : Option (Vec ℕ)) (all : Arc (Vec Sized) Global) (old new : List (Option (Vec ℕ) × Arc (Vec Sized) Global))
    → ((name : Option (Vec ℕ)) → lookup (option_eq texts_eq name) new ≡ cond (option_eq texts_eq x name) (Some all) (lookup (option_eq texts_eq name) old))
    → IsListed source (name_of x) (arc_value all).items → AreLists source old → AreLists source new
listed_more source x all old new updates is h name f e = by (option_eq texts_eq x name) refl (e ∙ updates name)
  where
    by : (b : Bool) → option_eq texts_eq x name ≡ b → Some f ≡ cond b (Some all) (lookup (option_eq texts_eq name) old) → IsListed source (name_of name) (arc_value f).items
    by true same e =
        subst (λ (o : Arc (Vec Sized) Global). IsListed source (name_of name) (arc_value o).items) (sym (ap (λ o. unwrap_or o f) e)) (subst (λ n. IsListed source n (arc_value all).items) (same_text x name same) is)
    by false other e = h name f e

-- more lists beside the same copies
pub compared_as : (source from target : Contents) (old new : Compared) → from ≡ source → new.copies.entries ≡ old.copies.entries → AreLists from new.lists.entries → AreCompared source target old → AreCompared source target new
compared_as source from target old new e same lists are = record {
  copies = subst (AreCopies source target) (sym same) are.copies;
  lists = subst (λ s. AreLists s new.lists.entries) e lists;
}

-- ---- what is read at a place

sub_texts : (profile : ProfileValue) (sub : Option SubValue) → sub_values profile sub ≡ table_texts profile (table_of sub) (len_of sub)
sub_texts profile None = refl
sub_texts profile (Some s) = grind arith

module _ (s : ContextValue) (g : LeafSource) (origin : Origin) (len : Option ℕ) (rows : now origin.0 ≡ now g.rows) (table : now origin.1 ≡ table_of (some_sub g.sub)) (short : len ≡ len_of (some_sub g.sub))
    (some : is_any (now origin.0) (now origin.1) ≡ false) where
  all_listed : (rows table : Option (List ℕ)) → is_any rows table ≡ false → rowed s.map.tables rows (table_texts (profile_value s.source) table len) ≡ listed (given_at s rows table len)
  all_listed None None e = absurd (true≢false e)
  all_listed None (Some table) e = refl
  all_listed (Some rows) None e = refl
  all_listed (Some rows) (Some table) e = refl

  place_texts : given_texts s g ≡ listed (given_at s (now origin.0) (now origin.1) len)
  place_texts =
      let same = sub_texts (profile_value s.source) (some_sub g.sub) in
      let all = all_listed (now origin.0) (now origin.1) some in
      cc

  pub long_at : (most : ℕ) → list_any (is_outside_named s None (Some most)) (given_at s (now origin.0) (now origin.1) len) ≡ may_be_long s.target.count (given_texts s g) (Some most)
  long_at most = ap (λ v. may_be_long s.target.count v (Some most)) (sym place_texts)

  pub unlisted_at : (sub : SubValue) (name : Option (List ℕ)) (there : Option (Bor (List (List ℕ)))) → name ≡ sub.table → option_copied there ≡ option_and_then (λ n. table_in n s.target.tables) name → is_some there ≡ true
      → list_any (is_outside_named s name None) (given_at s (now origin.0) (now origin.1) len) ≡ may_be_unlisted (given_texts s g) (table_values s.target.tables sub)
  unlisted_at sub name None named e t = absurd (true≢false (sym t))
  unlisted_at sub name (Some b) named e t =
      ap (λ v. may_be_unlisted v (Some (values_named s.target.tables name))) (sym place_texts)
      ∙ ap (may_be_unlisted (given_texts s g)) (ap (λ o. Some (unwrap_or o [])) (sym e) ∙ e ∙ ap (option_and_then (λ n. table_in n s.target.tables)) named)

-- ---- texts without a row

module _ (profile : ProfileValue) (rows : maps.Rows) (sub : Option SubValue) (other : is_some rows.other ≡ false) where
  pub any_unrowed : table_of sub ≡ None → true ≡ is_unrowed rows (sub_values profile sub)
  any_unrowed e = let any = sub_texts profile sub ∙ ap (λ t. table_texts profile t (len_of sub)) e in grind arith

  pub listed_unrowed : (table : List ℕ) (len : Option ℕ) → table_of sub ≡ Some table → len ≡ len_of sub
      → some_unrowed (len_count profile) len rows (values_named profile.tables (Some table)) ≡ is_unrowed rows (sub_values profile sub)
  listed_unrowed table len e short =
      let all = values_named profile.tables (Some table) in
      let count = len_count profile in
      let lacks : List ℕ → Bool = is_lacking rows in
      ap (λ q. list_any (λ t. q t && lacks t) all) (shortness count len)
      ∙ any_given lacks (is_short count len) [] None all
      ∙ ap (has_no_row rows) (ap (table_texts profile (Some table)) short ∙ sym (sub_texts profile sub ∙ ap (λ t. table_texts profile t (len_of sub)) e))
      ∙ ap (λ b. not b && has_no_row rows (sub_values profile sub)) (sym other)

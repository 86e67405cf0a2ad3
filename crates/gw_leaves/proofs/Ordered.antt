-- The values of a table by their lengths, and what rows give for them.
use Rattle.std.proofs.Common.{◌≡◌, ℕ, ◌+◌, ◌<◌, ◌≤◌, Bool, true, false, List, [], ◌∷◌, Option, Some, None, refl, sym, ap, ◌∙◌, map, length, take, get_or, is_some, true≢false, arith, if◌then◌else◌}
use Rattle.std.specs.Prelude.{not, ◌||◌, ◌&&◌, bytes_eq}
use Rattle.std.specs.List.{list_any}
use Rattle.std.specs.List.Sorted.{IsPermutation, IsNonDecreasingBy}
use Rattle.std.specs.Global.{Vec}
use Rattle.std.proofs.Math.Bool.{or-false}
use Rattle.std.proofs.lemmas.Bool.Decides.{nat_tests}
use Rattle.std.proofs.lemmas.List.Folds.{list_any_more}
use Rattle.std.proofs.lemmas.List.Sorted.{list_any-IsPermutation, IsNonDecreasingBy-drop}
use Rattle.std.proofs.lemmas.Slice.Eq.{bytes_eq-Decides}
use Rattle.gw_profile.specs.Fault.{is_among}
use Rattle.gw_profile.specs.declared.shape.Count.{Count}
use Rattle.gw_profile.specs.Lengths.{measure}
use Rattle.gw_maplang.specs.Shapes as maps
use Rattle.gw_leaves.specs.Leaves.{given, or_otherwise}
use Rattle.gw_leaves.specs.Texts.{items_all}
use Rattle.gw_leaves.specs.own.Comparisons.{fits, is_rowed, is_lacking, some_unrowed, Sized, sized, first_length, is_within, IsListing, IsShortest, is_outside, holds_of, Lengths, some_length, Adds, AreOfFirsts, AddsFirst, AreLookedUp, AreUnlisted, is_missing}
use Rattle.gw_leaves.proofs.Inserted.{any_map}

-- ---- the shortest

longer : (len : Option ℕ) (m n : ℕ) → m ≤ n → fits len m ≡ false → fits len n ≡ false
longer None m n le e = absurd (true≢false e)
longer (Some most) m n le e = grind (arith, nat_tests)

-- where one is too long, each behind it is
too_long : (len : Option ℕ) (test : List ℕ → Bool) (p : Sized) (all : List Sized) → IsNonDecreasingBy (λ (q : Sized). q.0) (p ∷ all) → fits len p.0 ≡ false
    → list_any (λ (q : Sized). fits len q.0 && test q.1.items) all ≡ false
too_long len test p [] up e = refl
too_long len test p (q ∷ all) up e =
    let le : p.0 ≤ q.0 = up 0 1 p (omega arith) (omega arith) in
    let over = longer len p.0 q.0 le e in
    let more = too_long len test q all (IsNonDecreasingBy-drop (λ (r : Sized). r.0) 1 (p ∷ q ∷ all) up) over in
    grind arith

chosen : (b f : Bool) (len : Option ℕ) (n : ℕ) (o : Option ℕ) (rest : Bool) → fits len n ≡ f → is_within len o ≡ rest → (f ≡ false → rest ≡ false) → is_within len (if b then Some n else o) ≡ ((f && b) || rest)
chosen true true len n o rest e r h = e
chosen true false len n o rest e r h = e ∙ sym (h refl)
chosen false true len n o rest e r h = r
chosen false false len n o rest e r h = r

first_is_shortest : (test : List ℕ → Bool) (len : Option ℕ) (all : List Sized) → IsNonDecreasingBy (λ (q : Sized). q.0) all → is_within len (first_length test all) ≡ list_any (λ (q : Sized). fits len q.0 && test q.1.items) all
first_is_shortest test len [] up = refl
first_is_shortest test len (p ∷ all) up =
    chosen (test p.1.items) (fits len p.0) len p.0 (first_length test all) (list_any (λ (q : Sized). fits len q.0 && test q.1.items) all) refl
    (first_is_shortest test len all (IsNonDecreasingBy-drop (λ (r : Sized). r.0) 1 (p ∷ all) up)) (too_long len test p all up)

pub listing_of : (count : Count) (texts : List (Vec ℕ)) (old new : List Sized) → map sized old ≡ map (λ (v : Vec ℕ). (measure count v.items, v.items)) texts → IsPermutation old new
    → IsNonDecreasingBy (λ (q : Sized). q.0) new → IsListing count (items_all texts) new
listing_of count texts old new is moved up test len =
    let passes : ℕ × List ℕ → Bool = λ q. fits len q.0 && test q.1 in
    first_is_shortest test len new up
    ∙ sym (list_any-IsPermutation (λ (q : Sized). fits len q.0 && test q.1.items) old new moved)
    ∙ sym (any_map sized passes old)
    ∙ ap (list_any passes) is
    ∙ any_map (λ (v : Vec ℕ). (measure count v.items, v.items)) passes texts
    ∙ sym (any_map (λ (v : Vec ℕ). v.items) (λ t. fits len (measure count t) && test t) texts)

-- ---- the shortest that is missing

pub none_missing : (values : List (List ℕ)) (all : List Sized) (keys : Lengths) → keys ≡ [] → None ≡ first_length (is_missing values) all → AreUnlisted values all keys
none_missing values all keys e f len = ap (some_length len None) e ∙ ap (is_within len) f

pub one_missing : (values : List (List ℕ)) (all : List Sized) (keys : Lengths) (size : ℕ) → keys ≡ (size, 0) ∷ [] → Some size ≡ first_length (is_missing values) all → AreUnlisted values all keys
one_missing values all keys size e f len = ap (some_length len None) e ∙ only (fits len size) ∙ ap (is_within len) f
  where
    only : (b : Bool) → ((b && true) || false) ≡ b
    only true = refl
    only false = refl

-- ---- some of a list

any_split : (p q : List ℕ → Bool) (xs : List (List ℕ)) → list_any p xs ≡ (list_any (λ x. q x && p x) xs || list_any (λ x. not (q x) && p x) xs)
any_split p q [] = refl
any_split p q (x ∷ xs) = by (q x) (p x) (list_any p xs) (list_any (λ x. q x && p x) xs) (list_any (λ x. not (q x) && p x) xs) (any_split p q xs)
  where
    by : (a b c d e : Bool) → c ≡ (d || e) → (b || c) ≡ (((a && b) || d) || ((not a && b) || e))
    by true true c d e h = refl
    by true false c d e h = h
    by false true c true e h = refl
    by false true c false e h = refl
    by false false c d e h = h

any_const : (p : List ℕ → Bool) (c : Bool) (xs : List (List ℕ)) → list_any (λ x. p x && c) xs ≡ (list_any p xs && c)
any_const p c [] = refl
any_const p c (x ∷ xs) = by (p x) c (list_any (λ x. p x && c) xs) (list_any p xs) (any_const p c xs)
  where
    by : (a c d e : Bool) → d ≡ (e && c) → ((a && c) || d) ≡ ((a || e) && c)
    by true true d e h = refl
    by true false d true h = h
    by true false d false h = h
    by false c d e h = h

eq_sym : (a b : List ℕ) → bytes_eq a b ≡ bytes_eq b a
eq_sym a b = by (bytes_eq a b) refl (bytes_eq b a) refl
  where
    by : (x : Bool) → bytes_eq a b ≡ x → (y : Bool) → bytes_eq b a ≡ y → bytes_eq a b ≡ bytes_eq b a
    by true e true f = e ∙ sym f
    by false e false f = e ∙ sym f
    by true e false f = absurd (true≢false (sym ((bytes_eq-Decides b a).1 (sym ((bytes_eq-Decides a b).0 e))) ∙ f))
    by false e true f = absurd (true≢false (sym ((bytes_eq-Decides a b).1 (sym ((bytes_eq-Decides b a).0 f))) ∙ e))

module _ (f : List ℕ → Bool) where
  one : (t : List ℕ) (ks : List (List ℕ)) → list_any (λ k. bytes_eq k t && f k) ks ≡ (is_among t ks && f t)
  one t [] = refl
  one t (k ∷ ks) = by (bytes_eq k t) (bytes_eq t k) (f k) (f t) (is_among t ks) (list_any (λ k. bytes_eq k t && f k) ks) (eq_sym k t) (λ e. ap f ((bytes_eq-Decides k t).0 e)) (one t ks)
    where
      by : (a b x y among rest : Bool) → a ≡ b → (a ≡ true → x ≡ y) → rest ≡ (among && y) → ((a && x) || rest) ≡ ((b || among) && y)
      by true true true y among rest e h r = h refl
      by true true false y true rest e h r = r
      by true true false y false rest e h r = r ∙ h refl
      by false false x y among rest e h r = r
      by true false x y among rest e h r = absurd (true≢false e)
      by false true x y among rest e h r = absurd (true≢false (sym e))

  none : (ks : List (List ℕ)) → list_any (λ k. is_among k [] && f k) ks ≡ false
  none [] = refl
  none (k ∷ ks) = none ks

  two : (a b : List ℕ → Bool) (ks : List (List ℕ)) → list_any (λ k. (a k || b k) && f k) ks ≡ (list_any (λ k. a k && f k) ks || list_any (λ k. b k && f k) ks)
  two a b [] = refl
  two a b (k ∷ ks) = by (a k) (b k) (f k) (list_any (λ k. (a k || b k) && f k) ks) (list_any (λ k. a k && f k) ks) (list_any (λ k. b k && f k) ks) (two a b ks)
    where
      by : (a b x c d e : Bool) → c ≡ (d || e) → (((a || b) && x) || c) ≡ (((a && x) || d) || ((b && x) || e))
      by true b true c d e h = refl
      by true true false c d e h = h
      by true false false c d e h = h
      by false true true c true e h = refl
      by false true true c false e h = refl
      by false true false c d e h = h
      by false false x c d e h = h

  -- what two lists have in common
  swapped : (ts ks : List (List ℕ)) → list_any (λ t. is_among t ks && f t) ts ≡ list_any (λ k. is_among k ts && f k) ks
  swapped [] ks = sym (none ks)
  swapped (t ∷ ts) ks =
      ap (λ b. (is_among t ks && f t) || b) (swapped ts ks)
      ∙ ap (λ b. b || list_any (λ k. is_among k ts && f k) ks) (sym (one t ks))
      ∙ sym (two (λ k. bytes_eq k t) (λ k. is_among k ts) ks)

-- ---- rows

rowed_among : (text : List ℕ) (rows : List maps.Row) → is_some (maps.second_of text rows) ≡ is_among text (map (λ (r : maps.Row). r.first) rows)
rowed_among text [] = refl
rowed_among text (r ∷ rows) = by (bytes_eq text r.first) (maps.second_of text rows) (is_among text (map (λ (r : maps.Row). r.first) rows)) (rowed_among text rows)
  where
    by : (b : Bool) (o : Option (List ℕ)) (c : Bool) → is_some o ≡ c → is_some (if b then Some r.second else o) ≡ (b || c)
    by true o c h = refl
    by false o c h = h

-- what has no row is given what stands for all others
others : (p : List ℕ → Bool) (f : Bool) (o other : Option (List ℕ)) → (not (is_some o) && (f && holds_of p (or_otherwise o other))) ≡ ((f && not (is_some o)) && holds_of p other)
others p true None other = refl
others p false None other = refl
others p true (Some t) other = refl
others p false (Some t) other = refl

module _ (count to : Count) (values : List (List ℕ)) (rows : maps.Rows) (texts : List (List ℕ)) where
  abbrev gives : Option ℕ → Option ℕ → List ℕ → Bool
  gives len most t = fits len (measure count t) && holds_of (is_outside to values most) (given rows t)

  -- one text more
  pub more_firsts : (firsts : List (Vec ℕ)) (i : ℕ) (x : Vec ℕ) (old new : Lengths) → i < length firsts → x ≡ get_or firsts i x → AddsFirst count to values rows texts old new x.items
      → AreOfFirsts count to values rows texts (take i firsts) old → AreOfFirsts count to values rows texts (take (i + 1) firsts) new
  more_firsts firsts i x old new low at adds h len most =
      let test : Vec ℕ → Bool = λ v. is_among v.items texts && gives len most v.items in
      adds len most
      ∙ ap (λ b. b || test x) (h len most)
      ∙ ap (λ v. list_any test (take i firsts) || test v) at
      ∙ sym (list_any_more test firsts i x low)

  pub unlisted_first : (lengths : Lengths) (text : List ℕ) → is_among text texts ≡ false → AddsFirst count to values rows texts lengths lengths text
  unlisted_first lengths text e len most = sym (ap (λ b. some_length len most lengths || (b && gives len most text)) e ∙ or-false (some_length len most lengths))

  pub listed_first : (old new : Lengths) (text : List ℕ) → is_among text texts ≡ true → Adds to values old new (measure count text) (given rows text) → AddsFirst count to values rows texts old new text
  listed_first old new text e adds len most = adds len most ∙ ap (λ b. some_length len most old || (b && gives len most text)) (sym e)

  module _ (firsts : List (Vec ℕ)) (of : items_all firsts ≡ map (λ (r : maps.Row). r.first) rows.rows) where
    parts : (len most : Option ℕ) → list_any (gives len most) texts
        ≡ (list_any (λ (v : Vec ℕ). is_among v.items texts && gives len most v.items) firsts || (some_unrowed count len rows texts && holds_of (is_outside to values most) rows.other))
    parts len most =
        let p = is_outside to values most in
        any_split (gives len most) (is_rowed rows) texts
        ∙ (λ i. list_any (λ t. rowed_among t rows.rows i && gives len most t) texts || list_any (λ t. others p (fits len (measure count t)) (maps.second_of t rows.rows) rows.other i) texts)
        ∙ (λ i. list_any (λ t. is_among t (sym of i) && gives len most t) texts || any_const (λ t. fits len (measure count t) && is_lacking rows t) (holds_of p rows.other) texts i)
        ∙ ap (λ b. b || (some_unrowed count len rows texts && holds_of p rows.other))
        (swapped (gives len most) texts (items_all firsts) ∙ any_map (λ (v : Vec ℕ). v.items) (λ t. is_among t texts && gives len most t) firsts)

    -- each has a row
    pub all_rowed : (lengths : Lengths) → IsShortest count texts rows None → AreOfFirsts count to values rows texts firsts lengths → AreLookedUp count to values rows texts lengths
    all_rowed lengths short h len most =
        let each = list_any (λ (v : Vec ℕ). is_among v.items texts && gives len most v.items) firsts in
        h len most ∙ sym (parts len most ∙ ap (λ b. each || (b && holds_of (is_outside to values most) rows.other)) (sym (short len)) ∙ or-false each)

    -- the shortest that has none stands for all of these
    pub some_lack : (old new : Lengths) (size : ℕ) → IsShortest count texts rows (Some size) → Adds to values old new size rows.other → AreOfFirsts count to values rows texts firsts old → AreLookedUp count to values rows texts new
    some_lack old new size short adds h len most =
        let each = list_any (λ (v : Vec ℕ). is_among v.items texts && gives len most v.items) firsts in
        let other = holds_of (is_outside to values most) rows.other in
        adds len most ∙ ap (λ b. b || (fits len size && other)) (h len most) ∙ sym (parts len most ∙ ap (λ b. each || (b && other)) (sym (short len)))

-- The names of tables and of their columns.
use Rattle.std.proofs.Common.{◌≡◌, ℕ, zero, suc, ◌+◌, ◌<◌, ◌≤◌, inl, inr, Bool, true, false, List, [], ◌∷◌, ◌++◌, length, take, get_or, Option, Some, None, ◌-◌, refl, sym, ap, ap₂, subst, ◌∙◌, bytes_eq, length-append, arith}
use Rattle.std.specs.Prelude.{◌==◌, ◌&&◌, not, nat_le, if◌then◌else◌, is_some}
use Rattle.std.specs.List.{AllByRecursion, list_all, before_first, position_or_len}
use Rattle.std.proofs.lemmas.List.{append_cancel_left}
use Rattle.std.proofs.lemmas.Bool.Decides.{Decides-eqb}
use Rattle.gw_lines.specs.Spelled.{is_name, is_name_byte, is_dot}
use Rattle.gw_profile.proofs.Facts.{both, no_clash, le_is, lt_is}
use Rattle.gw_maplang.specs.Among.{Among, Distinct}
use Rattle.gw_maplang.specs.Shapes.{TableValue}
use Rattle.gw_maplang.specs.Lawful.{table_names}
use Rattle.gw_maplang.specs.Columns.{WideTable, column, column_name, numbered, columns, all_columns, behind_first, column_number, is_numbered, is_table_word, width_of, is_within, has_column, is_known}
use Rattle.gw_maplang.specs.Fault.{wide_names, at_last}
use Rattle.gw_maplang.proofs.Among.{among_append, among_left, among_right, bytes_tell, distinct_push}

abbrev pub number_names : ℕ → List ℕ → List (List ℕ)
number_names zero name = []
number_names (suc k) name = number_names k name ++ column_name name k ∷ []

abbrev pub names_of : Bool → List ℕ → ℕ → List (List ℕ)
names_of second name width = name ∷ (if second then number_names width name else [])

abbrev pub all_names : Bool → List WideTable → List (List ℕ)
all_names second [] = []
all_names second (t ∷ ts) = names_of second t.name t.width ++ all_names second ts

pub names_append : (xs ys : List TableValue) → table_names (xs ++ ys) ≡ table_names xs ++ table_names ys
names_append [] ys = refl
names_append (x ∷ xs) ys = ap (λ l. x.name ∷ l) (names_append xs ys)

numbered_names : (k : ℕ) (t : WideTable) → table_names (numbered k t) ≡ number_names k t.name
numbered_names zero t = refl
numbered_names (suc k) t = names_append (numbered k t) (column (column_name t.name k) k t ∷ []) ∙ ap (λ l. l ++ column_name t.name k ∷ []) (numbered_names k t)

columns_names : (second : Bool) (t : WideTable) → table_names (columns second t) ≡ names_of second t.name t.width
columns_names true t = ap (λ l. t.name ∷ l) (numbered_names t.width t)
columns_names false t = refl

pub all_columns_names : (second : Bool) (ts : List WideTable) → table_names (all_columns second ts) ≡ all_names second ts
all_columns_names second [] = refl
all_columns_names second (t ∷ ts) = names_append (columns second t) (all_columns second ts) ∙ (λ i. columns_names second t i ++ all_columns_names second ts i)

-- ---- the numbers of one table

number_among : (k n : ℕ) (name : List ℕ) → k < n → Among (column_name name k) (number_names n name)
number_among k zero name l = absurd (omega (arith, l))
number_among k (suc n) name l = by (nat_le (suc k) n) refl (number_among k n name)
  where
    by : (b : Bool) → nat_le (suc k) n ≡ b → (k < n → Among (column_name name k) (number_names n name)) → Among (column_name name k) (number_names (suc n) name)
    by true e before = among_left (number_names n name) (column_name name n ∷ []) (column_name name k) (before (omega (arith, le_is (suc k) n e)))
    by false e before =
        let same : k ≡ n = omega (arith, l, lt_is (suc k) n e) in
        among_right (number_names n name) (column_name name n ∷ []) (column_name name k) (inl (ap (column_name name) same))

pub record IsNumber (x name : List ℕ) (n : ℕ) : Type 0 where
  pub at : ℕ
  pub below : at < n
  pub is : x ≡ column_name name at

number_is : (n : ℕ) (name x : List ℕ) → Among x (number_names n name) → IsNumber x name n
number_is zero name x h = absurd h
number_is (suc n) name x h = elim (among_append (number_names n name) (column_name name n ∷ []) x h) [ inl a ↦ up (number_is n name x a) | inr b ↦ last b ]
  where
    up : IsNumber x name n → IsNumber x name (suc n)
    up r = record { at = r.at; below = omega (arith, r.below); is = r.is }

    last : Among x (column_name name n ∷ []) → IsNumber x name (suc n)
    last (inl e) = record { at = n; below = omega arith; is = e }
    last (inr f) = absurd f

same_number : (name : List ℕ) (k j : ℕ) → column_name name k ≡ column_name name j → k ≡ j
same_number name k j e =
    let digits = append_cancel_left name (46 ∷ (49 + k) ∷ []) (46 ∷ (49 + j) ∷ []) e in
    let same : 49 + k ≡ 49 + j = ap (λ (l : List ℕ). get_or l 1 0) digits in
    omega (arith, same)

numbers_distinct : (n : ℕ) (name : List ℕ) → Distinct (number_names n name)
numbers_distinct zero name = tt
numbers_distinct (suc n) name = distinct_push (number_names n name) (column_name name n) (numbers_distinct n name) new
  where
    new : Among (column_name name n) (number_names n name) → ⊥
    new h = let r = number_is n name (column_name name n) h in let same : n ≡ r.at = same_number name n r.at r.is in let b : r.at < n = r.below in absurd (omega (arith, same, b))

own_new : (n : ℕ) (name : List ℕ) → Among name (number_names n name) → ⊥
own_new n name h =
    let r = number_is n name name h in
    let long : length name ≡ length name + 2 = ap length r.is ∙ length-append name (46 ∷ (49 + r.at) ∷ []) in
    absurd (omega (arith, long))

names_distinct : (second : Bool) (name : List ℕ) (width : ℕ) → Distinct (names_of second name width)
names_distinct true name width = (own_new width name, numbers_distinct width name)
names_distinct false name width = ((λ h. h), tt)

-- ---- what stands before the dot

before_step : (b : ℕ) (bytes : List ℕ) (dot : Bool) → is_dot b ≡ dot → before_first is_dot (b ∷ bytes) ≡ (if dot then [] else b ∷ before_first is_dot bytes)
before_step b bytes true e = ap (λ d. take (if not d then 1 + position_or_len is_dot bytes else 0) (b ∷ bytes)) e
before_step b bytes false e =
    ap (λ d. take (if not d then 1 + position_or_len is_dot bytes else 0) (b ∷ bytes)) e
    ∙ (let next : 1 + position_or_len is_dot bytes ≡ suc (position_or_len is_dot bytes) = omega arith in ap (λ n. take n (b ∷ bytes)) next)

undotted_byte : (b : ℕ) → is_name_byte b ≡ true → is_dot b ≡ false
undotted_byte b h = by (b == 46) refl
  where
    by : (d : Bool) → (b == 46) ≡ d → is_dot b ≡ false
    by true e = let same : b ≡ 46 = (Decides-eqb b 46).0 e in absurd (no_clash (sym h ∙ ap is_name_byte same))
    by false e = e

before_dot : (name rest : List ℕ) → list_all is_name_byte name ≡ true → before_first is_dot (name ++ 46 ∷ rest) ≡ name
before_dot [] rest h = before_step 46 rest true refl
before_dot (b ∷ name) rest h =
    let p = both (is_name_byte b) (list_all is_name_byte name) h in
    before_step b (name ++ 46 ∷ rest) false (undotted_byte b p.0) ∙ ap (λ l. b ∷ l) (before_dot name rest p.1)

before_all : (name : List ℕ) → list_all is_name_byte name ≡ true → before_first is_dot name ≡ name
before_all [] h = refl
before_all (b ∷ name) h =
    let p = both (is_name_byte b) (list_all is_name_byte name) h in
    before_step b name false (undotted_byte b p.0) ∙ ap (λ l. b ∷ l) (before_all name p.1)

name_bytes : (name : List ℕ) → is_name name ≡ true → list_all is_name_byte name ≡ true
name_bytes name h = (both (nat_le 1 (length name) && nat_le (length name) 40) (list_all is_name_byte name) h).1

own_base : (name : List ℕ) → is_name name ≡ true → before_first is_dot name ≡ name
own_base name h = before_all name (name_bytes name h)

number_base : (name : List ℕ) (k : ℕ) → is_name name ≡ true → before_first is_dot (column_name name k) ≡ name
number_base name k h = before_dot name ((49 + k) ∷ []) (name_bytes name h)

-- what stands behind it
behind_all : (name : List ℕ) → list_all is_name_byte name ≡ true → behind_first is_dot name ≡ None
behind_all [] h = refl
behind_all (b ∷ name) h =
    let p = both (is_name_byte b) (list_all is_name_byte name) h in
    ap (λ d. if d then Some name else behind_first is_dot name) (undotted_byte b p.0) ∙ behind_all name p.1

behind_dot : (name rest : List ℕ) → list_all is_name_byte name ≡ true → behind_first is_dot (name ++ 46 ∷ rest) ≡ Some rest
behind_dot [] rest h = refl
behind_dot (b ∷ name) rest h =
    let p = both (is_name_byte b) (list_all is_name_byte name) h in
    ap (λ d. if d then Some (name ++ 46 ∷ rest) else behind_first is_dot (name ++ 46 ∷ rest)) (undotted_byte b p.0) ∙ behind_dot name rest p.1

digit_numbers : (b : ℕ) → 49 ≤ b → b ≤ 57 → is_some (column_number (b ∷ [])) ≡ true
digit_numbers b low high = by (nat_le 49 b) (nat_le b 57) refl refl
  where
    by : (l h : Bool) → nat_le 49 b ≡ l → nat_le b 57 ≡ h → is_some (if l then (if h then Some (b - 48) else None) else None) ≡ true
    by true true l h = refl
    by true false l h = absurd (omega (arith, high, lt_is b 57 h))
    by false h l k = absurd (omega (arith, low, lt_is 49 b l))

-- the name of a table, and that of a column, are words of a lookup
pub own_word : (name : List ℕ) → is_name name ≡ true → is_table_word name ≡ true
own_word name h = ap₂ (λ a b. a && b) (ap is_name (own_base name h) ∙ h) (ap is_numbered (behind_all name (name_bytes name h)))

pub number_word : (name : List ℕ) (k : ℕ) → is_name name ≡ true → k < 9 → is_table_word (column_name name k) ≡ true
number_word name k h l =
    ap₂ (λ a b. a && b) (ap is_name (number_base name k h) ∙ h)
    (ap is_numbered (behind_dot name ((49 + k) ∷ []) (name_bytes name h)) ∙ digit_numbers (49 + k) (omega arith) (omega (arith, l)))

base_of : (second : Bool) (name : List ℕ) (width : ℕ) (x : List ℕ) → is_name name ≡ true → Among x (names_of second name width) → before_first is_dot x ≡ name
base_of second name width x n (inl e) = ap (before_first is_dot) e ∙ own_base name n
base_of true name width x n (inr h) = let r = number_is width name x h in ap (before_first is_dot) r.is ∙ number_base name r.at n
base_of false name width x n (inr h) = absurd h

-- ---- the names of all tables

abbrev pub AreNamed : List WideTable → Type 0
AreNamed ts = AllByRecursion (λ (t : WideTable). is_name t.name ≡ true) ts

all_base : (second : Bool) (ts : List WideTable) (x : List ℕ) → AreNamed ts → Among x (all_names second ts) → Among (before_first is_dot x) (wide_names ts)
all_base second [] x n h = absurd h
all_base second (t ∷ ts) x n h = elim (among_append (names_of second t.name t.width) (all_names second ts) x h) [ inl a ↦ inl (base_of second t.name t.width x n.0 a) | inr b ↦ inr (all_base second ts x n.1 b) ]

distinct_append : {A : Type 0} (xs ys : List A) → Distinct xs → Distinct ys → ((x : A) → Among x xs → Among x ys → ⊥) → Distinct (xs ++ ys)
distinct_append [] ys d e apart = e
distinct_append (x ∷ xs) ys d e apart = (
  λ h. elim (among_append xs ys x h) [ inl a ↦ d.0 a | inr b ↦ apart x (inl refl) b ],
  distinct_append xs ys d.1 e (λ z a b. apart z (inr a) b),
)

pub all_distinct : (second : Bool) (ts : List WideTable) → AreNamed ts → Distinct (wide_names ts) → Distinct (all_names second ts)
all_distinct second [] n d = tt
all_distinct second (t ∷ ts) n d =
    distinct_append (names_of second t.name t.width) (all_names second ts) (names_distinct second t.name t.width) (all_distinct second ts n.1 d.1)
    (λ x a b. d.0 (subst (λ y. Among y (wide_names ts)) (base_of second t.name t.width x n.0 a) (all_base second ts x n.1 b)))

-- ---- a table that is known

cut_none : (bytes : List ℕ) → behind_first is_dot bytes ≡ None → before_first is_dot bytes ≡ bytes
cut_none [] e = refl
cut_none (b ∷ bytes) e = by (is_dot b) refl e (cut_none bytes)
  where
    by : (d : Bool) → is_dot b ≡ d → ◌≡◌ {A = Option (List ℕ)} (if d then Some bytes else behind_first is_dot bytes) None → (behind_first is_dot bytes ≡ None → before_first is_dot bytes ≡ bytes) → before_first is_dot (b ∷ bytes) ≡ b ∷ bytes
    by true d f more = absurd (cc)
    by false d f more = before_step b bytes false d ∙ ap (λ l. b ∷ l) (more f)

cut_some : (bytes rest : List ℕ) → behind_first is_dot bytes ≡ Some rest → bytes ≡ before_first is_dot bytes ++ 46 ∷ rest
cut_some [] rest e = absurd (cc)
cut_some (b ∷ bytes) rest e = by (is_dot b) refl e (cut_some bytes rest)
  where
    by : (d : Bool) → is_dot b ≡ d → ◌≡◌ {A = Option (List ℕ)} (if d then Some bytes else behind_first is_dot bytes) (Some rest) → (behind_first is_dot bytes ≡ Some rest → bytes ≡ before_first is_dot bytes ++ 46 ∷ rest) → b ∷ bytes ≡ before_first is_dot (b ∷ bytes) ++ 46 ∷ rest
    by true d f before =
        let same : b ≡ 46 = (Decides-eqb b 46).0 d in
        let more : bytes ≡ rest = cc in
        (λ i. same i ∷ more i) ∙ ap (λ l. l ++ 46 ∷ rest) (sym (before_step b bytes true d))
    by false d f before = ap (λ l. b ∷ l) (before f) ∙ ap (λ l. l ++ 46 ∷ rest) (sym (before_step b bytes false d))

pub record IsDigit (bytes : List ℕ) (k : ℕ) : Type 0 where
  pub at : ℕ
  pub is : bytes ≡ (49 + at) ∷ []
  pub number : k ≡ suc at

digit_is : (bytes : List ℕ) (k : ℕ) → column_number bytes ≡ Some k → IsDigit bytes k
digit_is [] k e = absurd (cc)
digit_is (b ∷ c ∷ bytes) k e = absurd (cc)
digit_is (b ∷ []) k e = by (nat_le 49 b) (nat_le b 57) refl e
  where
    by : (l h : Bool) → nat_le 49 b ≡ l → ◌≡◌ {A = Option ℕ} (if l then (if h then Some (b - 48) else None) else None) (Some k) → IsDigit (b ∷ []) k
    by true true l f =
        let low = le_is 49 b l in
        let number : b - 48 ≡ k = cc in
        let digit : b ≡ 49 + (b - 49) = omega (arith, low) in
        record { at = b - 49; is = ap (λ d. d ∷ []) digit; number = omega (arith, low, number) }
    by true false l f = absurd (cc)
    by false h l f = absurd (cc)

own_among : (second : Bool) (ts : List WideTable) (name : List ℕ) (width : ℕ) → width_of name ts ≡ Some width → Among name (all_names second ts)
own_among second [] name width e = absurd (cc)
own_among second (t ∷ ts) name width e = by (bytes_eq name t.name) refl e (own_among second ts name width)
  where
    by : (b : Bool) → bytes_eq name t.name ≡ b → (if b then Some t.width else width_of name ts) ≡ Some width → (width_of name ts ≡ Some width → Among name (all_names second ts)) → Among name (all_names second (t ∷ ts))
    by true same f more = among_left (names_of second t.name t.width) (all_names second ts) name (inl (bytes_tell name t.name same))
    by false same f more = among_right (names_of second t.name t.width) (all_names second ts) name (more f)

column_among : (ts : List WideTable) (name : List ℕ) (width k : ℕ) → width_of name ts ≡ Some width → k < width → Among (column_name name k) (all_names true ts)
column_among [] name width k e l = absurd (cc)
column_among (t ∷ ts) name width k e l = by (bytes_eq name t.name) refl e (λ f. column_among ts name width k f l)
  where
    by : (b : Bool) → bytes_eq name t.name ≡ b → (if b then Some t.width else width_of name ts) ≡ Some width → (width_of name ts ≡ Some width → Among (column_name name k) (all_names true ts)) → Among (column_name name k) (all_names true (t ∷ ts))
    by true same f more =
        let wide : t.width ≡ width = cc in
        let named : t.name ≡ name = sym (bytes_tell name t.name same) in
        among_left (names_of true t.name t.width) (all_names true ts) (column_name name k)
        (inr (subst (λ n. Among (column_name n k) (number_names t.width t.name)) named (number_among k t.width t.name (subst (λ w. k < w) (sym wide) l))))
    by false same f more = among_right (names_of true t.name t.width) (all_names true ts) (column_name name k) (more f)

-- a word that is known names a table
pub known_named : (second : Bool) (ts : List WideTable) (word : List ℕ) → not second && is_some (behind_first is_dot word) ≡ false → is_known ts word ≡ true → Among word (all_names second ts)
known_named second ts word early known = by (behind_first is_dot word) (width_of (before_first is_dot word) ts) refl refl early known
  where
    by : (o : Option (List ℕ)) (w : Option ℕ) → behind_first is_dot word ≡ o → width_of (before_first is_dot word) ts ≡ w → not second && is_some o ≡ false → has_column o w ≡ true → Among word (all_names second ts)
    by o None b f e h = absurd (no_clash (sym h))
    by None (Some width) b f e h = subst (λ x. Among x (all_names second ts)) (cut_none word b) (own_among second ts (before_first is_dot word) width f)
    by (Some rest) (Some width) b f e h = numbered second e (column_number rest) refl h
      where
        numbered : (s : Bool) → not s && true ≡ false → (n : Option ℕ) → column_number rest ≡ n → is_within n width ≡ true → Among word (all_names s ts)
        numbered false e n c h = absurd (no_clash e)
        numbered true e None c h = absurd (no_clash (sym h))
        numbered true e (Some k) c h =
            let d = digit_is rest k c in
            let l = le_is k width h in
            let number : k ≡ suc d.at = d.number in
            let word_is : word ≡ column_name (before_first is_dot word) d.at = cut_some word rest b ∙ ap (λ r. before_first is_dot word ++ 46 ∷ r) d.is in
            subst (λ x. Among x (all_names true ts)) (sym word_is) (column_among ts (before_first is_dot word) width d.at f (omega (arith, l, number)))

-- ---- names that stay

more_numbers : (k n : ℕ) (name x : List ℕ) → k ≤ n → Among x (number_names k name) → Among x (number_names n name)
more_numbers k n name x l h =
    let r = number_is k name x h in
    let b : r.at < k = r.below in
    subst (λ y. Among y (number_names n name)) (sym r.is) (number_among r.at n name (omega (arith, l, b)))

names_grow : (second : Bool) (name : List ℕ) (k n : ℕ) (x : List ℕ) → k ≤ n → Among x (names_of second name k) → Among x (names_of second name n)
names_grow second name k n x l (inl e) = inl e
names_grow true name k n x l (inr h) = inr (more_numbers k n name x l h)
names_grow false name k n x l (inr h) = absurd h

-- the last table gets wider, or none
pub names_stay : (second : Bool) (f : WideTable → WideTable) → ((t : WideTable) → (f t).name ≡ t.name) → ((t : WideTable) → t.width ≤ (f t).width) → (ts : List WideTable) (x : List ℕ) → Among x (all_names second ts) → Among x (all_names second (at_last f ts))
names_stay second f n w [] x h = h
names_stay second f n w (t ∷ []) x h = elim (among_append (names_of second t.name t.width) [] x h) [ inl a ↦ among_left (names_of second (f t).name (f t).width) [] x (grown a) | inr b ↦ absurd b ]
  where
    grown : Among x (names_of second t.name t.width) → Among x (names_of second (f t).name (f t).width)
    grown a = subst (λ name. Among x (names_of second name (f t).width)) (sym (n t)) (names_grow second t.name t.width (f t).width x (w t) a)
names_stay second f n w (t ∷ u ∷ ts) x h = elim (among_append (names_of second t.name t.width) (all_names second (u ∷ ts)) x h) [
  | inl a ↦ among_left (names_of second t.name t.width) (all_names second (at_last f (u ∷ ts))) x a
  | inr b ↦ among_right (names_of second t.name t.width) (all_names second (at_last f (u ∷ ts))) x (names_stay second f n w (u ∷ ts) x b)
]

pub names_push : (second : Bool) (ts : List WideTable) (t : WideTable) (x : List ℕ) → Among x (all_names second ts) → Among x (all_names second (ts ++ t ∷ []))
names_push second [] t x h = absurd h
names_push second (u ∷ ts) t x h = elim (among_append (names_of second u.name u.width) (all_names second ts) x h) [
  | inl a ↦ among_left (names_of second u.name u.width) (all_names second (ts ++ t ∷ [])) x a
  | inr b ↦ among_right (names_of second u.name u.width) (all_names second (ts ++ t ∷ [])) x (names_push second ts t x b)
]

pub names_second : (second : Bool) (ts : List WideTable) (x : List ℕ) → Among x (all_names second ts) → Among x (all_names true ts)
names_second true ts x h = h
names_second false [] x h = absurd h
names_second false (t ∷ ts) x (inl e) = inl e
names_second false (t ∷ ts) x (inr h) = inr (among_right (number_names t.width t.name) (all_names true ts) x (names_second false ts x h))

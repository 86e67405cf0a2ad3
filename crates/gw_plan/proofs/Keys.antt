-- What an index of routes finds.
use Rattle.std.proofs.Common.{◌≡◌, ℕ, ◌+◌, List, [], ◌∷◌, ◌++◌, length, Option, Some, None, Bool, true, false, refl, sym, ap, ◌∙◌, subst, arith, eq-eqb}
use Rattle.std.specs.Prelude.{not, ◌||◌, position, if◌then◌else◌, bytes_eq, nat_eq}
use Rattle.std.specs.List.{list_any, AllZip, AllByRecursion, position_or_len, position_from}
use Rattle.std.specs.Global.{Vec}
use Rattle.indexmap.specs.IndexSet.{insert_key}
use Rattle.std.proofs.lemmas.List.Quantifiers.{position-Some}
use Rattle.std.proofs.lemmas.Iterator.Adapters.{position_from-zero}
use Rattle.std.proofs.lemmas.Bool.{eqb-true}
use Rattle.std.proofs.lemmas.Slice.Eq.{bytes_eq-Decides}
use Rattle.gw_plan.specs.Index.{Key, at}

pub none_some : {A X : Type 0} {x : X} (o : Option X) → o ≡ None → o ≡ Some x → A
none_some o none some = absurd (cc)

pub some_same : {X : Type 0} {x y : X} → Some x ≡ Some y → x ≡ y
some_same e = cc

-- ---- words and their numbers

-- two words with one number are one
pub same_at : (one other : List ℕ) (words : List (Vec ℕ)) (i : ℕ) → at one words ≡ Some i → at other words ≡ Some i → one ≡ other
same_at one other [] i a b = none_some None refl a
same_at one other (w ∷ ws) i a b =
    (bytes_eq-Decides one _).0 (position-Some (λ (k : Vec ℕ). bytes_eq one k.items) (w ∷ ws) i w (position_from-zero (λ (k : Vec ℕ). bytes_eq one k.items) (w ∷ ws) ∙ a)).1
    ∙ sym ((bytes_eq-Decides other _).0 (position-Some (λ (k : Vec ℕ). bytes_eq other k.items) (w ∷ ws) i w (position_from-zero (λ (k : Vec ℕ). bytes_eq other k.items) (w ∷ ws) ∙ b)).1)

-- numbers are equal where the words are
pub word_test : (one other : List ℕ) (words : List (Vec ℕ)) (i j : ℕ) → at one words ≡ Some i → at other words ≡ Some j → nat_eq i j ≡ bytes_eq one other
word_test one other words i j a b = by (nat_eq i j) (bytes_eq one other) refl refl
  where
    by : (x y : Bool) → nat_eq i j ≡ x → bytes_eq one other ≡ y → x ≡ y
    by true true e f = refl
    by false false e f = refl
    by true false e f = sym ((bytes_eq-Decides one other).1 (same_at one other words i a (b ∙ ap Some (sym (eqb-true i j e))))) ∙ f
    by false true e f = sym e ∙ eq-eqb i j (some_same (sym a ∙ ap (λ w. at w words) ((bytes_eq-Decides one other).0 f) ∙ b))

-- ---- lists tested side by side

pub none_from : {A : Type 0} (t : A → Bool) (n : ℕ) (xs : List A) → list_any t xs ≡ false → position_from t n xs ≡ None
none_from t n [] e = refl
none_from t n (x ∷ xs) e = by (t x) e (none_from t (n + 1) xs)
  where
    by : (b : Bool) → b || list_any t xs ≡ false → (list_any t xs ≡ false → position_from t (n + 1) xs ≡ None) → (if b then Some n else position_from t (n + 1) xs) ≡ None
    by true e next = absurd (cc)
    by false e next = next e

-- each pair and key with what follows of them
pub zip_map : {A B : Type 0} {P Q : A → B → Type 0} (xs : List A) (ys : List B) → ((x : A) (y : B) → P x y → Q x y) → AllZip P xs ys → AllZip Q xs ys
zip_map [] [] f z = z
zip_map [] (y ∷ ys) f z = absurd z
zip_map (x ∷ xs) [] f z = absurd z
zip_map (x ∷ xs) (y ∷ ys) f z = (f x y z.0, zip_map xs ys f z.1)

pub zip_push : {A B : Type 0} (P : A → B → Type 0) (xs : List A) (ys : List B) (x : A) (y : B) → AllZip P xs ys → P x y → AllZip P (xs ++ x ∷ []) (ys ++ y ∷ [])
zip_push P [] [] x y z p = (p, tt)
zip_push P [] (k ∷ ys) x y z p = absurd z
zip_push P (k ∷ xs) [] x y z p = absurd z
zip_push P (k ∷ xs) (l ∷ ys) x y z p = (z.0, zip_push P xs ys x y z.1 p)

-- ---- a word that stands among words

pub placed : (word : List ℕ) (words : List (Vec ℕ)) (o : Option ℕ) → position (λ k. bytes_eq word k.items) words ≡ o → at word words ≡ o
placed word words o e = sym (position_from-zero (λ (k : Vec ℕ). bytes_eq word k.items) words) ∙ e

pub some_code : (code : List ℕ) (keys : List Key) (n i : ℕ) (codes : List (Vec ℕ)) → position_from (λ k. bytes_eq code k.items) n codes ≡ Some i → AllByRecursion (λ c. list_any (λ k. bytes_eq c.items k.code) keys ≡ true) codes → list_any (λ k. bytes_eq code k.code) keys ≡ true
some_code code keys n i [] a used = none_some None refl a
some_code code keys n i (c ∷ codes) a used = by (bytes_eq code c.items) refl a (λ e. some_code code keys (n + 1) i codes e used.1)
  where
    by : (b : Bool) → bytes_eq code c.items ≡ b → (if b then Some n else position_from (λ k. bytes_eq code k.items) (n + 1) codes) ≡ Some i → (position_from (λ k. bytes_eq code k.items) (n + 1) codes ≡ Some i → list_any (λ k. bytes_eq code k.code) keys ≡ true) → list_any (λ k. bytes_eq code k.code) keys ≡ true
    by true e a next = subst (λ w. list_any (λ k. bytes_eq w k.code) keys ≡ true) (sym ((bytes_eq-Decides code c.items).0 e)) used.0
    by false e a next = next a

-- ---- one word more, where it isn't there yet

append_from : {A : Type 0} (t : A → Bool) (n i : ℕ) (xs ys : List A) → position_from t n xs ≡ Some i → position_from t n (xs ++ ys) ≡ Some i
append_from t n i [] ys e = none_some None refl e
append_from t n i (x ∷ xs) ys e = by (t x) e (append_from t (n + 1) i xs ys)
  where
    by : (b : Bool) → (if b then Some n else position_from t (n + 1) xs) ≡ Some i → (position_from t (n + 1) xs ≡ Some i → position_from t (n + 1) (xs ++ ys) ≡ Some i) → (if b then Some n else position_from t (n + 1) (xs ++ ys)) ≡ Some i
    by true e next = e
    by false e next = next e

abbrev pub grown : List (Vec ℕ) → Vec ℕ → List (Vec ℕ)
grown words word = insert_key (λ x y. bytes_eq x.items y.items) words word

-- a word keeps its number
pub kept_at : (other : List ℕ) (words : List (Vec ℕ)) (word : Vec ℕ) (i : ℕ) → at other words ≡ Some i → at other (grown words word) ≡ Some i
kept_at other words word i e = by (list_any (λ k. bytes_eq word.items k.items) words)
  where
    by : (b : Bool) → at other (if b then words else words ++ word ∷ []) ≡ Some i
    by true = e
    by false = append_from (λ k. bytes_eq other k.items) 0 i words (word ∷ []) e

-- the number at which one is put that passes, where no other does
last_from : {A : Type 0} (t : A → Bool) (n : ℕ) (xs : List A) (x : A) → t x ≡ true → list_any t xs ≡ false → position_from t n (xs ++ x ∷ []) ≡ Some (n + length xs)
last_from t n [] x e none = ap (λ b. if b then Some n else None) e ∙ ap Some (omega arith)
last_from t n (y ∷ xs) x e none = by (t y) none (λ h. last_from t (n + 1) xs x e h)
  where
    by : (b : Bool) → b || list_any t xs ≡ false → (list_any t xs ≡ false → position_from t (n + 1) (xs ++ x ∷ []) ≡ Some (n + 1 + length xs))
        → (if b then Some n else position_from t (n + 1) (xs ++ x ∷ [])) ≡ Some (n + length (y ∷ xs))
    by true none next = absurd (cc)
    by false none next = next none ∙ ap Some (omega arith)

-- the place of one that passes, from there on
found_from : {A : Type 0} (t : A → Bool) (n : ℕ) (xs : List A) → list_any t xs ≡ true → position_from t n xs ≡ Some (n + position_or_len t xs)
found_from t n [] e = absurd (cc)
found_from t n (y ∷ xs) e = by (t y) e (found_from t (n + 1) xs)
  where
    by : (b : Bool) → b || list_any t xs ≡ true → (list_any t xs ≡ true → position_from t (n + 1) xs ≡ Some (n + 1 + position_or_len t xs))
        → (if b then Some n else position_from t (n + 1) xs) ≡ Some (n + (if not b then 1 + position_or_len t xs else 0))
    by true e next = ap Some (omega arith)
    by false e next = next e ∙ ap Some (omega arith)

none_len : {A : Type 0} (t : A → Bool) (xs : List A) → list_any t xs ≡ false → position_or_len t xs ≡ length xs
none_len t [] e = refl
none_len t (y ∷ xs) e = by (t y) e (none_len t xs)
  where
    by : (b : Bool) → b || list_any t xs ≡ false → (list_any t xs ≡ false → position_or_len t xs ≡ length xs) → (if not b then 1 + position_or_len t xs else 0) ≡ length (y ∷ xs)
    by true e next = absurd (cc)
    by false e next = ap (λ n. 1 + n) (next e) ∙ omega arith

-- a word that is put has the number that is given
pub put_at : (words : List (Vec ℕ)) (word : Vec ℕ) → at word.items (grown words word) ≡ Some (position_or_len (λ k. bytes_eq word.items k.items) words)
put_at words word = by (list_any (λ k. bytes_eq word.items k.items) words) refl
  where
    by : (b : Bool) → list_any (λ k. bytes_eq word.items k.items) words ≡ b → at word.items (if b then words else words ++ word ∷ []) ≡ Some (position_or_len (λ k. bytes_eq word.items k.items) words)
    by true e = found_from (λ k. bytes_eq word.items k.items) 0 words e ∙ ap Some (omega arith)
    by false e = last_from (λ k. bytes_eq word.items k.items) 0 words word ((bytes_eq-Decides word.items word.items).1 refl) e ∙ ap Some (omega (arith, none_len (λ (k : Vec ℕ). bytes_eq word.items k.items) words e))

any_append : {A : Type 0} (t : A → Bool) (xs ys : List A) → list_any t xs ≡ true → list_any t (xs ++ ys) ≡ true
any_append t [] ys e = absurd (cc)
any_append t (x ∷ xs) ys e = by (t x) e (any_append t xs ys)
  where
    by : (b : Bool) → b || list_any t xs ≡ true → (list_any t xs ≡ true → list_any t (xs ++ ys) ≡ true) → b || list_any t (xs ++ ys) ≡ true
    by true e next = refl
    by false e next = next e

any_last : {A : Type 0} (t : A → Bool) (xs : List A) (x : A) → t x ≡ true → list_any t (xs ++ x ∷ []) ≡ true
any_last t [] x e = ap (λ b. b || false) e
any_last t (y ∷ xs) x e = by (t y) (any_last t xs x e)
  where
    by : (b : Bool) → list_any t (xs ++ x ∷ []) ≡ true → b || list_any t (xs ++ x ∷ []) ≡ true
    by true next = refl
    by false next = next

-- each code is still that of a route
used_on : (codes : List (Vec ℕ)) (keys : List Key) (key : Key) → AllByRecursion (λ c. list_any (λ k. bytes_eq c.items k.code) keys ≡ true) codes → AllByRecursion (λ c. list_any (λ k. bytes_eq c.items k.code) (keys ++ key ∷ []) ≡ true) codes
used_on [] keys key used = tt
used_on (c ∷ codes) keys key used = (any_append (λ k. bytes_eq c.items k.code) keys (key ∷ []) used.0, used_on codes keys key used.1)

all_push : {A : Type 0} (P : A → Type 0) (xs : List A) (x : A) → AllByRecursion P xs → P x → AllByRecursion P (xs ++ x ∷ [])
all_push P [] x all p = (p, tt)
all_push P (y ∷ xs) x all p = (all.0, all_push P xs x all.1 p)

pub used_put : (codes : List (Vec ℕ)) (code : Vec ℕ) (keys : List Key) (key : Key) → key.code ≡ code.items → AllByRecursion (λ c. list_any (λ k. bytes_eq c.items k.code) keys ≡ true) codes → AllByRecursion (λ c. list_any (λ k. bytes_eq c.items k.code) (keys ++ key ∷ []) ≡ true) (grown codes code)
used_put codes code keys key e used = by (list_any (λ k. bytes_eq code.items k.items) codes)
  where
    by : (b : Bool) → AllByRecursion (λ c. list_any (λ k. bytes_eq c.items k.code) (keys ++ key ∷ []) ≡ true) (if b then codes else codes ++ code ∷ [])
    by true = used_on codes keys key used
    by false = all_push (λ c. list_any (λ k. bytes_eq c.items k.code) (keys ++ key ∷ []) ≡ true) codes code (used_on codes keys key used) (any_last (λ k. bytes_eq code.items k.code) keys key ((bytes_eq-Decides code.items key.code).1 (sym e)))

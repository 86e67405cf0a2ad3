-- The names that a state has, and those that its log gave.
use Rattle.std.proofs.Common.{◌≡◌, ℕ, ◌+◌, Bool, true, false, cond, List, [], ◌∷◌, map, refl, ap, sym, ◌∙◌}
use Rattle.std.specs.Prelude.{◌&&◌, ◌||◌, not, nat_eq, bytes_eq}
use Rattle.std.specs.List.{list_all}
use Rattle.std.proofs.lemmas.Bool.{and_parts, eqb-true}
use Rattle.std.proofs.lemmas.Slice.Eq.{bytes_eq-Decides}
use Rattle.gw_due.specs.Events.{Event, Planned, Accepted, Again, Passed, Named, Margin, Retired}
use Rattle.gw_due.specs.Due.{is_among, Name}
use Rattle.gw_due.specs.Lawful.{is_named, agrees}
use Rattle.gw_due.specs.State.{Receiver, receiver_by, named, is_known, name_of}
use Rattle.gw_due.specs.State as state
use Rattle.gw_due.proofs.Telling.{or_false}

abbrev pub has_name : ℕ → List ℕ → Receiver → Bool
has_name n name r = agrees n name (name_of r)

-- ---- which receivers are known

number_stays : (at : ℕ) (e : Event) (r : Receiver) → name_of (receiver_by at e r) ≡ name_of r
number_stays at (Planned text) r = refl
number_stays at (Accepted number to bytes) r = by_test (is_among r.number to)
  where
    by_test : (b : Bool) → name_of (cond b (record r { from = cond (nat_eq r.left 0) at r.from; left = r.left + 1 }) r) ≡ name_of r
    by_test true = refl
    by_test false = refl
number_stays at (Again s place) r = by_test (nat_eq s r.number)
  where
    by_test : (b : Bool) → name_of (cond b (record r { from = cond (nat_eq r.left 0) at r.from; left = r.left + 1 }) r) ≡ name_of r
    by_test true = refl
    by_test false = refl
number_stays at (Passed s place how) r = by_test (nat_eq s r.number)
  where
    by_test : (b : Bool) → name_of (cond b (state.passed place how r) r) ≡ name_of r
    by_test true = refl
    by_test false = refl
number_stays at (Named s name address) r = refl
number_stays at (Margin number) r = refl
number_stays at (Retired segment) r = refl

pub names_stay : (at : ℕ) (e : Event) (rs : List Receiver) → map name_of (map (receiver_by at e) rs) ≡ map name_of rs
names_stay at e [] = refl
names_stay at e (r ∷ rs) = ap (λ n. n ∷ map name_of (map (receiver_by at e) rs)) (number_stays at e r) ∙ ap (λ l. name_of r ∷ l) (names_stay at e rs)

pub known_names : (n : ℕ) (rs : List Receiver) → is_known rs n ≡ is_named (map name_of rs) n
known_names n [] = refl
known_names n (r ∷ rs) = ap (λ b. nat_eq r.number n || b) (known_names n rs)

pub agree_names : (n : ℕ) (name : List ℕ) (rs : List Receiver) → list_all (has_name n name) rs ≡ list_all (agrees n name) (map name_of rs)
agree_names n name [] = refl
agree_names n name (r ∷ rs) = ap (λ b. agrees n name (name_of r) && b) (agree_names n name rs)

or_again : (a k : Bool) → (a || k) ≡ ((a || k) || a)
or_again true k = refl
or_again false k = sym (or_false k)

or_move : (a k x : Bool) → (a || (k || x)) ≡ ((a || k) || x)
or_move true k x = refl
or_move false k x = refl

and_true : (b : Bool) → (b && true) ≡ b
and_true true = refl
and_true false = refl

and_again : (a k : Bool) → (a && k) ≡ ((a && k) && a)
and_again true k = sym (and_true k)
and_again false k = refl

and_move : (a k x : Bool) → (a && (k && x)) ≡ ((a && k) && x)
and_move true k x = refl
and_move false k x = refl

-- a name more
module _ (m : ℕ) (name address : List ℕ) where
  abbrev pub pair : Name
  pair = record { number = m; name = name }

  pub known_more : (n : ℕ) (rs : List Receiver) → is_known (named m name address rs) n ≡ (is_known rs n || nat_eq m n)
  known_more n [] = or_false (nat_eq m n)
  known_more n (r ∷ rs) = by_number (nat_eq r.number m) refl (known_more n rs)
    where
      by_number : (b : Bool) → nat_eq r.number m ≡ b → is_known (named m name address rs) n ≡ (is_known rs n || nat_eq m n)
          → is_known (cond b (record r { address = address } ∷ rs) (r ∷ named m name address rs)) n ≡ ((nat_eq r.number n || is_known rs n) || nat_eq m n)
      by_number true is rest = or_again (nat_eq r.number n) (is_known rs n) ∙ ap (λ k. (nat_eq r.number n || is_known rs n) || nat_eq k n) (eqb-true r.number m is)
      by_number false is rest = ap (λ b. nat_eq r.number n || b) rest ∙ or_move (nat_eq r.number n) (is_known rs n) (nat_eq m n)

  same_name : (r : Receiver) → nat_eq r.number m ≡ true → has_name m name r ≡ true → name_of r ≡ pair
  same_name r is agree =
      let same : bytes_eq r.name name ≡ true = sym (ap (λ b. cond b (bytes_eq r.name name) (not (bytes_eq r.name name))) is) ∙ agree in
      let number = eqb-true r.number m is in
      let text : r.name ≡ name = (bytes_eq-Decides r.name name).0 same in
      ap (λ k. record { number = k; name = r.name }) number ∙ ap (λ l. record { number = m; name = l }) text

  pub agree_more : (n : ℕ) (other : List ℕ) (rs : List Receiver) → list_all (has_name m name) rs ≡ true
      → list_all (has_name n other) (named m name address rs) ≡ (list_all (has_name n other) rs && agrees n other pair)
  agree_more n other [] all = and_true (agrees n other pair)
  agree_more n other (r ∷ rs) all =
      let parts = and_parts (has_name m name r) (list_all (has_name m name) rs) all in
      by_number (nat_eq r.number m) refl parts.0 (agree_more n other rs parts.1)
    where
      by_number : (b : Bool) → nat_eq r.number m ≡ b → has_name m name r ≡ true
          → list_all (has_name n other) (named m name address rs) ≡ (list_all (has_name n other) rs && agrees n other pair)
          → list_all (has_name n other) (cond b (record r { address = address } ∷ rs) (r ∷ named m name address rs)) ≡ ((has_name n other r && list_all (has_name n other) rs) && agrees n other pair)
      by_number true is agree rest = and_again (has_name n other r) (list_all (has_name n other) rs) ∙ ap (λ p. (has_name n other r && list_all (has_name n other) rs) && agrees n other p) (same_name r is agree)
      by_number false is agree rest = ap (λ b. has_name n other r && b) rest ∙ and_move (has_name n other r) (list_all (has_name n other) rs) (agrees n other pair)

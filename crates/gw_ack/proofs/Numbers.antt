-- Entries under a number, and those behind them.
use Rattle.std.proofs.Common.{◌≡◌, ◌≢◌, ℕ, zero, suc, ◌+◌, ◌<◌, ◌≤◌, true, false, List, [], ◌∷◌, ◌++◌, map, refl, sym, ap, subst, ◌∙◌, append_assoc, arith, inl, inr}
use Rattle.std.proofs.Common.{Ordering, Greater}
use Rattle.std.proofs.lemmas.Bool.{cases_eq, cases_lt, eq-eqb, ne_eqb}
use Rattle.std.specs.Prelude.{T, ◌==◌}
use Rattle.std.specs.List.{AllByRecursion}
use Rattle.std.specs.Ordering.{is_lt, ordering_then}
use Rattle.std.specs.Cmp.{nat_cmp_is}
use Rattle.std.specs.FinMap.Entries.{is_sorted, below_all}
use Rattle.gw_er7.specs.Entries.{Entry, under}
use Rattle.gw_er7.specs.Message.{first_number}
use Rattle.gw_er7.specs.Written.{those, strip, last_number, parts_from}
use Rattle.gw_er7.proofs.Each.{Each-weaker}
use Rattle.gw_er7.proofs.Sorted.{order, first, second}

-- each first number is this one at least
abbrev pub From : ℕ → List Entry → Type 0
From n es = AllByRecursion (λ e. n ≤ first_number e.0) es

pub strip_same : (n : ℕ) (key text : List ℕ) → strip n (n ∷ key) text ≡ (key, text) ∷ []
strip_same n key text = let same : (n == n) ≡ true = eq-eqb n n refl in rw same refl

pub strip_other : (n m : ℕ) (key text : List ℕ) → m ≢ n → strip n (m ∷ key) text ≡ []
strip_other n m key text apart = let other : (m == n) ≡ false = ne_eqb m n apart in rw other refl

-- nothing stands under a number that begins no key
pub none_under : (n : ℕ) (es : List Entry) → AllByRecursion (λ e. first_number e.0 ≢ n) es → those n es ≡ []
none_under n [] h = refl
none_under n (e ∷ es) h = ap (λ (front : List Entry). front ++ those n es) (none e.0 e.1 h.0) ∙ none_under n es h.1
  where
    none : (key text : List ℕ) → first_number key ≢ n → strip n key text ≡ []
    none [] text apart = refl
    none (m ∷ key) text apart = strip_other n m key text apart

pub none_below : (n m : ℕ) (es : List Entry) → n < m → From m es → those n es ≡ []
none_below n m es lt h = none_under n es (Each-weaker (λ e. m ≤ first_number e.0) (λ e. first_number e.0 ≢ n) (λ e le is. absurd (omega (arith, le, is, lt))) es h)

pub those-append : (n : ℕ) (es others : List Entry) → those n (es ++ others) ≡ those n es ++ those n others
those-append n [] others = refl
those-append n (e ∷ es) others =
    ap (λ (rest : List Entry). strip n e.0 e.1 ++ rest) (those-append n es others) ∙ sym (append_assoc (strip n e.0 e.1) (those n es) (those n others))

-- behind a key no first number is below its own
pub from_below : (m : ℕ) (key : List ℕ) (es : List Entry) → T (below_all order (m ∷ key) es) → From m es
from_below m key [] h = tt
from_below m key (e ∷ es) h = (least e.0 (first _ _ h), from_below m key es (second _ _ h))
  where
    least : (other : List ℕ) → T (is_lt (order (m ∷ key) other)) → m ≤ first_number other
    least [] h = absurd h
    least (b ∷ other) h =
        elim (cases_lt b m) as (λ _. m ≤ b) [
          | inl lt ↦ absurd (subst (λ (r : Ordering). T (is_lt (ordering_then r (order key other)))) (sym (nat_cmp_is m b Greater lt)) h)
          | inr le ↦ le
        ]

-- entries in order, cut behind those of one number
pub record Cut (n : ℕ) (es : List Entry) : Type 0 where
  pub later : List Entry
  pub whole : es ≡ map (under n) (those n es) ++ later
  pub from : From (n + 1) later
  pub sorted : T (is_sorted order later)
  pub same : (k : ℕ) → n < k → those k es ≡ those k later
  pub last : last_number later ≤ last_number es

pub cut : (n : ℕ) (es : List Entry) → 0 < n → T (is_sorted order es) → From n es → Cut n es
cut n [] lt s h = record { later = []; whole = refl; from = tt; sorted = tt; same = λ k l. refl; last = omega arith }
cut n (e ∷ es) lt s h = by e.0 e.1 s h.0 (cut n es lt (second _ _ s) h.1)
  where
    here : (key text : List ℕ) → Cut n es → Cut n ((n ∷ key, text) ∷ es)
    here key text c = record {
      later = c.later;
      whole = ap (λ (rest : List Entry). (n ∷ key, text) ∷ rest) c.whole
          ∙ sym (ap (λ (front : List Entry). map (under n) (front ++ those n es) ++ c.later) (strip_same n key text));
      from = c.from;
      sorted = c.sorted;
      same = λ k l. ap (λ (front : List Entry). front ++ those k es) (strip_other k n key text (λ e. absurd (omega (arith, l, e)))) ∙ c.same k l;
      last = omega (arith, c.last);
    }

    there : (m : ℕ) (key text : List ℕ) → n < m → T (is_sorted order ((m ∷ key, text) ∷ es)) → Cut n ((m ∷ key, text) ∷ es)
    there m key text far s =
        let all : From m ((m ∷ key, text) ∷ es) = (omega arith, from_below m key es (first _ _ s)) in
        record {
          later = (m ∷ key, text) ∷ es;
          whole = sym (ap (λ (front : List Entry). map (under n) front ++ ((m ∷ key, text) ∷ es)) (none_below n m ((m ∷ key, text) ∷ es) far all));
          from = Each-weaker (λ e. m ≤ first_number e.0) (λ e. n + 1 ≤ first_number e.0) (λ e le. omega (arith, le, far)) ((m ∷ key, text) ∷ es) all;
          sorted = s;
          same = λ k l. refl;
          last = omega arith;
        }

    by : (key text : List ℕ) → T (is_sorted order ((key, text) ∷ es)) → n ≤ first_number key → Cut n es → Cut n ((key, text) ∷ es)
    by [] text s le c = absurd (omega (arith, lt, le))
    by (m ∷ key) text s le c =
        elim (cases_eq m n) as (λ _. Cut n ((m ∷ key, text) ∷ es)) [
          | inl e ↦ subst (λ (j : ℕ). Cut n ((j ∷ key, text) ∷ es)) (sym e) (here key text c)
          | inr apart ↦ there m key text (omega (arith, le, apart)) s
        ]

pub parts_same : (write : List Entry → List ℕ) (es later : List Entry) (m count : ℕ) → ((k : ℕ) → m ≤ k → those k es ≡ those k later)
    → parts_from write es m count ≡ parts_from write later m count
parts_same write es later m zero same = refl
parts_same write es later m (suc count) same =
    ap (λ (x : List Entry). write x ∷ parts_from write es (m + 1) count) (same m (omega arith))
    ∙ ap (λ (ps : List (List ℕ)). write (those m later) ∷ ps) (parts_same write es later (m + 1) count (λ k le. same k (omega (arith, le))))

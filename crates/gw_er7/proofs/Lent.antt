-- Segments as they are lent: what their texts stand for.
use Rattle.std.proofs.Common.{◌≡◌, ℕ, zero, suc, ◌+◌, ◌-◌, ◌<◌, ◌≤◌, true, false, List, [], ◌∷◌, length, get_or, Bool, Option, Some, Less, refl, sym, ap, subst, ◌∙◌, arith}
use Rattle.std.specs.Prelude.{slice_get, unwrap_or}
use Rattle.std.proofs.lemmas.Bool.{true≢false}
use Rattle.std.proofs.lemmas.List.{length-map}
use Rattle.std.specs.List.{AllByRecursion}
use Rattle.std.specs.List.Sorted.{IsPartitionPoint}
use Rattle.std.specs.Ordering.{nat_cmp, is_lt}
use Rattle.std.specs.Cmp.Lexicographic.{slice_cmp}
use Rattle.std.specs.FinMap as texts
use Rattle.std.specs.FinMap.{find, entries-from_sorted, get-from_sorted}
use Rattle.gw_er7.specs.declared.place.Place.{Place}
use Rattle.gw_er7.specs.Message.{numbers, SegmentValue, text_at, first_field, IsKey, IsEntry, IsSegment}
use Rattle.gw_er7.specs.Entries.{Entry}
use Rattle.gw_er7.specs.Presence.{IsStart}
use Rattle.gw_er7.specs.View.{Held, entry_of, entries_of, is_below, is_within, stored, IsLent, AreValues}
use Rattle.gw_er7.proofs.Sorted.{order}
use Rattle.gw_er7.proofs.Each.{Each-weaker}
use Rattle.gw_er7.proofs.Finds.{lt_true}
use Rattle.gw_er7.proofs.Under.{cmp_tells}

one_positive : (n : ℕ) (k : List ℕ) → IsKey n k → IsKey 1 k
one_positive n [] is = absurd (let four = is.four in omega arith)
one_positive n (m ∷ k) is = record { four = is.four; positive = is.positive; field = omega (arith, is.positive.0) }

all_one : (n : ℕ) (es : List Entry) → AllByRecursion (IsEntry n) es → AllByRecursion (IsEntry 1) es
all_one n es h = Each-weaker (IsEntry n) (IsEntry 1) (λ e is. record { key = one_positive n e.0 is.key; text = is.text; some = is.some }) es h

pub values_of : (name : List ℕ) (xs : List Held) → IsLent name xs → AreValues xs
values_of name xs is = record {
  sorted = is.sorted;
  each = all_one (first_field name) (entries_of xs) (subst (λ (es : List Entry). AllByRecursion (IsEntry (first_field name)) es) (entries-from_sorted (slice_cmp nat_cmp) (entries_of xs) is.sorted) is.segment.each);
}

pub segment_is : (name : List ℕ) (xs : List Held) (s : SegmentValue) → IsLent name xs → stored name xs ≡ s → IsSegment s
segment_is name xs s is e = subst (λ (v : SegmentValue). IsSegment v) e is.segment

pub entries_are : (name : List ℕ) (xs : List Held) (s : SegmentValue) → IsLent name xs → stored name xs ≡ s → entries_of xs ≡ texts.entries s.at
entries_are name xs s is e = sym (entries-from_sorted (slice_cmp nat_cmp) (entries_of xs) is.sorted) ∙ ap (λ (v : SegmentValue). texts.entries v.at) e

pub count_is : (name : List ℕ) (xs : List Held) (s : SegmentValue) → IsLent name xs → stored name xs ≡ s → length xs ≡ length (texts.entries s.at)
count_is name xs s is e = sym (length-map xs entry_of) ∙ ap length (entries_are name xs s is e)

pub entry_here : (xs : List Held) (i : ℕ) (l : Held) → i < length xs → l ≡ get_or xs i l → slice_get (entries_of xs) i ≡ Some (entry_of l)
entry_here [] i l lt e = absurd (omega arith)
entry_here (x ∷ xs) zero l lt e = ap (λ (m : Held). Some (entry_of m)) (sym e)
entry_here (x ∷ xs) (suc i) l lt e = entry_here xs i l (omega arith) e

-- the text of this number
pub value_is : (name : List ℕ) (xs : List Held) (s : SegmentValue) (i : ℕ) (l : Held) → IsLent name xs → stored name xs ≡ s → i < length (texts.entries s.at) → get_or xs i l ≡ l → slice_get (texts.entries s.at) i ≡ Some (entry_of l)
value_is name xs s i l is e lt at =
    let short : i < length xs = omega (arith, lt, count_is name xs s is e) in
    ap (λ (es : List Entry). slice_get es i) (sym (entries_are name xs s is e)) ∙ entry_here xs i l short (sym at)

pub text_is : (name : List ℕ) (xs : List Held) (s : SegmentValue) (p : Place) → IsLent name xs → stored name xs ≡ s → unwrap_or (find order (numbers p) (entries_of xs)) [] ≡ text_at s p
text_is name xs s p is e =
    sym (ap (λ (o : Option (List ℕ)). unwrap_or o []) (get-from_sorted (slice_cmp nat_cmp) (entries_of xs) (numbers p) is.sorted)) ∙ ap (λ (v : SegmentValue). text_at v p) e

-- ---- where a place begins

record HasEntry (xs : List Held) (i : ℕ) (e : Entry) : Type 0 where
  span : Held
  within : i < length xs
  here : get_or xs i span ≡ span
  is : entry_of span ≡ e

has_entry : (xs : List Held) (i : ℕ) (e : Entry) → slice_get (entries_of xs) i ≡ Some e → HasEntry xs i e
has_entry [] i e h = absurd (let z : ⊥ = cc in z)
has_entry (x ∷ xs) zero e h = (let same : entry_of x ≡ e = cc in record { span = x; within = omega arith; here = refl; is = same })
has_entry (x ∷ xs) (suc i) e h = (let more = has_entry xs i e h in record { span = more.span; within = omega (arith, more.within); here = more.here; is = more.is })

start_at : (q : List ℕ) (xs : List Held) (n : ℕ) → n ≤ length xs → IsPartitionPoint (λ l. is_below q l ≡ true) (λ l. is_below q l ≡ false) xs n → IsStart q (entries_of xs) n
start_at q xs n bound point = record {
  bound = omega (arith, length-map xs entry_of);
  before = λ i e lt h. (let at = has_entry xs i e h in
      subst (λ (x : Entry). order x.0 q ≡ Less) at.is (lt_true _ (ap (is_below q) (sym at.here) ∙ point.0 i at.span (omega arith) lt)));
  from = λ i e le h is. (let at = has_entry xs i e h in
      let out : is_below q at.span ≡ false = ap (is_below q) (sym at.here) ∙ point.1 i at.span le at.within in
      let in_it : is_below q at.span ≡ true = ap (λ (x : Entry). is_lt (order x.0 q)) at.is ∙ ap is_lt is in
      true≢false (sym in_it ∙ out));
}

pub lent_start : (q name : List ℕ) (xs : List Held) (s : SegmentValue) (n : ℕ) → IsLent name xs → stored name xs ≡ s → IsStart q (entries_of xs) n → IsStart q (texts.entries s.at) n
lent_start q name xs s n is e start = subst (λ (es : List Entry). IsStart q es n) (entries_are name xs s is e) start

pub start_is : (q name : List ℕ) (xs : List Held) (s : SegmentValue) (n : ℕ) → IsLent name xs → stored name xs ≡ s → n ≤ length xs → IsPartitionPoint (λ l. is_below q l ≡ true) (λ l. is_below q l ≡ false) xs n → IsStart q (texts.entries s.at) n
start_is q name xs s n is e bound point = lent_start q name xs s n is e (start_at q xs n bound point)

-- ---- where a field begins and ends

start_by : (q : List ℕ) (test : Held → Bool) (xs : List Held) (m : ℕ) → ((l : Held) → test l ≡ is_below q l) → m ≤ length xs → IsPartitionPoint (λ l. test l ≡ true) (λ l. test l ≡ false) xs m → IsStart q (entries_of xs) m
start_by q test xs m same bound point =
    start_at q xs m bound ((λ k d low high. sym (same (get_or xs k d)) ∙ point.0 k d low high), (λ k d low high. sym (same (get_or xs k d)) ∙ point.1 k d low high))

pub field_behind : (n : ℕ) (xs : List Held) (m : ℕ) → m ≤ length xs → IsPartitionPoint (λ l. is_within (n ∷ []) l ≡ true) (λ l. is_within (n ∷ []) l ≡ false) xs m → IsStart ((n + 1) ∷ []) (entries_of xs) m
field_behind n xs m bound point = start_by ((n + 1) ∷ []) (is_within (n ∷ [])) xs m (λ l. grind (arith, cmp_tells)) bound point

pub field_first : (n : ℕ) (xs : List Held) (m : ℕ) → 0 < n → m ≤ length xs → IsPartitionPoint (λ l. is_within ((n - 1) ∷ []) l ≡ true) (λ l. is_within ((n - 1) ∷ []) l ≡ false) xs m → IsStart (n ∷ []) (entries_of xs) m
field_first n xs m some bound point = (let e : n - 1 + 1 ≡ n = omega arith in subst (λ (k : ℕ). IsStart (k ∷ []) (entries_of xs) m) e (field_behind (n - 1) xs m bound point))

-- ---- where a repetition begins and ends

pub rep_behind : (f n : ℕ) (xs : List Held) (m : ℕ) → m ≤ length xs → IsPartitionPoint (λ l. is_within (f ∷ n ∷ []) l ≡ true) (λ l. is_within (f ∷ n ∷ []) l ≡ false) xs m → IsStart (f ∷ (n + 1) ∷ []) (entries_of xs) m
rep_behind f n xs m bound point = start_by (f ∷ (n + 1) ∷ []) (is_within (f ∷ n ∷ [])) xs m (λ l. grind (arith, cmp_tells)) bound point

pub rep_first : (f n : ℕ) (xs : List Held) (m : ℕ) → m ≤ length xs → IsPartitionPoint (λ l. is_below (f ∷ n ∷ 0 ∷ 0 ∷ []) l ≡ true) (λ l. is_below (f ∷ n ∷ 0 ∷ 0 ∷ []) l ≡ false) xs m → IsStart (f ∷ n ∷ []) (entries_of xs) m
rep_first f n xs m bound point = start_by (f ∷ n ∷ []) (is_below (f ∷ n ∷ 0 ∷ 0 ∷ [])) xs m (λ l. grind (arith, cmp_tells)) bound point

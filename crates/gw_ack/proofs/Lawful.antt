-- The rows of an answer can stand in a message.
use Rattle.std.proofs.Common.{◌≡◌, ℕ, suc, ◌+◌, ◌<◌, ◌≤◌, true, List, [], ◌∷◌, ◌++◌, length, map, refl, sym, ap, subst, ◌∙◌, arith}
use Rattle.std.proofs.Common.{Option, None, Some, Ordering, Less}
use Rattle.std.proofs.lemmas.Bool.{and_parts, cond_both, eqb-true}
use Rattle.std.proofs.lemmas.Bool.Decides.{nat_tests}
use Rattle.std.proofs.lemmas.Str.Parse.{digit_from_value}
use Rattle.std.specs.Prelude.{◌==◌, T, slice_index, EachIndex, unwrap_or}
use Rattle.std.specs.List.{AllByRecursion}
use Rattle.std.specs.Str.Parse.{AllDigits}
use Rattle.std.specs.Ordering.{is_lt, ordering_then}
use Rattle.std.specs.Cmp.{nat_cmp_is}
use Rattle.std.specs.FinMap as texts
use Rattle.std.specs.FinMap.Entries.{is_sorted, below_all}
use Rattle.gw_er7.specs.Entries.{Entry}
use Rattle.gw_er7.specs.Message.{SegmentValue, IsEntry, IsSegment, first_field, first_number}
use Rattle.gw_er7.specs.Names.{is_name, is_named}
use Rattle.gw_er7.specs.Text.{IsCanonical, IsPlain, Plain}
use Rattle.gw_er7.specs.Written.{those, strip}
use Rattle.gw_er7.proofs.Again.{name-each}
use Rattle.gw_er7.proofs.Builds.{canonical_of}
use Rattle.gw_er7.proofs.Each.{Each-append, Each-weaker}
use Rattle.gw_er7.proofs.Once.{get_kept}
use Rattle.gw_er7.proofs.Sorted.{order, cmp-same, both, first, second}
use Rattle.gw_ack.specs.Answers.{components, field, copied}
use Rattle.gw_ack.specs.Headers.{IsHeaderValue, header_in, first_repetition}
use Rattle.gw_ack.specs.Rows.{AreRows, IsKeyed, IsRepetition}

-- ---- what stands under a number

stripped : (number : ℕ) (P Q : Entry → Type 0) → ((key text : List ℕ) → P (number ∷ key, text) → Q (key, text)) → (key text : List ℕ) → P (key, text)
    → AllByRecursion Q (strip number key text)
stripped number P Q to [] text h = tt
stripped number P Q to (m ∷ key) text h =
    cond_both (m == number) ((key, text) ∷ []) [] (AllByRecursion Q)
    (λ is. (to key text (subst (λ (k : ℕ). P (k ∷ key, text)) (eqb-true m number is) h), tt)) (λ _. tt)

those-each : (number : ℕ) (P Q : Entry → Type 0) → ((key text : List ℕ) → P (number ∷ key, text) → Q (key, text)) → (es : List Entry) → AllByRecursion P es
    → AllByRecursion Q (those number es)
those-each number P Q to [] h = tt
those-each number P Q to (e ∷ es) h =
    Each-append Q (strip number e.0 e.1) (those number es) (stripped number P Q to e.0 e.1 h.0) (those-each number P Q to es h.1)

pub those-keyed : (number count : ℕ) (es : List Entry) → AllByRecursion (IsKeyed (suc count)) es → AllByRecursion (IsKeyed count) (those number es)
those-keyed number count =
    those-each number (IsKeyed (suc count)) (IsKeyed count) (λ key text is.
    record { count_is = omega (arith, is.count_is); positive = is.positive.1; text = is.text; some = is.some })

-- those of entries in order are in order
strip-below : (number : ℕ) (key other text : List ℕ) (rest : List Entry) → T (is_lt (order (number ∷ key) other)) → T (below_all order key rest)
    → T (below_all order key (strip number other text ++ rest))
strip-below number key [] text rest h k = k
strip-below number key (m ∷ other) text rest h k =
    cond_both (m == number) ((other, text) ∷ []) [] (λ front. T (below_all order key (front ++ rest)))
    (λ is. both _ _ (subst (λ (r : Ordering). T (is_lt r)) (cmp-same number key other)
    (subst (λ (j : ℕ). T (is_lt (order (number ∷ key) (j ∷ other)))) (eqb-true m number is) h)) k) (λ _. k)

those-below : (number : ℕ) (key : List ℕ) (es : List Entry) → T (below_all order (number ∷ key) es) → T (below_all order key (those number es))
those-below number key [] h = tt
those-below number key (e ∷ es) h = strip-below number key e.0 e.1 (those number es) (first _ _ h) (those-below number key es (second _ _ h))

strip-sorted : (number : ℕ) (key text : List ℕ) (es : List Entry) → T (below_all order key es) → T (is_sorted order (those number es))
    → T (is_sorted order (strip number key text ++ those number es))
strip-sorted number [] text es h k = k
strip-sorted number (m ∷ key) text es h k =
    cond_both (m == number) ((key, text) ∷ []) [] (λ front. T (is_sorted order (front ++ those number es)))
    (λ is. both _ _ (those-below number key es (subst (λ (j : ℕ). T (below_all order (j ∷ key) es)) (eqb-true m number is) h)) k) (λ _. k)

pub those-sorted : (number : ℕ) (es : List Entry) → T (is_sorted order es) → T (is_sorted order (those number es))
those-sorted number [] h = tt
those-sorted number (e ∷ es) h = strip-sorted number e.0 e.1 es (first _ _ h) (those-sorted number es (second _ _ h))

pub repetition_is_lawful : (least number : ℕ) (es : List Entry) → T (is_sorted order es) → AllByRecursion (IsEntry least) es
    → IsRepetition (first_repetition number es)
repetition_is_lawful least number es sorted each =
    let four : AllByRecursion (IsKeyed 4) es =
    Each-weaker (IsEntry least) (IsKeyed 4) (λ e h. record { count_is = h.key.four; positive = h.key.positive; text = h.text; some = h.some }) es each in
    record {
      sorted = those-sorted 1 (those number es) (those-sorted number es sorted);
      each = those-keyed 1 2 (those number es) (those-keyed number 3 es four);
    }

-- ---- texts

pub plain_is_canonical : (text : List ℕ) → AllByRecursion IsPlain text → IsCanonical text
plain_is_canonical [] h = canonical_of [] refl
plain_is_canonical (b ∷ text) h =
    let rest = plain_is_canonical text h.1 in
    record { items = Plain b ∷ rest.items; whole = ap (λ (x : List ℕ). b ∷ x) rest.whole; each = (h.0, rest.each) }

pub byte_is_plain : (b : ℕ) → 48 ≤ b → b ≤ 90 → IsPlain b
byte_is_plain b low high = record { range = (omega arith, λ lt. absurd (omega arith)); not_special = grind (arith, nat_tests) }

pub digits_are_plain : (text : List ℕ) → AllDigits 10 text → AllByRecursion IsPlain text
digits_are_plain [] h = tt
digits_are_plain (c ∷ text) h =
    let range = digit_from_value c h.0 in let high : c ≤ 57 = range.1 in (byte_is_plain c range.0 (omega arith), digits_are_plain text h.1)

pub name_is_canonical : (name : List ℕ) → is_name name ≡ true → IsCanonical name
name_is_canonical name e =
    let both = and_parts (length name == 3) (is_named name) e in
    plain_is_canonical name (name-each IsPlain byte_is_plain name (record { three = eqb-true (length name) 3 both.0; lawful = both.1 }))

abbrev AreDigits : List ℕ → Type 0
AreDigits text = EachIndex text (λ k. (48 ≤ slice_index text k) × (slice_index text k ≤ 57))

pub digits_are_canonical : (text : List ℕ) → EachIndex text (λ k. (48 ≤ slice_index text k) × (slice_index text k ≤ 57)) → IsCanonical text
digits_are_canonical text h = plain_is_canonical text (each text h)
  where
    each : (text : List ℕ) → AreDigits text → AllByRecursion IsPlain text
    each [] h = tt
    each (b ∷ text) h =
        let high : b ≤ 57 = (h 0 (omega arith)).1 in (byte_is_plain b (h 0 (omega arith)).0 (omega arith), each text (λ k lt. h (suc k) (omega arith)))

-- ---- headers

text_is_canonical : (s : SegmentValue) (key : List ℕ) → IsSegment s → IsCanonical (unwrap_or (texts.get s.at key) [])
text_is_canonical s key is = found (texts.get s.at key) refl
  where
    found : (o : Option (List ℕ)) → texts.get s.at key ≡ o → IsCanonical (unwrap_or o [])
    found None e = canonical_of [] refl
    found (Some t) e = (get_kept s key t is e).text

pub header_is_lawful : (s : SegmentValue) → IsSegment s → IsHeaderValue (header_in s)
header_is_lawful s h =
    let lawful : (number : ℕ) → IsRepetition (first_repetition number (texts.entries s.at)) =
    λ number. repetition_is_lawful (first_field s.name) number (texts.entries s.at) (texts.entries_sorted s.at) h.each in
    record {
      sending_application = lawful 3;
      sending_facility = lawful 4;
      receiving_application = lawful 5;
      receiving_facility = lawful 6;
      event = text_is_canonical s (9 ∷ 1 ∷ 2 ∷ 1 ∷ []) h;
      control = text_is_canonical s (10 ∷ 1 ∷ 1 ∷ 1 ∷ []) h;
      processing = lawful 11;
    }

-- ---- rows of a table, field by field

lower : (key other : List ℕ) → first_number key < first_number other → T (is_lt (order key other))
lower key [] h = absurd (omega arith)
lower [] (m ∷ other) h = tt
lower (n ∷ key) (m ∷ other) h = subst (λ (r : Ordering). T (is_lt (ordering_then r (order key other)))) (nat_cmp_is n m Less h) tt

below-later : (number : ℕ) (key : List ℕ) (others : List Entry) → first_number key ≡ number → AllByRecursion (λ e. number + 1 ≤ first_number e.0) others
    → T (below_all order key others)
below-later number key [] is h = tt
below-later number key (e ∷ others) is h = both _ _ (lower key e.0 (omega (arith, is, h.0))) (below-later number key others is h.1)

below-append : (key : List ℕ) (es rest : List Entry) → T (below_all order key es) → T (below_all order key rest) → T (below_all order key (es ++ rest))
below-append key [] rest h k = k
below-append key (e ∷ es) rest h k = both _ _ (first _ _ h) (below-append key es rest (second _ _ h) k)

pub record Piece (least number : ℕ) (rows : List Entry) : Type 0 where
  pub lawful : AreRows least rows
  pub here : AllByRecursion (λ e. first_number e.0 ≡ number) rows

-- rows from this field on
pub record From (least low : ℕ) (rows : List Entry) : Type 0 where
  pub lawful : AreRows least rows
  pub from : AllByRecursion (λ e. low ≤ first_number e.0) rows

pub no_rows : (least low : ℕ) → From least low []
no_rows least low = record { lawful = record { sorted = tt; each = tt }; from = tt }

joined : (number : ℕ) (rows others : List Entry) → T (is_sorted order rows) → AllByRecursion (λ e. first_number e.0 ≡ number) rows → T (is_sorted order others)
    → AllByRecursion (λ e. number + 1 ≤ first_number e.0) others → T (is_sorted order (rows ++ others))
joined number [] others d h e k = e
joined number (r ∷ rows) others d h e k =
    both _ _ (below-append r.0 rows others (first _ _ d) (below-later number r.0 others h.0 k)) (joined number rows others (second _ _ d) h.1 e k)

pub next : (least low number : ℕ) (rows others : List Entry) → low ≤ number → Piece least number rows → From least (number + 1) others
    → From least low (rows ++ others)
next least low number rows others le piece rest = record {
  lawful = record {
    sorted = joined number rows others piece.lawful.sorted piece.here rest.lawful.sorted rest.from;
    each = Each-append (IsEntry least) rows others piece.lawful.each rest.lawful.each;
  };
  from = Each-append (λ e. low ≤ first_number e.0) rows others
      (Each-weaker (λ e. first_number e.0 ≡ number) (λ e. low ≤ first_number e.0) (λ e is. omega (arith, is, le)) rows piece.here)
      (Each-weaker (λ e. number + 1 ≤ first_number e.0) (λ e. low ≤ first_number e.0) (λ e is. omega (arith, is, le)) others rest.from);
}

-- a field that is a copy
mapped : (P Q : Entry → Type 0) (f : Entry → Entry) → ((e : Entry) → P e → Q (f e)) → (es : List Entry) → AllByRecursion P es → AllByRecursion Q (map f es)
mapped P Q f to [] h = tt
mapped P Q f to (e ∷ es) h = (to e h.0, mapped P Q f to es h.1)

copied-below : (number : ℕ) (key : List ℕ) (es : List Entry) → T (below_all order key es) → T (below_all order (number ∷ 1 ∷ key) (copied number es))
copied-below number key [] h = tt
copied-below number key (e ∷ es) h =
    both _ _ (subst (λ (r : Ordering). T (is_lt r)) (sym (cmp-same number (1 ∷ key) (1 ∷ e.0) ∙ cmp-same 1 key e.0)) (first _ _ h))
    (copied-below number key es (second _ _ h))

copied-sorted : (number : ℕ) (es : List Entry) → T (is_sorted order es) → T (is_sorted order (copied number es))
copied-sorted number [] h = tt
copied-sorted number (e ∷ es) h = both _ _ (copied-below number e.0 es (first _ _ h)) (copied-sorted number es (second _ _ h))

pub copied_piece : (least number : ℕ) (es : List Entry) → 0 < number → least ≤ number → IsRepetition es → Piece least number (copied number es)
copied_piece least number es some le h = record {
  lawful = record {
    sorted = copied-sorted number es h.sorted;
    each = mapped (IsKeyed 2) (IsEntry least) (λ x. (number ∷ 1 ∷ x.0, x.1)) (λ x is. record {
      key = record { four = omega (arith, is.count_is); positive = (some, (omega arith, is.positive)); field = le };
      text = is.text;
      some = is.some;
    }) es h.each;
  };
  here = mapped (IsKeyed 2) (λ x. first_number x.0 ≡ number) (λ x. (number ∷ 1 ∷ x.0, x.1)) (λ x is. refl) es h.each;
}

-- a field of components
components-each : (least number comp : ℕ) (parts : List (List ℕ)) → 0 < number → least ≤ number → 0 < comp → AllByRecursion IsCanonical parts
    → AllByRecursion (IsEntry least) (components number comp parts)
components-each least number comp [] some le pos h = tt
components-each least number comp ([] ∷ parts) some le pos h = components-each least number (comp + 1) parts some le (omega arith) h.1
components-each least number comp ((b ∷ text) ∷ parts) some le pos h = (
  record { key = record { four = refl; positive = (some, (omega arith, (pos, (omega arith, tt)))); field = le }; text = h.0; some = λ e. absurd cc },
  components-each least number (comp + 1) parts some le (omega arith) h.1,
)

components-below : (number before comp : ℕ) (parts : List (List ℕ)) → before < comp
    → T (below_all order (number ∷ 1 ∷ before ∷ 1 ∷ []) (components number comp parts))
components-below number before comp [] lt = tt
components-below number before comp ([] ∷ parts) lt = components-below number before (comp + 1) parts (omega (arith, lt))
components-below number before comp ((b ∷ text) ∷ parts) lt =
    both _ _ (subst (λ (r : Ordering). T (is_lt r)) (sym (cmp-same number (1 ∷ before ∷ 1 ∷ []) (1 ∷ comp ∷ 1 ∷ []) ∙ cmp-same 1 (before ∷ 1 ∷ []) (comp ∷ 1 ∷ [])))
    (lower (before ∷ 1 ∷ []) (comp ∷ 1 ∷ []) lt)) (components-below number before (comp + 1) parts (omega (arith, lt)))

components-sorted : (number comp : ℕ) (parts : List (List ℕ)) → T (is_sorted order (components number comp parts))
components-sorted number comp [] = tt
components-sorted number comp ([] ∷ parts) = components-sorted number (comp + 1) parts
components-sorted number comp ((b ∷ text) ∷ parts) =
    both _ _ (components-below number comp (comp + 1) parts (omega arith)) (components-sorted number (comp + 1) parts)

components-here : (number comp : ℕ) (parts : List (List ℕ)) → AllByRecursion (λ e. first_number e.0 ≡ number) (components number comp parts)
components-here number comp [] = tt
components-here number comp ([] ∷ parts) = components-here number (comp + 1) parts
components-here number comp ((b ∷ text) ∷ parts) = (refl, components-here number (comp + 1) parts)

pub field_piece : (least number : ℕ) (parts : List (List ℕ)) → 0 < number → least ≤ number → AllByRecursion IsCanonical parts
    → Piece least number (field number parts)
field_piece least number parts some le h = record {
  lawful = record { sorted = components-sorted number 1 parts; each = components-each least number 1 parts some le (omega arith) h };
  here = components-here number 1 parts;
}

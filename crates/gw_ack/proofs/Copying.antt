-- What a header copies of a segment is its repetitions as they are written.
use Rattle.std.proofs.Common.{◌≡◌, ℕ, zero, suc, ◌+◌, ◌<◌, ◌≤◌, List, [], ◌∷◌, ◌++◌, length, map, take, drop, Some, refl, sym, ap, subst, ◌∙◌, append_assoc, append-nil, arith}
use Rattle.std.proofs.lemmas.List.{drop_more, length-append}
use Rattle.std.proofs.lemmas.Option.{slice_get_within, get_or_from_slice_get}
use Rattle.std.specs.Prelude.{T, slice_get}
use Rattle.std.specs.List.{AllByRecursion}
use Rattle.std.specs.FinMap.Entries.{is_sorted}
use Rattle.gw_er7.specs.declared.place.Place.{Place}
use Rattle.gw_er7.specs.Entries.{Entry}
use Rattle.gw_er7.specs.Message.{first_number, numbers}
use Rattle.gw_er7.specs.View.{Held}
use Rattle.gw_er7.specs.Written.{those, leaf_text, component_text, repetition_text}
use Rattle.gw_er7.specs.own.Gaps.{gaps}
use Rattle.gw_er7.specs.own.Ordered.{IsAtLeast, IsOrdered}
use Rattle.gw_er7.proofs.Each.{Each-weaker}
use Rattle.gw_er7.proofs.Flat.{in_layer}
use Rattle.gw_er7.proofs.Sorted.{order, first, second}
use Rattle.gw_er7.proofs.Steps.{steps}
use Rattle.gw_ack.specs.declared.header.Span.{Span}
use Rattle.gw_ack.specs.Headers.{first_repetition}
use Rattle.gw_ack.specs.Rows.{IsKeyed, IsRepetition}
use Rattle.gw_ack.specs.Seen.{text_in}
use Rattle.gw_ack.specs.own.Kept.{marks, written_behind, Lies, IsReached}
use Rattle.gw_ack.proofs.Numbers.{from_below, none_below, strip_other}

-- ---- all of a repetition

-- a text at a component and a subcomponent, and without the first of its numbers
abbrev at_two : Held → Entry
at_two l = (l.place.comp ∷ l.place.sub ∷ [], l.text)

abbrev at_one : Held → Entry
at_one l = (l.place.sub ∷ [], l.text)

abbrev at_none : Held → Entry
at_none l = ([], l.text)

abbrev held : Entry → Held
held e = record { place = record { field = 1; rep = 1; comp = first_number e.0; sub = first_number (drop 1 e.0) }; text = e.1 }

held_is : (es : List Entry) → AllByRecursion (IsKeyed 2) es → map at_two (map held es) ≡ es
held_is [] h = refl
held_is (e ∷ es) h = ap (λ (x : Entry). x ∷ map at_two (map held es)) (one e.0 e.1 h.0.count_is) ∙ ap (λ (rest : List Entry). e ∷ rest) (held_is es h.1)
  where
    one : (key text : List ℕ) → length key ≡ 2 → at_two (held (key, text)) ≡ (key, text)
    one [] text len = absurd (omega (arith, len))
    one (n ∷ []) text len = absurd (omega (arith, len))
    one (n ∷ m ∷ []) text len = refl
    one (n ∷ m ∷ k ∷ key) text len = absurd (omega (arith, len))

subcomponents : (xs : List Held) → IsOrdered 1 (map at_none xs) → steps [] [] (map at_none xs) ≡ leaf_text (map at_none xs)
subcomponents [] is = refl
subcomponents (x ∷ []) is = append-nil x.text
subcomponents (x ∷ y ∷ xs) is = absurd is.rising

components : (xs : List Held) → IsOrdered 1 (map at_one xs) → steps (38 ∷ []) (1 ∷ []) (map at_one xs) ≡ component_text (map at_one xs)
components xs is = in_layer (λ l. l.place.sub) at_none 38 [] leaf_text refl subcomponents 1 xs (omega arith) is

ordered : (es : List Entry) → IsRepetition es → IsOrdered 1 es
ordered es h = record {
  rising = h.sorted;
  from = Each-weaker (IsKeyed 2) (λ e. IsAtLeast 1 e.0) (λ e is. least e.0 is.positive) es h.each;
  positive = Each-weaker (IsKeyed 2) (λ e. AllByRecursion (λ n. 0 < n) e.0) (λ e is. is.positive) es h.each;
}
  where
    least : (key : List ℕ) → AllByRecursion (λ n. 0 < n) key → IsAtLeast 1 key
    least [] h = tt
    least (n ∷ key) h = omega (arith, h.0)

stepwise : (key : List ℕ) (es : List Entry) → written_behind key es ≡ steps marks key es
stepwise key [] = refl
stepwise key (e ∷ es) = ap (λ (rest : List ℕ). gaps marks key e.0 ++ (e.1 ++ rest)) (stepwise e.0 es)

pub all_written : (es : List Entry) → IsRepetition es → written_behind (1 ∷ 1 ∷ []) es ≡ repetition_text es
all_written es h =
    let is = held_is es h.each in
    stepwise (1 ∷ 1 ∷ []) es
    ∙ subst (λ (xs : List Entry). steps marks (1 ∷ 1 ∷ []) xs ≡ repetition_text xs) is
    (in_layer (λ l. l.place.comp) at_one 94 (38 ∷ []) component_text refl components 1 (map held es) (omega arith) (subst (λ (xs : List Entry). IsOrdered 1 xs) (sym is) (ordered es h)))

-- ---- text by text

-- how far the copy of a field has come
pub record IsCopying (es : List Entry) (field i : ℕ) (here old now : List ℕ) : Type 0 where
  pub written : now ++ written_behind here (first_repetition field (drop i es)) ≡ old ++ written_behind (1 ∷ 1 ∷ []) (first_repetition field es)
  pub passed : IsReached (field + 1) es i

next_is : (es : List Entry) (i : ℕ) (e : Entry) → slice_get es i ≡ Some e → drop i es ≡ e ∷ drop (i + 1) es
next_is es i e is = drop_more es i e (slice_get_within es i e is) ∙ ap (λ (x : Entry). x ∷ drop (i + 1) es) (get_or_from_slice_get es i e e is)

pub copied_more : (es : List Entry) (field i : ℕ) (p : Place) (text here there old now then : List ℕ) → slice_get es i ≡ Some (numbers p, text) → p.field ≤ field
    → then ++ written_behind there (first_repetition field (drop (i + 1) es)) ≡ now ++ written_behind here (first_repetition field ((numbers p, text) ∷ drop (i + 1) es))
    → IsCopying es field i here old now → IsCopying es field (i + 1) there old then
copied_more es field i p text here there old now then is le step h =
    let next = next_is es i (numbers p, text) is in
    record {
      written = step ∙ ap (λ (xs : List Entry). now ++ written_behind here (first_repetition field xs)) (sym next) ∙ h.written;
      passed = λ k l. sym (ap (λ (front : List Entry). front ++ those k (drop (i + 1) es))
          (strip_other k p.field (p.rep ∷ p.comp ∷ p.sub ∷ []) text (λ e. absurd (omega (arith, l, le, e)))))
          ∙ ap (those k) (sym next) ∙ h.passed k l;
    }

none_left : (es : List Entry) (field i : ℕ) (here old now : List ℕ) → those field (drop i es) ≡ [] → IsCopying es field i here old now
    → now ≡ old ++ written_behind (1 ∷ 1 ∷ []) (first_repetition field es)
none_left es field i here old now none h = sym (append-nil now) ∙ ap (λ (xs : List Entry). now ++ written_behind here (those 1 xs)) (sym none) ∙ h.written

sorted_drop : (i : ℕ) (es : List Entry) → T (is_sorted order es) → T (is_sorted order (drop i es))
sorted_drop zero es h = h
sorted_drop (suc i) [] h = tt
sorted_drop (suc i) (e ∷ es) h = sorted_drop i es (second _ _ h)

-- behind a text of a later field stands none of this field
pub copied_before : (es : List Entry) (field i : ℕ) (p : Place) (text here old now : List ℕ) → T (is_sorted order es) → slice_get es i ≡ Some (numbers p, text) → field < p.field
    → IsCopying es field i here old now → now ≡ old ++ written_behind (1 ∷ 1 ∷ []) (first_repetition field es)
copied_before es field i p text here old now sorted is lt h =
    let next = next_is es i (numbers p, text) is in
    let later : T (is_sorted order ((numbers p, text) ∷ drop (i + 1) es)) = subst (λ (xs : List Entry). T (is_sorted order xs)) next (sorted_drop i es sorted) in
    none_left es field i here old now
    (ap (those field) next ∙ none_below field p.field ((numbers p, text) ∷ drop (i + 1) es) lt (omega arith, from_below p.field (p.rep ∷ p.comp ∷ p.sub ∷ []) (drop (i + 1) es) (first _ _ later))) h

-- ---- texts behind others

behind_those : (a b : List ℕ) → drop (length a) (a ++ b) ≡ b
behind_those [] b = refl
behind_those (x ∷ a) b = behind_those a b

front_of : (a b : List ℕ) → take (length a) (a ++ b) ≡ a
front_of [] b = refl
front_of (x ∷ a) b = ap (λ l. x ∷ l) (front_of a b)

-- a text that was put behind the bytes
pub lies : (bytes text all : List ℕ) (span : Span) → all ≡ bytes ++ text → span ≡ record { from = length bytes; len = length text } → Lies all span text
lies bytes text all span is at more =
    ap (text_in (all ++ more)) at
    ∙ ap (λ l. take (length text) (drop (length bytes) (l ++ more))) is
    ∙ ap (λ l. take (length text) (drop (length bytes) l)) (append_assoc bytes text more)
    ∙ ap (take (length text)) (behind_those bytes (text ++ more))
    ∙ front_of text more

-- its span, measured before and after
pub lies_measured : (bytes text all : List ℕ) (span : Span) → all ≡ bytes ++ text → span.from ≡ length bytes → span.from + span.len ≡ length all → Lies all span text
lies_measured bytes text all span is at measured =
    let len : span.len ≡ length text = omega (arith, at, measured, ap length is, length-append bytes text) in
    lies bytes text all span is (λ i. record { from = at i; len = len i })

pub lies_more : (bytes text added all : List ℕ) (span : Span) → all ≡ bytes ++ added → Lies bytes span text → Lies all span text
lies_more bytes text added all span is h more =
    ap (λ (l : List ℕ). text_in (l ++ more) span) is ∙ ap (λ (l : List ℕ). text_in l span) (append_assoc bytes added more) ∙ h (added ++ more)

pub lies_now : (bytes text : List ℕ) (span : Span) → Lies bytes span text → text_in bytes span ≡ text
lies_now bytes text span h = ap (λ (l : List ℕ). text_in l span) (sym (append-nil bytes)) ∙ h []

-- The lines of an answer: each is what is written of a segment of its rows.
use Rattle.std.proofs.Common.{◌≡◌, ℕ, true, false, true≢false, List, [], ◌∷◌, ◌++◌, refl, sym, ap, subst, ◌∙◌, append_assoc, append-nil}
use Rattle.std.specs.Prelude.{T, ◌==◌, length, Result, Ok, Err, OnOk}
use Rattle.std.specs.List.{AllByRecursion}
use Rattle.std.specs.Ordering.{nat_cmp}
use Rattle.std.specs.Cmp.Lexicographic.{slice_cmp, nat_list_cmp_total}
use Rattle.std.specs.FinMap as texts
use Rattle.std.specs.FinMap.{is_sorted, same_map, entries-from_sorted, get-from_entries, get-from_sorted, slice_cmp-IsAntisymmetric, nat_cmp-IsAntisymmetric}
use Rattle.std.proofs.lemmas.Bool.{and_parts, eqb-true}
use Rattle.gw_er7.specs.Entries.{Entry}
use Rattle.gw_er7.specs.Message.{SegmentValue, Texts, IsEntry, IsSegment, IsHeader, IsOther, IsMessage, first_field}
use Rattle.gw_er7.specs.Names.{IsName, header_name, is_header, is_name, is_named}
use Rattle.gw_er7.specs.Written.{closed_line, line_text, written}
use Rattle.gw_er7.proofs.Each.{Each-append}
use Rattle.gw_er7.proofs.Stored.{line}
use Rattle.gw_ack.specs.Answers.{segment}
use Rattle.gw_ack.specs.Rows.{AreRows}

-- ---- a segment of rows in order

same : (rows : List Entry) → T (is_sorted (slice_cmp nat_cmp) rows) → texts.from_sorted {R = slice_cmp nat_cmp} rows ≡ texts.from_entries rows
same rows sorted =
    same_map nat_list_cmp_total (slice_cmp-IsAntisymmetric nat_cmp-IsAntisymmetric) (texts.from_sorted rows) (texts.from_entries rows)
    (λ q. get-from_sorted (slice_cmp nat_cmp) rows q sorted ∙ sym (get-from_entries nat_list_cmp_total rows q))

entries_are : (rows : List Entry) → T (is_sorted (slice_cmp nat_cmp) rows) → texts.entries (texts.from_entries {R = slice_cmp nat_cmp} rows) ≡ rows
entries_are rows sorted =
    ap (λ (m : Texts). texts.entries m) (sym (same rows sorted)) ∙ entries-from_sorted (slice_cmp nat_cmp) rows sorted

pub line_is : (name : List ℕ) (rows : List Entry) → AreRows (first_field name) rows → closed_line name rows ≡ written (segment name rows ∷ [])
line_is name rows h =
    line name rows (segment name rows) h.sorted (ap (λ (m : Texts). record { name = name; at = m }) (same rows h.sorted))
    ∙ sym (append-nil (line_text (segment name rows) ++ 13 ∷ []))

name_of : (name : List ℕ) → is_name name ≡ true → IsName name
name_of name e = (let both = and_parts (length name == 3) (is_named name) e in record { three = eqb-true (length name) 3 both.0; lawful = both.1 })

segment_is : (name : List ℕ) (rows : List Entry) → is_name name ≡ true → AreRows (first_field name) rows → IsSegment (segment name rows)
segment_is name rows is h = record {
  name = name_of name is;
  each = subst (λ (es : List Entry). AllByRecursion (IsEntry (first_field name)) es) (sym (entries_are rows h.sorted)) h.each;
}

pub header_is : (rows : List Entry) → AreRows 3 rows → IsHeader (segment header_name rows)
header_is rows h = record { segment = segment_is header_name rows refl h; name = refl }

pub other_is : (name : List ℕ) (rows : List Entry) → is_name name ≡ true → is_header name ≡ false → AreRows (first_field name) rows → IsOther (segment name rows)
other_is name rows is not h =
    record { segment = segment_is name rows is h; name = λ e. true≢false (sym (ap is_header e) ∙ not) }

-- ---- lines one behind another

pub in_ok : {A E : Type 0} (r : Result A E) (P : Type 0) → P → OnOk r P
in_ok (Ok a) P h = h
in_ok (Err e) P h = tt

pub on_ok : {A E : Type 0} (r : Result A E) (P Q : Type 0) → (P → Q) → OnOk r P → OnOk r Q
on_ok (Ok a) P Q to h = to h
on_ok (Err e) P Q to h = tt

pub written-append : (a b : List SegmentValue) → written (a ++ b) ≡ written a ++ written b
written-append [] b = refl
written-append (s ∷ a) b =
    ap (λ (l : List ℕ). (line_text s ++ 13 ∷ []) ++ l) (written-append a b) ∙ sym (append_assoc (line_text s ++ 13 ∷ []) (written a) (written b))

pub message_is : (a b : List SegmentValue) → IsMessage a → AllByRecursion IsOther b → IsMessage (a ++ b)
message_is [] b h k = absurd h
message_is (s ∷ a) b h k = (h.0, Each-append IsOther a b h.1 k)

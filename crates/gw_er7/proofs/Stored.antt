-- Segments as they are stored, and how they are written.
use Rattle.std.proofs.Common.{◌≡◌, ℕ, zero, suc, ◌+◌, ◌*◌, ◌<◌, ◌≤◌, List, [], ◌∷◌, ◌++◌, length, get_or, drop, Some, sym, ap, subst, ◌∙◌, append-nil, append_assoc, arith}
use Rattle.std.specs.Prelude.{T, slice_get}
use Rattle.std.proofs.lemmas.List.{drop_all, drop_more}
use Rattle.std.proofs.lemmas.List.Elements.{All-from_recursion}
use Rattle.std.proofs.lemmas.Option.{get_or_from_slice_get}
use Rattle.std.specs.List.{AllByRecursion}
use Rattle.std.specs.Ordering.{nat_cmp}
use Rattle.std.specs.Cmp.Lexicographic.{slice_cmp}
use Rattle.std.specs.FinMap as texts
use Rattle.std.specs.FinMap.{is_sorted, entries-from_sorted}
use Rattle.gw_er7.specs.Message.{SegmentValue, first_number, first_field, IsEntry, IsSegment, IsOther, IsMessage}
use Rattle.gw_er7.specs.Entries.{Entry}
use Rattle.gw_er7.specs.own.Ordered.{IsAtLeast, IsOrdered}
use Rattle.gw_er7.specs.Written.{line_text, delimiters_text, behind_separator, written}
use Rattle.gw_er7.proofs.Each.{Each-weaker}

abbrev pub stored : List ℕ → List Entry → SegmentValue
stored name es = record { name = name; at = texts.from_sorted {R = slice_cmp nat_cmp} es }

least : (n : ℕ) (key : List ℕ) → n ≤ first_number key → IsAtLeast n key
least n [] h = tt
least n (m ∷ key) h = h

pub ordered : (name : List ℕ) (es : List Entry) (s : SegmentValue) → T (is_sorted (slice_cmp nat_cmp) es) → stored name es ≡ s → IsSegment s → IsOrdered (first_field name) es
ordered name es s sorted view is =
    let here : IsSegment (stored name es) = subst (λ (v : SegmentValue). IsSegment v) (sym view) is in
    let each : AllByRecursion (IsEntry (first_field name)) es = subst (λ (xs : List Entry). AllByRecursion (IsEntry (first_field name)) xs) (entries-from_sorted (slice_cmp nat_cmp) es sorted) here.each in
    record {
      rising = sorted;
      from = Each-weaker (IsEntry (first_field name)) (λ e. IsAtLeast (first_field name) e.0) (λ e is. least (first_field name) e.0 is.key.field) es each;
      positive = Each-weaker (IsEntry (first_field name)) (λ e. AllByRecursion (λ k. 0 < k) e.0) (λ e is. is.key.positive) es each;
    }

pub line : (name : List ℕ) (es : List Entry) (s : SegmentValue) → T (is_sorted (slice_cmp nat_cmp) es) → stored name es ≡ s
    → name ++ delimiters_text name ++ behind_separator (first_field name) es ++ 13 ∷ [] ≡ line_text s ++ 13 ∷ []
line name es s sorted view =
    ap (λ (xs : List Entry). name ++ delimiters_text name ++ behind_separator (first_field name) xs ++ 13 ∷ []) (sym (entries-from_sorted (slice_cmp nat_cmp) es sorted)) ∙ ap (λ (v : SegmentValue). line_text v ++ 13 ∷ []) view

-- ---- all segments

pub segment_at : (i : ℕ) (ss : List SegmentValue) (d : SegmentValue) → i < length ss → IsMessage ss → IsSegment (get_or ss i d)
segment_at i [] d lt h = absurd (omega arith)
segment_at zero (s ∷ ss) d lt h = h.0.segment
segment_at (suc i) (s ∷ ss) d lt h = (All-from_recursion IsOther ss h.1 i d (omega arith)).segment

-- room for a line of so many texts
abbrev pub line_room : SegmentValue → ℕ
line_room s = length (texts.entries s.at) * 8 + 4

pub written_end : (ss : List SegmentValue) (i : ℕ) (out target : List ℕ) → length ss ≤ i → out ++ written (drop i ss) ≡ target → out ≡ target
written_end ss i out target le h = sym (append-nil out) ∙ ap (λ (x : List SegmentValue). out ++ written x) (sym (drop_all i ss le)) ∙ h

pub written_more : (ss : List SegmentValue) (i : ℕ) (s : SegmentValue) (out more target : List ℕ) → i < length ss → slice_get ss i ≡ Some s → more ≡ out ++ (line_text s ++ 13 ∷ []) → out ++ written (drop i ss) ≡ target → more ++ written (drop (i + 1) ss) ≡ target
written_more ss i s out more target lt here e h =
    let next : drop i ss ≡ s ∷ drop (i + 1) ss = drop_more ss i s lt ∙ ap (λ (v : SegmentValue). v ∷ drop (i + 1) ss) (get_or_from_slice_get ss i s s here) in
    ap (λ (x : List ℕ). x ++ written (drop (i + 1) ss)) e ∙ append_assoc out (line_text s ++ 13 ∷ []) (written (drop (i + 1) ss)) ∙ ap (λ (vs : List SegmentValue). out ++ written vs) (sym next) ∙ h

-- A content reads as one message.
use Rattle.std.proofs.Common.{◌≡◌, ℕ, ◌<◌, true, false, cond, List, [], ◌∷◌, length, Option, None, Some, refl, sym, ap, subst, ◌∙◌, arith}
use Rattle.std.specs.Prelude.{unwrap_or}
use Rattle.std.specs.List.{AllByRecursion}
use Rattle.std.specs.Ordering.{nat_cmp, eq_by_cmp}
use Rattle.std.specs.Cmp.Lexicographic.{slice_cmp, nat_list_cmp_total}
use Rattle.std.specs.FinMap as texts
use Rattle.std.specs.FinMap.{find, same_map, slice_cmp-IsAntisymmetric, nat_cmp-IsAntisymmetric}
use Rattle.gw_er7.specs.declared.delimiters.Delimiters.{Delimiters}
use Rattle.gw_er7.specs.declared.place.Place.{Place}
use Rattle.gw_er7.specs.Content.{Line, lines, delimiters_of, header_line}
use Rattle.gw_er7.specs.Message.{SegmentValue, text_at, IsKey, IsEntry, IsSegment, IsOther, IsMessage, IsPlace, first_field}
use Rattle.gw_er7.specs.Reading.{ReadsOthers, ReadsLines, Reads}
use Rattle.gw_er7.specs.Entries.{Entry}
use Rattle.gw_er7.proofs.Keys.{tied}

-- a text that is found may stand at its place
pub found_kept : (first : ℕ) (q t : List ℕ) (es : List Entry) → AllByRecursion (IsEntry first) es → find (slice_cmp nat_cmp) q es ≡ Some t → IsEntry first (q, t)
found_kept first q t [] h e = absurd (let z : ⊥ = cc in z)
found_kept first q t (x ∷ es) h e =
    elim (eq_by_cmp (slice_cmp nat_cmp) q x.0) as (λ v. eq_by_cmp (slice_cmp nat_cmp) q x.0 ≡ v → cond v (Some x.1) (find (slice_cmp nat_cmp) q es) ≡ Some t → IsEntry first (q, t)) [
      | true ↦ λ tie e. (let key : x.0 ≡ q = sym (tied q x.0 tie) in let text : x.1 ≡ t = cc in
          subst (λ (k : List ℕ). IsEntry first (k, t)) key (subst (λ (u : List ℕ). IsEntry first (x.0, u)) text h.0))
      | false ↦ λ tie e. found_kept first q t es h.1 e
    ] refl e

pub get_kept : (s : SegmentValue) (q t : List ℕ) → IsSegment s → texts.get s.at q ≡ Some t → IsEntry (first_field s.name) (q, t)
get_kept s q t is e = found_kept (first_field s.name) q t (texts.entries s.at) is.each (sym (texts.get-entries s.at q) ∙ e)

-- a key of four numbers
pub by_four : (P : List ℕ → Type 0) → ((f r c s : ℕ) → P (f ∷ r ∷ c ∷ s ∷ [])) → (key : List ℕ) → length key ≡ 4 → P key
by_four P each [] e = absurd (omega arith)
by_four P each (f ∷ []) e = absurd (omega arith)
by_four P each (f ∷ r ∷ []) e = absurd (omega arith)
by_four P each (f ∷ r ∷ c ∷ []) e = absurd (omega arith)
by_four P each (f ∷ r ∷ c ∷ s ∷ []) e = each f r c s
by_four P each (f ∷ r ∷ c ∷ s ∷ t ∷ key) e = absurd (omega arith)

-- the texts at each place are those at each key
at_key : (a b : SegmentValue) (first : ℕ) (q : List ℕ) → IsKey first q → ((p : Place) → IsPlace p → text_at a p ≡ text_at b p) → unwrap_or (texts.get a.at q) [] ≡ unwrap_or (texts.get b.at q) []
at_key a b first q is same =
    by_four (λ q. AllByRecursion (λ n. 0 < n) q → unwrap_or (texts.get a.at q) [] ≡ unwrap_or (texts.get b.at q) []) (λ f r c s positive.
    same (record { field = f; rep = r; comp = c; sub = s }) (positive.0, positive.1.0, positive.1.1.0, positive.1.1.1.0)) q is.four is.positive

same_get : (first : ℕ) (q : List ℕ) (x y : Option (List ℕ)) → ((t : List ℕ) → x ≡ Some t → IsEntry first (q, t)) → ((t : List ℕ) → y ≡ Some t → IsEntry first (q, t)) → (IsKey first q → unwrap_or x [] ≡ unwrap_or y []) → x ≡ y
same_get first q None None kx ky same = refl
same_get first q (Some t) (Some u) kx ky same = ap (λ (v : List ℕ). Some v) (same (kx t refl).key)
same_get first q (Some t) None kx ky same = absurd ((kx t refl).some (same (kx t refl).key))
same_get first q None (Some u) kx ky same = absurd ((ky u refl).some (sym (same (ky u refl).key)))

same_segment : (a b : SegmentValue) → a.name ≡ b.name → IsSegment a → IsSegment b → ((p : Place) → IsPlace p → text_at a p ≡ text_at b p) → a ≡ b
same_segment a b name ka kb same =
    let at : a.at ≡ b.at = same_map nat_list_cmp_total (slice_cmp-IsAntisymmetric nat_cmp-IsAntisymmetric) a.at b.at (λ q.
    same_get (first_field a.name) q (texts.get a.at q) (texts.get b.at q) (λ t e. get_kept a q t ka e)
    (λ t e. subst (λ (n : List ℕ). IsEntry (first_field n) (q, t)) (sym name) (get_kept b q t kb e)) (λ key. at_key a b (first_field a.name) q key same)) in
    λ i. record { name = name i; at = at i }

same_others : (d : Delimiters) (ls : List Line) (a b : List SegmentValue) → AllByRecursion IsOther a → AllByRecursion IsOther b → ReadsOthers d ls a → ReadsOthers d ls b → a ≡ b
same_others d [] a b ka kb ra rb = ra ∙ sym rb
same_others d (l ∷ ls) [] b ka kb ra rb = absurd ra
same_others d (l ∷ ls) (x ∷ a) [] ka kb ra rb = absurd rb
same_others d (l ∷ ls) (x ∷ a) (y ∷ b) ka kb ra rb =
    let one : x ≡ y = same_segment x y (ra.0.name ∙ sym rb.0.name) ka.0.segment kb.0.segment (λ p is. ra.0.fields p is ∙ sym (rb.0.fields p is)) in
    ap (λ (s : SegmentValue). s ∷ a) one ∙ ap (λ (ss : List SegmentValue). y ∷ ss) (same_others d ls a b ka.1 kb.1 ra.1 rb.1)

same_lines : (d : Delimiters) (ls : List Line) (a b : List SegmentValue) → IsMessage a → IsMessage b → ReadsLines d ls a → ReadsLines d ls b → a ≡ b
same_lines d [] a b ka kb ra rb = absurd ra
same_lines d (l ∷ ls) [] b ka kb ra rb = absurd ra
same_lines d (l ∷ ls) (x ∷ a) [] ka kb ra rb = absurd rb
same_lines d (l ∷ ls) (x ∷ a) (y ∷ b) ka kb ra rb =
    let one : x ≡ y = same_segment x y (ra.0.name ∙ sym rb.0.name) ka.0.segment kb.0.segment (λ p is. ra.0.fields p is ∙ sym (rb.0.fields p is)) in
    ap (λ (s : SegmentValue). s ∷ a) one ∙ ap (λ (ss : List SegmentValue). y ∷ ss) (same_others d ls a b ka.1 kb.1 ra.1 rb.1)

pub reads_once : (content : List ℕ) (a b : List SegmentValue) → IsMessage a → IsMessage b → Reads content a → Reads content b → a ≡ b
reads_once content a b ka kb ra rb = same_lines (delimiters_of (header_line (lines content))) (lines content) a b ka kb ra.segments rb.segments

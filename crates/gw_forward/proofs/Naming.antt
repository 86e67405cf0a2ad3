-- The control id of a record, by its header alone.
use Rattle.std.proofs.Common.{◌≡◌, ◌<◌, ◌≤◌, ◌+◌, ℕ, List, [], ◌∷◌, length, drop, refl, sym, ap, subst, ◌∙◌, arith, not, inl, inr}
use Rattle.std.proofs.lemmas.Bool.{cases_lt}
use Rattle.std.specs.List.{position_or_len}
use Rattle.std.proofs.lemmas.List.{get_or-take, length-take-le, take_all}
use Rattle.std.proofs.lemmas.List.Sums.{fails_before_first, position_or_len_is, prefix_len-le-length}
use Rattle.gw_er7.specs.declared.fault.ReadFault.TheVariants.{Empty}
use Rattle.gw_er7.specs.declared.place.Place.{Place}
use Rattle.gw_er7.specs.Content.{Line, is_line_end, lines, header_line, delimiters_of}
use Rattle.gw_er7.specs.Message.{SegmentValue, text_at, IsPlace}
use Rattle.gw_er7.specs.Reading.{Reads, ReadsLines}
use Rattle.gw_ack.specs.Headers.{control_of}
use Rattle.gw_forward.specs.Forwards.{IsRecord, header}
use Rattle.gw_er7.proofs.Lined.{whole_last, whole_cut, placed_line}

-- these lines begin with this one
record Lines (ls : List Line) (bytes : List ℕ) : Type 0 where
  rest : List Line
  first : ls ≡ record { at = 0; bytes = bytes } ∷ rest

whole : (bytes : List ℕ) → 0 < length bytes → position_or_len is_line_end bytes ≡ length bytes → Lines (lines bytes) bytes
whole bytes some all = record { rest = _; first = whole_last bytes (position_or_len is_line_end bytes) refl all 0 ∙ placed_line 0 bytes ([] ∷ []) some }

of_header : (bytes : List ℕ) → position_or_len is_line_end bytes < length bytes → 0 < length (header bytes) → Lines (lines (header bytes)) (header bytes)
of_header bytes lt some =
    let k = position_or_len is_line_end bytes in
    let long : length (header bytes) ≡ k = length-take-le k bytes (omega (arith, lt)) in
    whole (header bytes) some
    (position_or_len_is is_line_end (header bytes) (length (header bytes)) 0 (omega arith)
    (λ i below. ap is_line_end (get_or-take k bytes i 0 (omega (arith, below, long))) ∙ fails_before_first is_line_end bytes i 0 (omega (arith, below, long)))
    (λ below. absurd (omega (arith, below))))

of_all : (bytes : List ℕ) → position_or_len is_line_end bytes < length bytes → 0 < length (header bytes) → Lines (lines bytes) (header bytes)
of_all bytes lt some =
    let k = position_or_len is_line_end bytes in
    record { rest = _; first = whole_cut bytes k refl lt {behind = drop (k + 1) bytes} refl 0 ∙ placed_line 0 (header bytes) _ some }

first_places : (h : List ℕ) (ls others : List Line) (m n : List SegmentValue) → Lines ls h → Lines others h → ReadsLines (delimiters_of (header_line ls)) ls m
    → ReadsLines (delimiters_of (header_line others)) others n → control_of m ≡ control_of n
first_places h ls others m n a b rm rn =
    both m n (subst (λ (ls : List Line). ReadsLines (delimiters_of (header_line ls)) ls m) a.first rm)
    (subst (λ (ls : List Line). ReadsLines (delimiters_of (header_line ls)) ls n) b.first rn)
  where
    both : (m n : List SegmentValue) → ReadsLines (delimiters_of h) (record { at = 0; bytes = h } ∷ a.rest) m
        → ReadsLines (delimiters_of h) (record { at = 0; bytes = h } ∷ b.rest) n → control_of m ≡ control_of n
    both [] n rm rn = absurd rm
    both (s ∷ ss) [] rm rn = absurd rn
    both (s ∷ ss) (t ∷ ts) rm rn = same (record { field = 10; rep = 1; comp = 1; sub = 1 }) (omega arith, omega arith, omega arith, omega arith)
      where
        same : (p : Place) → IsPlace p → text_at s p ≡ text_at t p
        same p is = rm.0.fields p is ∙ sym (rn.0.fields p is)

-- a header that isn't empty is the first line
both_lines : (bytes : List ℕ) → 0 < length (header bytes) → Lines (lines bytes) (header bytes) × Lines (lines (header bytes)) (header bytes)
both_lines bytes some =
    elim (cases_lt (position_or_len is_line_end bytes) (length bytes)) as (λ _. Lines (lines bytes) (header bytes) × Lines (lines (header bytes)) (header bytes)) [
      | inl lt ↦ (of_all bytes lt some, of_header bytes lt some)
      | inr ge ↦ (
          let is : header bytes ≡ bytes = take_all (position_or_len is_line_end bytes) bytes ge in
          let all : position_or_len is_line_end bytes ≡ length bytes = omega (arith, ge, prefix_len-le-length (λ b. not (is_line_end b)) bytes) in
          let both : 0 < length bytes → Lines (lines bytes) bytes × Lines (lines bytes) bytes = λ any. (whole bytes any all, whole bytes any all) in
          subst (λ (h : List ℕ). 0 < length h → Lines (lines bytes) h × Lines (lines h) h) (sym is) both some)
    ]

-- a message's control id is that of its header alone
by_header : (bytes : List ℕ) (m n : List SegmentValue) → Reads bytes m → Reads (header bytes) n → control_of m ≡ control_of n
by_header bytes m n rm rn =
    elim (cases_lt 0 (length (header bytes))) as (λ _. control_of m ≡ control_of n) [
      | inl some ↦ (let ls = both_lines bytes some in
          first_places (header bytes) (lines bytes) (lines (header bytes)) m n ls.0 ls.1 rm.segments rn.segments)
      | inr none ↦ absurd (no_line (header bytes) none rn)
    ]
  where
    no_line : (h : List ℕ) → length h ≤ 0 → Reads h n → ⊥
    no_line [] none reads = reads.readable Empty refl
    no_line (b ∷ bs) none reads = absurd (omega (arith, none))

pub named : (bytes control : List ℕ) (message : List SegmentValue) → Reads bytes message → IsRecord bytes control → control ≡ control_of message
named bytes control message reads is = is.control_is ∙ sym (by_header bytes message is.message reads is.reads)

-- How often numbers are those of receipts.
use Rattle.std.proofs.Common.{◌≡◌, ◌≢◌, ℕ, suc, ◌+◌, ◌<◌, ◌==◌, ◌&&◌, ◌⊎◌, inl, inr, Bool, false, List, [], ◌∷◌, ◌++◌, length, get_or}
use Rattle.std.proofs.Common.{slice_set, take, refl, sym, ap, ◌∙◌, arith}
use Rattle.std.specs.Prelude.{cond, min}
use Rattle.std.specs.Option.{option_to_list}
use Rattle.std.specs.List.{list_all, range_with_len}
use Rattle.std.proofs.lemmas.Grind.{common_steps}
use Rattle.std.proofs.lemmas.Option.{gets}
use Rattle.std.proofs.lemmas.Bool.{cases_eq, eq-eqb, ne_eqb}
use Rattle.std.proofs.lemmas.List.{map_more}
use Rattle.std.proofs.lemmas.List.Elements.{filter_map-append}
use Rattle.std.proofs.lemmas.List.Folds.{list_all-map, list_all_at}
use Rattle.std.proofs.lemmas.List.Sums.{sum_by_push}
use Rattle.gw_crew.specs.declared.note.Note.{Note}
use Rattle.gw_crew.specs.Notes.{NoteSeen, Added, ReceiptSeen, receipt_of}
use Rattle.gw_crew.specs.Seen.{note_seen, notes_seen}
use Rattle.gw_run.specs.Passes.{PassSeen, receipts, part_count, receipt_count}
use Rattle.gw_audit.specs.Settled.{having}
use Rattle.gw_audit.specs.own.Joins.{Marks, notes_of}

-- ---- one receipt more

having_more : (all : List ReceiptSeen) (r : ReceiptSeen) (k : ℕ) → having (all ++ r ∷ []) k ≡ having all k + cond (r.at == k) 1 0
having_more all r k = sum_by_push (λ (x : ReceiptSeen). cond (x.at == k) 1 0) all r

having_this : (all : List ReceiptSeen) (r : ReceiptSeen) (k : ℕ) → r.at ≡ k → having (all ++ r ∷ []) k ≡ having all k + 1
having_this all r k is = having_more all r k ∙ ap (λ b. having all k + cond b 1 0) (eq-eqb r.at k is)

having_other : (all : List ReceiptSeen) (r : ReceiptSeen) (k : ℕ) → r.at ≢ k → having (all ++ r ∷ []) k ≡ having all k
having_other all r k other =
    having_more all r k ∙ ap (λ b. having all k + cond b 1 0) (ne_eqb r.at k other) ∙ (let e : having all k + 0 ≡ having all k = omega arith in e)

pub mark_more : (marks : List ℕ) (since : ℕ) (all : List ReceiptSeen) (r : ReceiptSeen) (place x : ℕ) → r.at ≡ since + place → place < length marks → x < 2
    → x ≡ get_or marks place 0 → Marks since all marks → Marks since (all ++ r ∷ []) (slice_set marks place (x + 1))
mark_more marks since all r place x is within less read was p lt = by (cases_eq p place)
  where
    by : (p ≡ place) ⊎ (p ≢ place) → get_or (slice_set marks place (x + 1)) p 0 ≡ min (having (all ++ r ∷ []) (since + p)) 2
    by (inl same) =
        let one = having_this all r (since + p) (omega arith) in
        let there : get_or marks p 0 ≡ x = ap (λ q. get_or marks q 0) same ∙ sym read in
        let old = was p (let l : p < length marks = omega arith in l) in
        let new : get_or (slice_set marks place (x + 1)) p 0 ≡ x + 1 = grind (arith, common_steps, gets) in
        omega (arith, one, there, old, new)
    by (inr other) =
        let none = having_other all r (since + p) (λ e. other (omega arith)) in
        let new : get_or (slice_set marks place (x + 1)) p 0 ≡ get_or marks p 0 = grind (arith, common_steps, gets) in
        let old = was p (let l : length (slice_set marks place (x + 1)) ≡ length marks = grind (arith, common_steps) in omega (arith, l)) in
        omega (arith, none, new, old)

-- ---- the receipts of notes

one_receipt : (note : NoteSeen) → receipts (note ∷ []) ≡ option_to_list (receipt_of note)
one_receipt (Added at e) = refl
one_receipt note = refl

pub receipts_next : (notes : List Note) (i : ℕ) (n : Note) → i < length notes → n ≡ get_or notes i n
    → receipts (notes_seen (take (i + 1) notes)) ≡ receipts (notes_seen (take i notes)) ++ option_to_list (receipt_of (note_seen n))
receipts_next notes i n lt is =
    ap receipts (map_more note_seen notes i n lt ∙ ap (λ x. notes_seen (take i notes) ++ note_seen x ∷ []) (sym is))
    ∙ filter_map-append receipt_of (notes_seen (take i notes)) (note_seen n ∷ [])
    ∙ ap (λ l. receipts (notes_seen (take i notes)) ++ l) (one_receipt (note_seen n))

-- ---- each number once

-- each mark tells of its number
pub marked : (marks : List ℕ) (since : ℕ) (all : List ReceiptSeen) → Marks since all marks
    → list_all (λ m. m == 1) marks ≡ list_all (λ k. having all k == 1) (range_with_len since (length marks))
marked [] since all was = refl
marked (m ∷ marks) since all was =
    let here : since + 0 ≡ since = omega arith in
    let first : m ≡ min (having all since) 2 = was 0 (omega arith) ∙ ap (λ k. min (having all k) 2) here in
    let rest = marked marks (since + 1) all
    (λ p lt. let next : since + suc p ≡ since + 1 + p = omega arith in was (suc p) (omega arith) ∙ ap (λ k. min (having all k) 2) next) in
    ap (λ b. b && list_all (λ k. k == 1) marks) (by (cases_eq (having all since) 1) first) ∙ ap (λ b. (having all since == 1) && b) rest
  where
    by : (having all since ≡ 1) ⊎ (having all since ≢ 1) → m ≡ min (having all since) 2 → (m == 1) ≡ (having all since == 1)
    by (inl one) is = eq-eqb m 1 (omega (arith, one, is)) ∙ sym (eq-eqb (having all since) 1 one)
    by (inr other) is = ne_eqb m 1 (λ e. other (omega (arith, e, is))) ∙ sym (ne_eqb (having all since) 1 other)

pub read_as : (marks : List ℕ) (i x : ℕ) → i < length marks → x ≡ get_or marks i x → x ≡ get_or marks i 0
read_as marks i x lt is = is ∙ (let e : get_or marks i x ≡ get_or marks i 0 = grind (arith, common_steps, gets) in e)

pub not_all_at : (test : List NoteSeen → Bool) (passes : List PassSeen) (i : ℕ) (pass : PassSeen) → i < length passes → pass ≡ get_or passes i pass
    → test pass.notes ≡ false → list_all test (notes_of passes) ≡ false
not_all_at test passes i pass lt is fails =
    list_all-map test (λ (p : PassSeen). p.notes) passes
    ∙ list_all_at (λ (p : PassSeen). test p.notes) passes i pass lt (ap (λ (p : PassSeen). test p.notes) (sym is) ∙ fails)

-- ---- the shares of passes

pub parts_more : (passes : List PassSeen) (pass : PassSeen) → part_count (passes ++ pass ∷ []) ≡ part_count passes + pass.parts
parts_more passes pass = sum_by_push (λ (p : PassSeen). p.parts) passes pass

pub receipts_more : (passes : List PassSeen) (pass : PassSeen) → receipt_count (passes ++ pass ∷ []) ≡ receipt_count passes + length (receipts pass.notes)
receipts_more passes pass = sum_by_push (λ (p : PassSeen). length (receipts p.notes)) passes pass

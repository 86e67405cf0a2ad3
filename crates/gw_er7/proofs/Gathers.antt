-- Lines that are taken in, one by one, and what is gathered from them.
use Rattle.std.proofs.Common.{◌≡◌, ℕ, ◌+◌, ◌<◌, ◌≤◌, Bool, true, List, [], ◌∷◌, ◌++◌, length, take, drop, Some, Result, Ok, Err, sym, ap, subst, ◌∙◌, arith}
use Rattle.std.proofs.lemmas.Grind.{common_steps}
use Rattle.std.specs.Prelude.{T, OnOk, if◌then◌else◌}
use Rattle.std.proofs.lemmas.Bool.{and_parts}
use Rattle.std.specs.Ordering.{nat_cmp}
use Rattle.std.specs.Cmp.Lexicographic.{slice_cmp}
use Rattle.std.specs.FinMap as texts
use Rattle.std.specs.FinMap.{is_sorted}
use Rattle.std.proofs.lemmas.List.{append-nil}
use Rattle.gw_er7.specs.declared.delimiters.Delimiters.{Delimiters}
use Rattle.gw_er7.specs.Content.{Line, Begins, lines_from, is_segment_line, first_bad}
use Rattle.gw_er7.specs.Names.{is_named}
use Rattle.gw_er7.specs.declared.fields.SegmentTexts.{SegmentTexts}
use Rattle.gw_er7.specs.declared.start.SegmentHead.{SegmentHead}
use Rattle.gw_er7.specs.Message.{SegmentValue, IsMessage}
use Rattle.gw_er7.specs.Entries.{Entry, fields}
use Rattle.gw_er7.specs.View.{lying, AreInside, AreLying, IsLying}
use Rattle.gw_er7.specs.own.Separators.{bytes_of, held_in, taken_by, Keeps, Lies}
use Rattle.gw_er7.specs.own.Gathered.{segment_of, others_of, IsTaken, Takes, LinesLie}
use Rattle.gw_er7.proofs.Lying.{taken_in, behind_entries}
use Rattle.gw_er7.proofs.Slices.{length-held}
use Rattle.gw_er7.proofs.Sorted.{sorted-fields}
use Rattle.gw_er7.proofs.Messages.{name_long}
pub use Rattle.gw_er7.proofs.Messages.{three}

-- ---- one segment is taken in

takes : (starts after : List SegmentHead) (n : SegmentHead) (old new : SegmentTexts) (d : Delimiters) (first skip : ℕ) (line bytes : List ℕ) → IsTaken starts old → after ≡ starts ++ n ∷ [] → n.first ≡ length old.spans → n.name ≡ take 3 line → bytes ≡ drop skip line
    → AreInside (bytes_of new) new.spans → new.content.now ≡ old.content.now → Keeps old new → taken_by new ≡ taken_by old ++ fields d first bytes → Takes starts old after new (segment_of d first skip line ∷ [])
takes starts after n old new d first skip line bytes is grown from name e inside content kept read =
    let here = behind_entries (held_in old) (held_in new) (fields d first bytes) read in
    let sorted = subst (λ (es : List Entry). T (is_sorted (slice_cmp nat_cmp) es)) (sym here) (sorted-fields d first bytes) in
    let in_it = taken_in starts n (held_in old) (held_in new) (from ∙ sym (length-held (bytes_of old) old.spans)) kept is.each sorted in
    let entries = here ∙ ap (fields d first) e in
    record {
      taken = record { inside = inside; each = subst (λ (ss : List SegmentHead). AreLying ss (held_in new)) (sym grown) in_it.each };
      content = content;
      segments = ap (λ (ss : List SegmentHead). lying ss (held_in new)) grown ∙ in_it.same ∙ ap (λ (s : SegmentValue). lying starts (held_in old) ++ s ∷ []) (λ i. record { name = name i; at = texts.from_sorted (entries i) });
    }

pub takes_in : {A E : Type 0} (r : Result A E) (starts after : List SegmentHead) (n : SegmentHead) (old new : SegmentTexts) (d : Delimiters) (first skip : ℕ) (line bytes : List ℕ) → IsTaken starts old → after ≡ starts ++ n ∷ [] → n.first ≡ length old.spans → n.name ≡ take 3 line → bytes ≡ drop skip line
    → OnOk r (AreInside (bytes_of new) new.spans) → OnOk r (new.content.now ≡ old.content.now) → OnOk r (Keeps old new) → OnOk r (taken_by new ≡ taken_by old ++ fields d first bytes) → OnOk r (Takes starts old after new (segment_of d first skip line ∷ []))
takes_in (Err x) starts after n old new d first skip line bytes is grown from name e inside content kept read = tt
takes_in (Ok x) starts after n old new d first skip line bytes is grown from name e inside content kept read = takes starts after n old new d first skip line bytes is grown from name e inside content kept read

-- what was taken in is a message
pub closed : (starts : List SegmentHead) (taken : SegmentTexts) (ss : List SegmentValue) → IsTaken starts taken → lying starts (held_in taken) ≡ ss → IsMessage ss → IsLying starts (held_in taken)
closed starts taken ss is same message = record { each = is.each; message = subst (λ (vs : List SegmentValue). IsMessage vs) (sym same) message }

-- ---- where lines are segments'

pub segment_long : (field : ℕ) (line : List ℕ) → is_segment_line field line ≡ true → 3 ≤ length line
segment_long field line e = name_long line (and_parts (is_named line) _ e).0

pub lies_first_line : (content : List ℕ) (at : ℕ) (bytes : List ℕ) (l : Line) (behind : List ℕ) → Begins at bytes l behind → LinesLie content (lines_from at bytes) → Lies content l.at l.bytes × LinesLie content (lines_from (l.at + length l.bytes + 1) behind)
lies_first_line content at bytes l behind begins lie = subst (λ (ls : List Line). LinesLie content ls) begins.lines lie

pub bad_behind : (field at : ℕ) (bytes : List ℕ) (l : Line) (behind : List ℕ) → Begins at bytes l behind → is_segment_line field l.bytes ≡ true → first_bad field (lines_from at bytes) ≡ first_bad field (lines_from (l.at + length l.bytes + 1) behind)
bad_behind field at bytes l behind begins good =
    ap (first_bad field) begins.lines ∙ ap (λ (v : Bool). if v then first_bad field (lines_from (l.at + length l.bytes + 1) behind) else Some l.at) good

-- ---- the segments so far, and those of the lines that are left

pub one_more : (d : Delimiters) (had more whole : List SegmentValue) (l : Line) (now rest : List Line) → now ≡ l ∷ rest → more ≡ had ++ segment_of d 1 4 l.bytes ∷ []
    → had ++ others_of d now ≡ whole → more ++ others_of d rest ≡ whole
one_more d had more whole l now rest begins grown so_far = grind (arith, common_steps)

pub none_left : (d : Delimiters) (had whole : List SegmentValue) (now : List Line) → now ≡ [] → had ++ others_of d now ≡ whole → had ≡ whole
none_left d had whole now none so_far = sym (append-nil had) ∙ (ap (λ ls. had ++ others_of d ls) (sym none) ∙ so_far)

-- ---- places, of which the bytes from one on end below the most

pub place_fits : (most at long here : ℕ) → at < most → (0 < long → at + long < most) → here ≤ at + long + 1 → here < most + 1
place_fits most at long here room later under = grind (arith)

pub end_fits : (most at long here left : ℕ) → at < most → (0 < long → at + long < most) → (0 < left → here + left ≤ at + long) → 0 < left → here + left < most + 1
end_fits most at long here left room later under some = grind (arith)

pub place_after : (at long here left place taken behind : ℕ) → (0 < left → here + left ≤ at + long) → behind < left → place + taken ≤ here + left → place + taken + 1 ≤ at + long + 1
place_after at long here left place taken behind under shorter within = omega arith

pub behind_after : (at long here left place taken behind : ℕ) → (0 < left → here + left ≤ at + long) → behind < left → (0 < behind → place + taken + 1 + behind ≤ here + left) → 0 < behind → (place + taken + 1) + behind ≤ at + long
behind_after at long here left place taken behind under shorter later some = omega arith

pub line_fits : (at long here left place taken behind : ℕ) → (0 < long → at + long < 18446744073709551615) → left ≤ long → (0 < left → here + left ≤ at + long) → behind < left → place + taken ≤ here + left → place + taken < 18446744073709551616
line_fits at long here left place taken behind fits le under shorter within = omega arith

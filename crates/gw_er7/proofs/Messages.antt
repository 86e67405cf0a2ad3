-- What is gathered from the lines of a content without a fault.
use Rattle.std.proofs.Common.{◌≡◌, ℕ, ◌+◌, ◌<◌, ◌≤◌, Bool, true, false, not, List, [], ◌∷◌, length, take, drop, get_or, Option, None, Some, refl, sym, ap, subst, ◌∙◌, arith}
use Rattle.std.specs.Prelude.{nat_le, if◌then◌else◌, position}
use Rattle.std.proofs.lemmas.Bool.{leb-true, le-leb, and_parts, not-true, not-false, true_from_ne_false, true≢false}
use Rattle.std.proofs.lemmas.Bool.Decides.{nat_tests}
use Rattle.std.proofs.lemmas.List.{nil_from_length}
use Rattle.std.proofs.lemmas.List.Elements.{All-from_get_or, recursion_from_All}
use Rattle.std.specs.Ordering.{nat_cmp}
use Rattle.std.specs.Cmp.Lexicographic.{slice_cmp}
use Rattle.std.specs.FinMap as texts
use Rattle.std.specs.FinMap.{entries-from_sorted}
use Rattle.std.specs.List.{slice_split, AllByRecursion}
use Rattle.gw_er7.specs.declared.delimiters.Delimiters.{Delimiters}
use Rattle.gw_er7.specs.declared.fault.ReadFault.TheVariants.{Control, NoHeader, BadDelimiters, BadSegment}
use Rattle.gw_er7.specs.Text.{IsInRange}
use Rattle.gw_er7.specs.Content.{Line, placed, lines_from, lines, is_line_end, is_allowed, is_segment_line, is_delimiter, are_delimiters, is_delimited, delimiters_of, first_bad, header_line}
use Rattle.gw_er7.specs.Names.{is_header, is_named}
use Rattle.gw_er7.specs.Faults.{IsChecked}
use Rattle.gw_er7.specs.Names.{header_name, IsName}
use Rattle.gw_er7.specs.Message.{first_field, IsEntry, IsSegment, IsHeader, IsOther, IsMessage}
use Rattle.gw_er7.specs.Reading.{ReadsOthers, ReadsLines, Reads}
use Rattle.gw_er7.specs.Entries.{fields}
use Rattle.gw_er7.specs.own.Gathered.{segment_of, others_of}
use Rattle.gw_er7.proofs.Each.{Each-drop, Each-split}
use Rattle.gw_er7.proofs.Lined.{good_first}
use Rattle.gw_er7.proofs.Ranges.{Lawful, HasLawful, fields_kept}
use Rattle.gw_er7.proofs.Separated.{found_none}
use Rattle.gw_er7.proofs.Sorted.{sorted-fields}
use Rattle.gw_er7.proofs.Levels.{reads_fields}

pub is_none : (o : Option ℕ) → ((n : ℕ) → ¬ (o ≡ Some n)) → o ≡ None
is_none None h = refl
is_none (Some n) h = absurd (h n refl)

-- ---- bytes of a content

-- a byte of a content
record IsByte (b : ℕ) : Type 0 where
  small : b < 256
  allowed : is_allowed b ≡ true

in_range : (b : ℕ) → IsByte b → is_line_end b ≡ false → IsInRange b
in_range b is inside =
    let allowed = is.allowed in
    let low : b < 32 → b ≡ 9 = grind (arith, nat_tests) in
    (is.small, low)

abbrev pub LawfulLines : List Line → Type 0
LawfulLines ls = AllByRecursion (λ l. Lawful l.bytes) ls

lawful-placed : (at : ℕ) (ps : List (List ℕ)) → AllByRecursion Lawful ps → LawfulLines (placed at ps)
lawful-placed at [] h = tt
lawful-placed at ([] ∷ ps) h = lawful-placed (at + 1) ps h.1
lawful-placed at ((b ∷ bs) ∷ ps) h = (h.0, lawful-placed (at + length (b ∷ bs) + 1) ps h.1)

-- where no byte is found that isn't allowed
pub lawful-lines : (content : List ℕ) → ((k : ℕ) → get_or content k 0 < 256) → position (λ b. not (is_allowed b)) content ≡ None → LawfulLines (lines content)
lawful-lines content small none =
    let bytes : AllByRecursion IsByte content = recursion_from_All IsByte content (All-from_get_or IsByte content 0 (λ k lt. (
    let allowed = not-false (is_allowed (get_or content k 0)) (found_none (λ b. not (is_allowed b)) content none k 0 lt) in record { small = small k; allowed = allowed }))) in
    lawful-placed 0 (slice_split is_line_end content) (Each-split IsByte IsInRange is_line_end in_range content bytes)

-- ---- three bytes at the head

by_three : (P : List ℕ → Type 0) → ((a b c : ℕ) (bs : List ℕ) → P (a ∷ b ∷ c ∷ bs)) → (line : List ℕ) → 3 ≤ length line → P line
by_three P each [] le = absurd (omega arith)
by_three P each (a ∷ []) le = absurd (omega arith)
by_three P each (a ∷ b ∷ []) le = absurd (omega arith)
by_three P each (a ∷ b ∷ c ∷ bs) le = each a b c bs

-- no more than three
pub by_name : (P : List ℕ → Type 0) → ((a b c : ℕ) → P (a ∷ b ∷ c ∷ [])) → (name : List ℕ) → length name ≡ 3 → P name
by_name P each name e =
    by_three (λ l. length l ≡ 3 → P l) (λ a b c bs n. subst (λ (t : List ℕ). P (a ∷ b ∷ c ∷ t)) (sym (nil_from_length bs (omega arith))) (each a b c)) name (omega arith) e

pub three : (line : List ℕ) → 3 ≤ length line → get_or line 0 0 ∷ get_or line 1 0 ∷ get_or line 2 0 ∷ [] ≡ take 3 line
three line le = by_three (λ l. get_or l 0 0 ∷ get_or l 1 0 ∷ get_or l 2 0 ∷ [] ≡ take 3 l) (λ a b c bs. refl) line le

pub header_long : (line : List ℕ) → is_header line ≡ true → 3 ≤ length line
header_long line e = leb-true 3 (length line) (and_parts (nat_le 3 (length line)) _ e).0

pub name_long : (line : List ℕ) → is_named line ≡ true → 3 ≤ length line
name_long line e = leb-true 3 (length line) (and_parts (nat_le 3 (length line)) _ e).0

pub long : (a b c : ℕ) (bs : List ℕ) → nat_le 3 (length (a ∷ b ∷ c ∷ bs)) ≡ true
long a b c bs = le-leb 3 (length (a ∷ b ∷ c ∷ bs)) (omega arith)

-- ---- names

name_is : (line : List ℕ) → is_named line ≡ true → IsName (take 3 line)
name_is line e =
    by_three (λ l. is_named l ≡ true → IsName (take 3 l)) (λ a b c bs e. record { three = refl; lawful = (and_parts (nat_le 3 (length (a ∷ b ∷ c ∷ bs))) _ e).1 })
    line (name_long line e) e

-- the three bytes of a name that is MSH
letters : (line : List ℕ) → is_header line ≡ true → (get_or line 0 0 ≡ 77) × (get_or line 1 0 ≡ 83) × (get_or line 2 0 ≡ 72)
letters line e = (grind (arith, nat_tests), grind (arith, nat_tests), grind (arith, nat_tests))

pub header_is : (line : List ℕ) → is_header line ≡ true → take 3 line ≡ header_name
header_is line e = (let is = letters line e in sym (three line (header_long line e)) ∙ (λ i. is.0 i ∷ is.1 i ∷ is.2 i ∷ []))

other_is : (line : List ℕ) → is_named line ≡ true → is_header (take 3 line) ≡ is_header line
other_is line e = by_three (λ l. is_header (take 3 l) ≡ is_header l) (λ a b c bs. rw (long a b c bs) refl) line (name_long line e)

-- ---- one line

pub first_other : (name : List ℕ) → is_header name ≡ false → first_field name ≡ 1
first_other name e = ap (λ (v : Bool). if v then 3 else 1) e

lawful-delimiter : (b : ℕ) → is_delimiter b ≡ true → IsInRange b
lawful-delimiter b e = (grind (arith, nat_tests), λ under. grind (arith, nat_tests))

lawful-delimiters : (d : Delimiters) → are_delimiters d ≡ true → HasLawful d
lawful-delimiters d e =
    let one = and_parts (is_delimiter d.field) _ e in
    let two = and_parts (is_delimiter d.component) _ one.1 in
    let three = and_parts (is_delimiter d.repetition) _ two.1 in
    let four = and_parts (is_delimiter d.escape) _ three.1 in
    record {
      field = lawful-delimiter d.field one.0;
      component = lawful-delimiter d.component two.0;
      repetition = lawful-delimiter d.repetition three.0;
      escape = lawful-delimiter d.escape four.0;
      subcomponent = lawful-delimiter d.subcomponent (and_parts (is_delimiter d.subcomponent) _ four.1).0;
    }

-- where a line passes its tests
pub delimiters_kept : (line : List ℕ) → is_delimited line ≡ true → HasLawful (delimiters_of line)
delimiters_kept line e = lawful-delimiters (delimiters_of line) (and_parts (are_delimiters (delimiters_of line)) _ (and_parts (nat_le 8 (length line)) _ e).1).0

segment_kept : (d : Delimiters) (first skip : ℕ) (line : List ℕ) → HasLawful d → Lawful line → 0 < first → is_named line ≡ true → first_field (take 3 line) ≡ first → IsSegment (segment_of d first skip line)
segment_kept d first skip line delimiters h lt named from =
    let kept = fields_kept d first (drop skip line) lt delimiters (Each-drop IsInRange skip line h) in
    record {
      name = name_is line named;
      each = subst (λ (n : ℕ). AllByRecursion (IsEntry n) (texts.entries (segment_of d first skip line).at)) (sym from)
          (subst (λ (es : List (List ℕ × List ℕ)). AllByRecursion (IsEntry first) es) (sym (entries-from_sorted (slice_cmp nat_cmp) (fields d first (drop skip line)) (sorted-fields d first (drop skip line)))) kept);
    }

pub header_kept : (d : Delimiters) (line : List ℕ) → HasLawful d → Lawful line → is_header line ≡ true → IsHeader (segment_of d 3 9 line)
header_kept d line delimiters h is =
    let name = header_is line is in
    record { segment = segment_kept d 3 9 line delimiters h (omega arith) (named is) (ap first_field name); name = name }
  where
    named : is_header line ≡ true → is_named line ≡ true
    named is = grind (arith, nat_tests)

other_kept : (d : Delimiters) (field : ℕ) (line : List ℕ) → HasLawful d → Lawful line → is_segment_line field line ≡ true → IsOther (segment_of d 1 4 line)
other_kept d field line delimiters h is =
    let both = and_parts (is_named line) _ is in
    let headless : is_header (take 3 line) ≡ false = other_is line both.0 ∙ not-true (is_header line) (and_parts (not (is_header line)) _ both.1).0 in
    record {
      segment = segment_kept d 1 4 line delimiters h (omega arith) both.0 (first_other (take 3 line) headless);
      name = λ e. true≢false (ap is_header (sym e) ∙ headless);
    }

-- ---- all lines

pub others_kept : (d : Delimiters) (ls : List Line) → HasLawful d → LawfulLines ls → first_bad d.field ls ≡ None → AllByRecursion IsOther (others_of d ls)
others_kept d [] delimiters h good = tt
others_kept d (l ∷ ls) delimiters h good =
    let first = good_first d.field l ls good in
    (other_kept d d.field l.bytes delimiters h.0 first.0, others_kept d ls delimiters h.1 first.1)

pub others_read : (d : Delimiters) (ls : List Line) → ReadsOthers d ls (others_of d ls)
others_read d [] = refl
others_read d (l ∷ ls) = (record { name = refl; fields = reads_fields d 1 (drop 4 l.bytes) (take 3 l.bytes) }, others_read d ls)

-- ---- a content

-- the tests that a content without a fault has passed
pub record Passed (content : List ℕ) (d : Delimiters) (header : Line) (behind : List ℕ) : Type 0 where
  pub headed : is_header header.bytes ≡ true
  pub delimited : is_delimited header.bytes ≡ true
  pub good : first_bad d.field (lines_from (header.at + length header.bytes + 1) behind) ≡ None
  pub clean : position (λ b. not (is_allowed b)) content ≡ None

pub passed : (content : List ℕ) (d : Delimiters) (header : Line) (behind : List ℕ) → IsChecked content d header behind → Passed content d header behind
passed content d header behind is =
    let all = is.begins.lines in
    let head : header_line (lines content) ≡ header.bytes = ap header_line all in
    let d_is : (delimiters_of (header_line (lines content))).field ≡ d.field = ap (λ (line : List ℕ). (delimiters_of line).field) head ∙ sym (ap (λ (e : Delimiters). e.field) is.delimiters) in
    record {
      headed = true_from_ne_false (is_header header.bytes) (λ e. is.readable NoHeader (ap is_header head ∙ e));
      delimited = true_from_ne_false (is_delimited header.bytes) (λ e. is.readable BadDelimiters (ap is_delimited head ∙ e));
      good = is_none _ (λ n e. is.readable (BadSegment n) (ap (λ (f : ℕ). first_bad f (drop 1 (lines content))) d_is ∙ ap (λ (ls : List Line). first_bad d.field (drop 1 ls)) all ∙ e));
      clean = is_none _ (λ n e. is.readable (Control n) e);
    }

pub kept : (content : List ℕ) (d : Delimiters) (header : Line) (behind : List ℕ) → ((k : ℕ) → get_or content k 0 < 256) → IsChecked content d header behind
    → IsMessage (segment_of d 3 9 header.bytes ∷ others_of d (lines_from (header.at + length header.bytes + 1) behind))
kept content d header behind small is =
    let p = passed content d header behind is in
    let all : LawfulLines (header ∷ lines_from (header.at + length header.bytes + 1) behind) = subst LawfulLines is.begins.lines (lawful-lines content small p.clean) in
    let delimiters : HasLawful d = subst HasLawful (sym is.delimiters) (delimiters_kept header.bytes p.delimited) in
    (header_kept d header.bytes delimiters all.0 p.headed, others_kept d _ delimiters all.1 p.good)

pub read : (content : List ℕ) (d : Delimiters) (header : Line) (behind : List ℕ) → IsChecked content d header behind
    → Reads content (segment_of d 3 9 header.bytes ∷ others_of d (lines_from (header.at + length header.bytes + 1) behind))
read content d header behind is =
    let ls = lines_from (header.at + length header.bytes + 1) behind in
    let ss = segment_of d 3 9 header.bytes ∷ others_of d ls in
    let here : ReadsLines d (header ∷ ls) ss = (record { name = refl; fields = reads_fields d 3 (drop 9 header.bytes) (take 3 header.bytes) }, others_read d ls) in
    let all = is.begins.lines in
    record {
      readable = is.readable;
      segments = subst (λ (xs : List Line). ReadsLines (delimiters_of (header_line xs)) xs ss) (sym all) (subst (λ (e : Delimiters). ReadsLines e (header ∷ ls) ss) is.delimiters here);
    }

-- A written content reads as its message.
use Rattle.std.proofs.Common.{◌≡◌, ◌≢◌, ℕ, ◌+◌, ◌<◌, ◌≤◌, Bool, true, false, not, List, [], ◌∷◌, ◌++◌, length, map, take, drop, None, Some, refl, sym, ap, subst, ◌∙◌, append_assoc, append-nil, arith}
use Rattle.std.specs.Prelude.{nat_lt, if◌then◌else◌, position}
use Rattle.std.proofs.lemmas.Bool.{le-ltb, false_from_ne_true}
use Rattle.std.proofs.lemmas.Bool.Decides.{nat_tests}
use Rattle.std.proofs.lemmas.List.{take_all}
use Rattle.std.proofs.lemmas.List.Elements.{All-from_recursion}
use Rattle.std.proofs.lemmas.List.Splits.{slice_split_at}
use Rattle.std.specs.List.{slice_split, prefix_len, AllByRecursion}
use Rattle.std.specs.FinMap as texts
use Rattle.gw_er7.specs.declared.delimiters.Delimiters.{Delimiters}
use Rattle.gw_er7.specs.Text.{standard, IsInRange}
use Rattle.gw_er7.specs.Content.{Line, placed, lines, is_line_end, is_allowed, is_segment_line, is_delimited, delimiters_of, first_bad, header_line}
use Rattle.gw_er7.specs.Names.{is_header, is_named}
use Rattle.gw_er7.specs.Message.{SegmentValue, first_field, IsEntry, IsSegment, IsOther, IsMessage}
use Rattle.gw_er7.specs.Names.{header_name, IsName}
use Rattle.gw_er7.specs.Reading.{ReadsOthers, ReadsLines, ReadsFields, Reads}
use Rattle.gw_er7.specs.Entries.{Entry}
use Rattle.gw_er7.specs.Written.{fields_text, behind_separator, delimiters_text, line_text, written}
use Rattle.gw_er7.proofs.Lined.{placed_line}
use Rattle.gw_er7.proofs.Faults.{HasLine, HasNoControl, readable}
use Rattle.gw_er7.proofs.Messages.{by_name, long, header_is, first_other}
use Rattle.gw_er7.proofs.Each.{Each-append, Each-weaker}
use Rattle.gw_er7.proofs.Ranges.{choose, high}
use Rattle.gw_er7.proofs.Rounds.{fields-each, kept_texts, written_reads}

abbrev Row : List ℕ → Type 0
Row bs = AllByRecursion IsInRange bs

no_end : (b : ℕ) → IsInRange b → is_line_end b ≡ false
no_end b is = let tab = is.1 in grind (arith, nat_tests)

allowed : (b : ℕ) → IsInRange b → is_allowed b ≡ true
allowed b is = let tab = is.1 in grind (arith, nat_tests)

-- ---- the bytes of a line

behind-row : (first : ℕ) (es : List Entry) → AllByRecursion (IsEntry first) es → Row (behind_separator first es)
behind-row first [] h = tt
behind-row first (e ∷ es) h =
    (high 124 (omega arith) (omega arith), fields-each IsInRange first (high 38 (omega arith) (omega arith)) (high 94 (omega arith) (omega arith)) (high 126 (omega arith) (omega arith)) (high 124 (omega arith) (omega arith)) (λ b is. is.range) (e ∷ es) (kept_texts first (e ∷ es) h))

delimiters-row : (name : List ℕ) → Row (delimiters_text name)
delimiters-row name =
    choose Row (is_header name) (λ _. (
      high 124 (omega arith) (omega arith),
      (
        high 94 (omega arith) (omega arith),
        (
          high 126 (omega arith) (omega arith),
          (
            high 92 (omega arith) (omega arith),
            (high 38 (omega arith) (omega arith), tt),
          ),
        ),
      ),
    )) (λ _. tt)

pub name-each : (Q : ℕ → Type 0) → ((b : ℕ) → 48 ≤ b → b ≤ 90 → Q b) → (name : List ℕ) → IsName name → AllByRecursion Q name
name-each Q each name is =
    by_name (λ n. is_named n ≡ true → AllByRecursion Q n) (λ a b c named.
    let la : 48 ≤ a = grind (arith, nat_tests) in
    let ha : a ≤ 90 = grind (arith, nat_tests) in
    let lb : 48 ≤ b = grind (arith, nat_tests) in
    let hb : b ≤ 90 = grind (arith, nat_tests) in
    let lc : 48 ≤ c = grind (arith, nat_tests) in
    let hc : c ≤ 90 = grind (arith, nat_tests) in
    (each a la ha, (each b lb hb, (each c lc hc, tt)))) name is.three is.lawful

name-row : (name : List ℕ) → IsName name → Row name
name-row = name-each IsInRange (λ b low most. high b (omega arith) (omega arith))

line-row : (s : SegmentValue) → IsSegment s → Row (line_text s)
line-row s is = Each-append IsInRange (s.name ++ delimiters_text s.name) _ (Each-append IsInRange s.name _ (name-row s.name is.name) (delimiters-row s.name)) (behind-row (first_field s.name) (texts.entries s.at) is.each)

-- ---- one line

-- what a line of these bytes is, for a segment with this name and these entries
pub record IsOtherLine (line name : List ℕ) (es : List Entry) : Type 0 where
  pub lawful : is_segment_line 124 line ≡ true
  pub begins : take 3 line ≡ name
  pub behind : drop 4 line ≡ fields_text 1 es
  pub some : 0 < length line

other_line : (a b c : ℕ) (es : List Entry) → is_named (a ∷ b ∷ c ∷ []) ≡ true → is_header (a ∷ b ∷ c ∷ []) ≡ false → IsOtherLine (a ∷ b ∷ c ∷ behind_separator 1 es) (a ∷ b ∷ c ∷ []) es
other_line a b c [] named headless = record { lawful = rw (named, headless) refl; begins = refl; behind = refl; some = omega arith }
other_line a b c (e ∷ es) named headless =
    let long = long a b c (124 ∷ fields_text 1 (e ∷ es)) in
    record { lawful = grind (arith, nat_tests); begins = refl; behind = refl; some = omega arith }

-- no other segment is named MSH
pub headless : (name : List ℕ) → IsName name → name ≢ header_name → is_header name ≡ false
headless name is other = false_from_ne_true (is_header name) (λ e. other (sym (take_all 3 name (omega (arith, is.three))) ∙ header_is name e))

pub other-bytes : (name : List ℕ) (es : List Entry) → is_header name ≡ false → name ++ delimiters_text name ++ behind_separator (first_field name) es ≡ name ++ behind_separator 1 es
other-bytes name es e =
    ap (λ (v : Bool). name ++ (if v then 124 ∷ 94 ∷ 126 ∷ 92 ∷ 38 ∷ [] else []) ++ behind_separator (if v then 3 else 1) es) e ∙ ap (λ (x : List ℕ). x ++ behind_separator 1 es) (append-nil name)

pub other-text : (name : List ℕ) (es : List Entry) → IsName name → name ≢ header_name → IsOtherLine (name ++ delimiters_text name ++ behind_separator (first_field name) es) name es
other-text name es is other =
    let none = headless name is other in
    subst (λ (line : List ℕ). IsOtherLine line name es) (sym (other-bytes name es none))
    (by_name (λ n. is_named n ≡ true → is_header n ≡ false → IsOtherLine (n ++ behind_separator 1 es) n es) (λ a b c. other_line a b c es) name is.three is.lawful none)

pub record IsHeaderLine (line : List ℕ) (es : List Entry) : Type 0 where
  pub headed : is_header line ≡ true
  pub delimited : is_delimited line ≡ true
  pub delimiters : delimiters_of line ≡ standard
  pub begins : take 3 line ≡ header_name
  pub behind : drop 9 line ≡ fields_text 3 es
  pub some : 0 < length line

header-text : (es : List Entry) → IsHeaderLine (77 ∷ 83 ∷ 72 ∷ 124 ∷ 94 ∷ 126 ∷ 92 ∷ 38 ∷ behind_separator 3 es) es
header-text [] = record { headed = refl; delimited = refl; delimiters = refl; begins = refl; behind = refl; some = omega arith }
header-text (e ∷ es) = record { headed = grind (arith, nat_tests); delimited = grind (arith, nat_tests); delimiters = refl; begins = refl; behind = refl; some = omega arith }

-- ---- all lines

split-row : (row rest : List ℕ) → Row row → slice_split is_line_end (row ++ 13 ∷ rest) ≡ row ∷ slice_split is_line_end rest
split-row row rest h =
    slice_split_at is_line_end row 13 rest (All-from_recursion (λ b. is_line_end b ≡ false) row (Each-weaker IsInRange (λ b. is_line_end b ≡ false) no_end row h)) refl

parts : List SegmentValue → List (List ℕ)
parts ss = map line_text ss ++ [] ∷ []

split-written : (ss : List SegmentValue) → AllByRecursion (λ s. Row (line_text s)) ss → slice_split is_line_end (written ss) ≡ parts ss
unfolding parts
split-written [] h = refl
split-written (s ∷ ss) h =
    ap (slice_split is_line_end) (append_assoc (line_text s) (13 ∷ []) (written ss)) ∙ split-row (line_text s) (written ss) h.0 ∙ ap (λ (ps : List (List ℕ)). line_text s ∷ ps) (split-written ss h.1)

pub other-kept : (s : SegmentValue) → IsOther s → AllByRecursion (IsEntry 1) (texts.entries s.at)
other-kept s is = subst (λ (n : ℕ). AllByRecursion (IsEntry n) (texts.entries s.at)) (first_other s.name (headless s.name is.segment.name is.name)) is.segment.each

record AreOthers (ls : List Line) (ss : List SegmentValue) : Type 0 where
  reads : ReadsOthers standard ls ss
  good : first_bad 124 ls ≡ None
  size : length ls ≡ length ss

others : (at : ℕ) (ss : List SegmentValue) → AllByRecursion IsOther ss → AreOthers (placed at (map line_text ss ++ [] ∷ [])) ss
others at [] h = record { reads = refl; good = refl; size = refl }
others at (s ∷ ss) h =
    let is = other-text s.name (texts.entries s.at) h.0.segment.name h.0.name in
    let row = line_text s in
    let l : Line = record { at = at; bytes = row } in
    let later = others (at + length row + 1) ss h.1 in
    let ls = placed (at + length row + 1) (map line_text ss ++ [] ∷ []) in
    let kept = other-kept s h.0 in
    let fields : ReadsFields standard 1 (drop 4 row) s = subst (λ (bs : List ℕ). ReadsFields standard 1 bs s) (sym is.behind) (written_reads 1 s (omega arith) kept) in
    subst (λ (xs : List Line). AreOthers xs (s ∷ ss)) (sym (placed_line at row (map line_text ss ++ [] ∷ []) is.some)) (record {
      reads = (record { name = sym is.begins; fields = fields }, later.reads);
      good = ap (λ (v : Bool). if v then first_bad 124 ls else Some at) is.lawful ∙ later.good;
      size = omega (arith, later.size);
    })

-- ---- the content

written-allowed : (ss : List SegmentValue) → AllByRecursion (λ s. Row (line_text s)) ss → AllByRecursion (λ b. is_allowed b ≡ true) (written ss)
written-allowed [] h = tt
written-allowed (s ∷ ss) h = Each-append (λ b. is_allowed b ≡ true) (line_text s ++ 13 ∷ []) (written ss) (Each-append (λ b. is_allowed b ≡ true) (line_text s) (13 ∷ []) (Each-weaker IsInRange (λ b. is_allowed b ≡ true) allowed (line_text s) h.0) (refl, tt)) (written-allowed ss h.1)

all-pass : (bs : List ℕ) → AllByRecursion (λ b. is_allowed b ≡ true) bs → prefix_len (λ b. not (not (is_allowed b))) bs ≡ length bs
all-pass [] h = refl
all-pass (b ∷ bs) h = rw (h.0) (omega (arith, all-pass bs h.1))

none-found : (bs : List ℕ) → AllByRecursion (λ b. is_allowed b ≡ true) bs → position (λ b. not (is_allowed b)) bs ≡ None
none-found bs h = (let e = all-pass bs h in let not_lt : nat_lt (prefix_len (λ b. not (not (is_allowed b))) bs) (length bs) ≡ false = le-ltb _ _ (omega (arith, e)) in rw not_lt refl)

pub header-line : (s : SegmentValue) → s.name ≡ header_name → line_text s ≡ 77 ∷ 83 ∷ 72 ∷ 124 ∷ 94 ∷ 126 ∷ 92 ∷ 38 ∷ behind_separator 3 (texts.entries s.at)
header-line s e = ap (λ (name : List ℕ). name ++ delimiters_text name ++ behind_separator (first_field name) (texts.entries s.at)) e

-- what is known of the content that is written for a message
pub record Known (s : SegmentValue) (ss : List SegmentValue) : Type 0 where
  pub later : List Line
  pub later_is : later ≡ placed (0 + length (line_text s) + 1) (map line_text ss ++ [] ∷ [])
  pub lines : HasLine (written (s ∷ ss)) (record { at = 0; bytes = line_text s }) later
  pub clean : HasNoControl (written (s ∷ ss))
  pub head : IsHeaderLine (line_text s) (texts.entries s.at)
  pub good : first_bad (delimiters_of (line_text s)).field later ≡ None
  pub size : length later ≡ length ss
  pub reads : ReadsLines standard (record { at = 0; bytes = line_text s } ∷ later) (s ∷ ss)

pub known : (s : SegmentValue) (ss : List SegmentValue) → IsMessage (s ∷ ss) → Known s ss
unfolding parts
known s ss is =
    let content = written (s ∷ ss) in
    let row = line_text s in
    let es = texts.entries s.at in
    let at = 0 + length row + 1 in
    let header : Line = record { at = 0; bytes = row } in
    let ls = placed at (map line_text ss ++ [] ∷ []) in
    let head : IsHeaderLine row es = subst (λ (bs : List ℕ). IsHeaderLine bs es) (sym (header-line s is.0.name)) (header-text es) in
    let each : AllByRecursion (λ x. Row (line_text x)) (s ∷ ss) = (line-row s is.0.segment, Each-weaker IsOther (λ x. Row (line_text x)) (λ x other. line-row x other.segment) ss is.1) in
    let all : lines content ≡ header ∷ ls = ap (placed 0) (split-written (s ∷ ss) each) ∙ placed_line 0 row (map line_text ss ++ [] ∷ []) head.some in
    let later = others at ss is.1 in
    let kept : AllByRecursion (IsEntry 3) es = subst (λ (name : List ℕ). AllByRecursion (IsEntry (first_field name)) es) is.0.name is.0.segment.each in
    let fields : ReadsFields standard 3 (drop 9 row) s = subst (λ (bs : List ℕ). ReadsFields standard 3 bs s) (sym head.behind) (written_reads 3 s (omega arith) kept) in
    record {
      later = ls;
      later_is = refl;
      lines = record { all = all };
      clean = record { none = none-found content (written-allowed (s ∷ ss) each) };
      head = head;
      good = ap (λ (d : Delimiters). first_bad d.field ls) head.delimiters ∙ later.good;
      size = later.size;
      reads = (record { name = is.0.name ∙ sym head.begins; fields = fields }, later.reads);
    }

pub reads_again : (m : List SegmentValue) → IsMessage m → length m ≤ 10000 → Reads (written m) m
reads_again [] is few = absurd is
reads_again (s ∷ ss) is few =
    let k = known s ss is in
    let size = k.size in
    record {
      readable = readable k.lines k.clean k.head.headed k.head.delimited k.good (omega (arith, size));
      segments = subst (λ (xs : List Line). ReadsLines (delimiters_of (header_line xs)) xs (s ∷ ss)) (sym k.lines.all) (subst (λ (d : Delimiters). ReadsLines d (record { at = 0; bytes = line_text s } ∷ k.later) (s ∷ ss)) (sym k.head.delimiters) k.reads);
    }

-- The written content is the only one that meets the rules of writing.
use Rattle.std.proofs.Common.{◌≡◌, ℕ, ◌+◌, ◌-◌, ◌<◌, ◌≤◌, true, not, List, [], ◌∷◌, ◌++◌, length, map, take, drop, None, refl, sym, ap, subst, ◌∙◌, append-nil, arith}
use Rattle.std.specs.Prelude.{◌↔◌, nat_le}
use Rattle.std.proofs.lemmas.Bool.{and_parts, true_from_ne_false}
use Rattle.std.proofs.lemmas.Bool.Decides.{nat_tests}
use Rattle.std.specs.List.{flat_map, AllByRecursion}
use Rattle.std.specs.FinMap as texts
use Rattle.gw_er7.specs.declared.place.Place.{Place}
use Rattle.gw_er7.specs.declared.delimiters.Delimiters.{Delimiters}
use Rattle.gw_er7.specs.declared.fault.ReadFault.TheVariants.{NoHeader, BadDelimiters, BadSegment}
use Rattle.gw_er7.specs.Text.{standard}
use Rattle.gw_er7.specs.Names.{is_header, is_named, header_name, IsName}
use Rattle.gw_er7.specs.Content.{Line, lines, placed, header_line, delimiters_of, are_delimiters, is_delimited, is_segment_line, ends_at, first_bad}
use Rattle.gw_er7.specs.Message.{SegmentValue, IsPlace, IsEntry, IsSegment, IsOther, IsMessage, first_field}
use Rattle.gw_er7.specs.Reading.{raw_at, ReadsOthers, ReadsLines}
use Rattle.gw_er7.specs.Entries.{Entry}
use Rattle.gw_er7.specs.Written.{fields_text, behind_separator, line_text, written}
use Rattle.gw_er7.specs.Encoding.{rank, IsIdle, HasNoIdle, Spells, WritesHeader, WritesOther, WritesOthers, WritesLines, IsWriting}
use Rattle.gw_er7.proofs.Once.{by_four}
use Rattle.gw_er7.proofs.Messages.{is_none, header_is}
use Rattle.gw_er7.proofs.Uniques.{Good, good_of, raw, Falls, same_bytes}
use Rattle.gw_er7.proofs.Solids.{Solid, Plains, tight_of, solid_append, solid_plain, shaped, from_first, fields_solid, fields_some, fields_low}
use Rattle.gw_er7.proofs.Rounds.{written_spells}
use Rattle.gw_er7.proofs.Lined.{placed_line, good_first}
use Rattle.gw_er7.proofs.Faults.{but_many}
use Rattle.gw_er7.proofs.Again.{known, IsHeaderLine, name-each, headless, other-bytes, other-text, other-kept, header-line}

-- ---- two lines that spell the same texts

abbrev ended : List Line → List ℕ
ended ls = flat_map (λ l. l.bytes ++ 13 ∷ []) ls

-- nothing, or the field separator and something behind it
abbrev Behind : List ℕ → Type 0
Behind [] = Unit {0}
Behind (d ∷ x) = d ≡ 124

same_raw : (first : ℕ) (x y : List ℕ) (s : SegmentValue) → 0 < first → Spells first x s → Spells first y s → (key : List ℕ) → length key ≡ 4 → AllByRecursion (λ n. 0 < n) key → raw (124 ∷ 126 ∷ 94 ∷ 38 ∷ []) key x ≡ raw (124 ∷ 126 ∷ 94 ∷ 38 ∷ []) key y
same_raw first x y s lt hx hy =
    by_four (λ key. AllByRecursion (λ n. 0 < n) key → raw (124 ∷ 126 ∷ 94 ∷ 38 ∷ []) key x ≡ raw (124 ∷ 126 ∷ 94 ∷ 38 ∷ []) key y) (λ n r c u h.
    let p : Place = record { field = n + first - 1; rep = r; comp = c; sub = u } in
    let positive : 0 < n + first - 1 = omega (arith, h.0, lt) in
    let is : IsPlace p = (positive, h.1.0, h.1.1.0, h.1.1.1.0) in
    let le : first ≤ n + first - 1 = omega (arith, h.0) in
    let at : n + first - 1 + 1 - first ≡ n = omega (arith, h.0, lt) in
    let one : raw_at standard x (n + first - 1 + 1 - first) p ≡ raw_at standard y (n + first - 1 + 1 - first) p = hx p is le ∙ sym (hy p is le) in
    subst (λ (k : ℕ). raw_at standard x k p ≡ raw_at standard y k p) at one)

falls : Falls 5 (124 ∷ 126 ∷ 94 ∷ 38 ∷ [])
falls = (omega arith, (omega arith), ((omega arith), (omega arith), ((omega arith), (omega arith), ((omega arith), (omega arith), tt))))

good_behind : (x : List ℕ) → HasNoIdle (x ++ 13 ∷ []) → Good 5 (drop 1 x)
good_behind [] h = tt
good_behind (d ∷ x) h = good_of 13 x h.1

never_bare : (d : ℕ) (x : List ℕ) → d ≡ 124 → x ≡ [] → HasNoIdle (d ∷ x ++ 13 ∷ []) → ⊥
never_bare d [] e none h = h.0 (subst (λ (k : ℕ). IsIdle k 13) (sym e) (omega arith, omega arith))
never_bare d (b ∷ x) e none h = let z : ⊥ = cc in z

same_behind : (first : ℕ) (x y : List ℕ) (s : SegmentValue) → 0 < first → Behind x → Behind y → HasNoIdle (x ++ 13 ∷ []) → HasNoIdle (y ++ 13 ∷ []) → Spells first (drop 1 x) s → Spells first (drop 1 y) s → x ≡ y
same_behind first x y s lt bx by hx hy sx sy =
    let bytes : drop 1 x ≡ drop 1 y = same_bytes (124 ∷ 126 ∷ 94 ∷ 38 ∷ []) 5 (drop 1 x) (drop 1 y) falls (good_behind x hx) (good_behind y hy) (same_raw first (drop 1 x) (drop 1 y) s lt sx sy) in
    from x y bx by hx hy bytes
  where
    from : (x y : List ℕ) → Behind x → Behind y → HasNoIdle (x ++ 13 ∷ []) → HasNoIdle (y ++ 13 ∷ []) → drop 1 x ≡ drop 1 y → x ≡ y
    from [] [] bx by hx hy e = refl
    from [] (d ∷ y) bx by hx hy e = absurd (never_bare d y by (sym e) hy)
    from (d ∷ x) [] bx by hx hy e = absurd (never_bare d x bx e hx)
    from (d ∷ x) (f ∷ y) bx by hx hy e = ap (λ (k : ℕ). k ∷ x) (bx ∙ sym by) ∙ ap (λ (z : List ℕ). f ∷ z) e

-- a line that begins with these bytes, as many as are said, and spells the texts behind them
record Spelt (count first : ℕ) (front line : List ℕ) (s : SegmentValue) : Type 0 where
  whole : line ≡ front ++ drop count line
  behind : Behind (drop count line)
  tight : HasNoIdle (drop count line ++ 13 ∷ [])
  spells : Spells first (drop 1 (drop count line)) s

line_same : (count first : ℕ) (front x y : List ℕ) (s : SegmentValue) → 0 < first → Spelt count first front x s → Spelt count first front y s → x ≡ y
line_same count first front x y s lt a b =
    a.whole ∙ ap (λ (z : List ℕ). front ++ z) (same_behind first (drop count x) (drop count y) s lt a.behind b.behind a.tight b.tight a.spells b.spells) ∙ sym b.whole

other_spelt : (x : List ℕ) (s : SegmentValue) → is_segment_line 124 x ≡ true → s.name ≡ take 3 x → WritesOther x s → Spelt 3 1 s.name x s
other_spelt [] s e n w = absurd (let z : ⊥ = cc in z)
other_spelt (a ∷ []) s e n w = absurd (let z : ⊥ = cc in z)
other_spelt (a ∷ b ∷ []) s e n w = absurd (let z : ⊥ = cc in z)
other_spelt (a ∷ b ∷ c ∷ x) s e n w = record { whole = ap (λ (name : List ℕ). name ++ x) (sym n); behind = behind x (and_parts (not (is_header (a ∷ b ∷ c ∷ x))) _ (and_parts (is_named (a ∷ b ∷ c ∷ x)) _ e).1).1; tight = w.tight.1.1.1; spells = w.spells }
  where
    behind : (x : List ℕ) → ends_at 124 3 (a ∷ b ∷ c ∷ x) ≡ true → Behind x
    behind [] end = tt
    behind (d ∷ x) end = grind (arith, nat_tests)

-- ---- the header lines

-- MSH and the delimiters |^~\&
abbrev opening : List ℕ
opening = 77 ∷ 83 ∷ 72 ∷ 124 ∷ 94 ∷ 126 ∷ 92 ∷ 38 ∷ []

header_spelt : (line : List ℕ) (s : SegmentValue) → is_header line ≡ true → is_delimited line ≡ true → delimiters_of line ≡ standard → WritesHeader line s → Spelt 8 3 opening line s
header_spelt [] s h e d w = absurd (let z : ⊥ = cc in z)
header_spelt (a ∷ []) s h e d w = absurd (let z : ⊥ = cc in z)
header_spelt (a ∷ b ∷ []) s h e d w = absurd (let z : ⊥ = cc in z)
header_spelt (a ∷ b ∷ c ∷ []) s h e d w = absurd (let z : ⊥ = cc in z)
header_spelt (a ∷ b ∷ c ∷ f ∷ []) s h e d w = absurd (let z : ⊥ = cc in z)
header_spelt (a ∷ b ∷ c ∷ f ∷ g ∷ []) s h e d w = absurd (let z : ⊥ = cc in z)
header_spelt (a ∷ b ∷ c ∷ f ∷ g ∷ i ∷ []) s h e d w = absurd (let z : ⊥ = cc in z)
header_spelt (a ∷ b ∷ c ∷ f ∷ g ∷ i ∷ j ∷ []) s h e d w = absurd (let z : ⊥ = cc in z)
header_spelt (a ∷ b ∷ c ∷ f ∷ g ∷ i ∷ j ∷ k ∷ x) s h e d w =
    let line = a ∷ b ∷ c ∷ f ∷ g ∷ i ∷ j ∷ k ∷ x in
    let name : a ∷ b ∷ c ∷ [] ≡ header_name = header_is line h in
    let five : f ∷ g ∷ i ∷ j ∷ k ∷ [] ≡ 124 ∷ 94 ∷ 126 ∷ 92 ∷ 38 ∷ [] = ap (λ (v : Delimiters). v.field ∷ v.component ∷ v.repetition ∷ v.escape ∷ v.subcomponent ∷ []) d in
    record {
      whole = ap (λ (n : List ℕ). n ++ f ∷ g ∷ i ∷ j ∷ k ∷ x) name ∙ ap (λ (n : List ℕ). header_name ++ n ++ x) five;
      behind = behind x (ap (λ (v : Delimiters). v.field) d) (and_parts (are_delimiters (delimiters_of line)) _ (and_parts (nat_le 8 (length line)) _ e).1).1;
      tight = w.tight;
      spells = w.spells;
    }
  where
    behind : (x : List ℕ) → f ≡ 124 → ends_at f 8 (a ∷ b ∷ c ∷ f ∷ g ∷ i ∷ j ∷ k ∷ x) ≡ true → Behind x
    behind [] field end = tt
    behind (m ∷ x) field end = grind (arith, nat_tests)

-- ---- two contents

others_same : (ls ms : List Line) (ss : List SegmentValue) → first_bad 124 ls ≡ None → first_bad 124 ms ≡ None → ReadsOthers standard ls ss → ReadsOthers standard ms ss → WritesOthers ls ss → WritesOthers ms ss → ended ls ≡ ended ms
others_same [] [] ss gl gm rl rm wl wm = refl
others_same [] (m ∷ ms) [] gl gm rl rm wl wm = absurd rm
others_same [] (m ∷ ms) (s ∷ ss) gl gm rl rm wl wm = absurd (let z : ⊥ = cc in z)
others_same (l ∷ ls) ms [] gl gm rl rm wl wm = absurd rl
others_same (l ∷ ls) [] (s ∷ ss) gl gm rl rm wl wm = absurd (let z : ⊥ = cc in z)
others_same (l ∷ ls) (m ∷ ms) (s ∷ ss) gl gm rl rm wl wm =
    let one = good_first 124 l ls gl in
    let two = good_first 124 m ms gm in
    let same = line_same 3 1 s.name l.bytes m.bytes s (omega arith) (other_spelt l.bytes s one.0 rl.0.name wl.0) (other_spelt m.bytes s two.0 rm.0.name wm.0) in
    ap (λ (x : List ℕ). (x ++ 13 ∷ []) ++ ended ls) same ∙ ap (λ (x : List ℕ). (m.bytes ++ 13 ∷ []) ++ x) (others_same ls ms ss one.1 two.1 rl.1 rm.1 wl.1 wm.1)

record Meets (ls : List Line) (m : List SegmentValue) : Type 0 where
  headed : is_header (header_line ls) ≡ true
  delimited : is_delimited (header_line ls) ≡ true
  delimiters : delimiters_of (header_line ls) ≡ standard
  good : first_bad 124 (drop 1 ls) ≡ None
  reads : ReadsLines standard ls m
  writes : WritesLines ls m

meets : (content : List ℕ) (m : List SegmentValue) → IsWriting content m → Meets (lines content) m
meets content m is = record {
  headed = true_from_ne_false _ (λ e. is.faultless NoHeader (omega arith) e);
  delimited = true_from_ne_false _ (λ e. is.faultless BadDelimiters (omega arith) e);
  delimiters = is.delimiters;
  good = ap (λ (d : Delimiters). first_bad d.field (drop 1 (lines content))) (sym is.delimiters) ∙ is_none _ (λ n e. is.faultless (BadSegment n) (omega arith) e);
  reads = is.reads;
  writes = is.writes;
}

lines_same : (ls ms : List Line) (m : List SegmentValue) → Meets ls m → Meets ms m → ended ls ≡ ended ms
lines_same [] ms m a b = absurd a.reads
lines_same (l ∷ ls) [] m a b = absurd b.reads
lines_same (l ∷ ls) (k ∷ ks) [] a b = absurd a.reads
lines_same (l ∷ ls) (k ∷ ks) (s ∷ ss) a b =
    let head = line_same 8 3 opening l.bytes k.bytes s (omega arith) (header_spelt l.bytes s a.headed a.delimited a.delimiters a.writes.0) (header_spelt k.bytes s b.headed b.delimited b.delimiters b.writes.0) in
    ap (λ (x : List ℕ). (x ++ 13 ∷ []) ++ ended ls) head ∙ ap (λ (x : List ℕ). (k.bytes ++ 13 ∷ []) ++ x) (others_same ls ks ss a.good b.good a.reads.1 b.reads.1 a.writes.1 b.writes.1)

pub one_writing : (content other : List ℕ) (m : List SegmentValue) → IsWriting content m → IsWriting other m → content ≡ other
one_writing content other m a b = a.ended ∙ lines_same (lines content) (lines other) m (meets content m a) (meets other m b) ∙ sym b.ended

-- ---- the content that is written

-- the fields behind a separator, none of them idle
behind_solid : (p : List ℕ) (first : ℕ) (es : List Entry) → 0 < first → Plains p → AllByRecursion (IsEntry first) es → Solid (p ++ behind_separator first es)
behind_solid p first [] lt plain h = subst (λ (x : List ℕ). Solid x) (sym (append-nil p)) (solid_plain p plain)
behind_solid p first (e ∷ es) lt plain h =
    let shape = shaped first (e ∷ es) h in
    let from = from_first first (e ∷ es) h in
    solid_append 124 p (fields_text first (e ∷ es)) (solid_plain p plain) (fields_solid first (e ∷ es) lt shape from) (fields_some first (e ∷ es) shape from (omega arith)) (fields_low first (e ∷ es) shape)

name_plain : (name : List ℕ) → IsName name → Plains name
name_plain = name-each (λ b. rank b ≡ 0) (λ b low most. grind (arith, nat_tests))

writes_other : (s : SegmentValue) → IsOther s → WritesOther (line_text s) s
writes_other s is =
    let es = texts.entries s.at in
    let line = other-text s.name es is.segment.name is.name in
    let kept = other-kept s is in
    let solid : Solid (line_text s) = subst (λ (x : List ℕ). Solid x) (sym (other-bytes s.name es (headless s.name is.segment.name is.name))) (behind_solid s.name 1 es (omega arith) (name_plain s.name is.segment.name) kept) in
    record {
      spells = subst (λ (bs : List ℕ). Spells 1 bs s) (sym line.behind) (written_spells 1 s (omega arith) kept);
      tight = tight_of 13 (line_text s) solid;
    }

writes_header : (s : SegmentValue) → s.name ≡ header_name → IsSegment s → IsHeaderLine (line_text s) (texts.entries s.at) → WritesHeader (line_text s) s
writes_header s name is head =
    let es = texts.entries s.at in
    let kept : AllByRecursion (IsEntry 3) es = subst (λ (n : List ℕ). AllByRecursion (IsEntry (first_field n)) es) name is.each in
    record {
      spells = subst (λ (bs : List ℕ). Spells 3 bs s) (sym head.behind) (written_spells 3 s (omega arith) kept);
      tight = subst (λ (x : List ℕ). HasNoIdle (drop 8 x ++ 13 ∷ [])) (sym (header-line s name)) (tight_of 13 (behind_separator 3 es) (behind_solid [] 3 es (omega arith) tt kept));
    }

record Placed (ls : List Line) (ss : List SegmentValue) : Type 0 where
  writes : WritesOthers ls ss
  ends : written ss ≡ ended ls

placed_writes : (at : ℕ) (ss : List SegmentValue) → AllByRecursion IsOther ss → Placed (placed at (map line_text ss ++ [] ∷ [])) ss
placed_writes at [] h = record { writes = tt; ends = refl }
placed_writes at (s ∷ ss) h =
    let line = other-text s.name (texts.entries s.at) h.0.segment.name h.0.name in
    let later = placed_writes (at + length (line_text s) + 1) ss h.1 in
    subst (λ (ls : List Line). Placed ls (s ∷ ss)) (sym (placed_line at (line_text s) (map line_text ss ++ [] ∷ []) line.some)) (record {
      writes = (writes_other s h.0, later.writes);
      ends = ap (λ (x : List ℕ). (line_text s ++ 13 ∷ []) ++ x) later.ends;
    })

pub written_writes : (m : List SegmentValue) → IsMessage m → IsWriting (written m) m
written_writes [] is = absurd is
written_writes (s ∷ ss) is =
    let k = known s ss is in
    let header : Line = record { at = 0; bytes = line_text s } in
    let others : Placed k.later ss = subst (λ (ls : List Line). Placed ls ss) (sym k.later_is) (placed_writes (0 + length (line_text s) + 1) ss is.1) in
    let all : lines (written (s ∷ ss)) ≡ header ∷ k.later = k.lines.all in
    record {
      ended = ap (λ (x : List ℕ). (line_text s ++ 13 ∷ []) ++ x) others.ends ∙ ap ended (sym all);
      faultless = but_many k.lines k.clean k.head.headed k.head.delimited k.good;
      delimiters = ap (λ (ls : List Line). delimiters_of (header_line ls)) all ∙ k.head.delimiters;
      reads = subst (λ (ls : List Line). ReadsLines standard ls (s ∷ ss)) (sym all) k.reads;
      writes = subst (λ (ls : List Line). WritesLines ls (s ∷ ss)) (sym all) (writes_header s is.0.name is.0.segment k.head, others.writes);
    }

pub the_one : (content : List ℕ) (m : List SegmentValue) → IsMessage m → (IsWriting content m ↔ (content ≡ written m))
the_one content m is = ((λ w. one_writing content (written m) m w (written_writes m is)), (λ e. subst (λ (c : List ℕ). IsWriting c m) (sym e) (written_writes m is)))

-- ---- the whole content

rank_most : (b : ℕ) → rank b ≤ 5
rank_most b = grind (arith, nat_tests)

-- nothing stands above the end of a line
no_idle_behind : (x y : List ℕ) → HasNoIdle (x ++ 13 ∷ []) → HasNoIdle y → HasNoIdle ((x ++ 13 ∷ []) ++ y)
no_idle_behind [] [] h k = h
no_idle_behind [] (b ∷ y) h k = ((λ idle. absurd (let lt = idle.1 in omega (arith, lt, rank_most b))), k)
no_idle_behind (a ∷ []) y h k = (h.0, no_idle_behind [] y h.1 k)
no_idle_behind (a ∷ b ∷ x) y h k = (h.0, no_idle_behind (b ∷ x) y h.1 k)

no_idle_others : (ss : List SegmentValue) → AllByRecursion IsOther ss → HasNoIdle (written ss)
no_idle_others [] h = tt
no_idle_others (s ∷ ss) h = no_idle_behind (line_text s) (written ss) (writes_other s h.0).tight (no_idle_others ss h.1)

pub no_idle_written : (m : List SegmentValue) → IsMessage m → HasNoIdle (drop 8 (written m))
no_idle_written [] is = absurd is
no_idle_written (s ∷ ss) is =
    let k = known s ss is in
    let tight = (writes_header s is.0.name is.0.segment k.head).tight in
    let line = header-line s is.0.name in
    let rest = behind_separator 3 (texts.entries s.at) in
    let here : HasNoIdle (rest ++ 13 ∷ []) = subst (λ (x : List ℕ). HasNoIdle (drop 8 x ++ 13 ∷ [])) line tight in
    subst (λ (x : List ℕ). HasNoIdle (drop 8 ((x ++ 13 ∷ []) ++ written ss))) (sym line) (no_idle_behind rest (written ss) here (no_idle_others ss is.1))

-- Message bytes that were read, line by line, to their end.
use Rattle.std.proofs.Common.{◌≡◌, ℕ, ◌+◌, ◌<◌, List, [], ◌∷◌, ◌++◌, length, get_or, sym, ap, subst, ◌∙◌, arith}
use Rattle.gw_er7.specs.declared.delimiters.Delimiters.{Delimiters}
use Rattle.gw_er7.specs.declared.fault.ReadFault.{ReadFault}
use Rattle.gw_er7.specs.declared.fields.SegmentTexts.{SegmentTexts}
use Rattle.gw_er7.specs.declared.lines.Checked.{Checked}
use Rattle.gw_er7.specs.declared.reader.MessageParts.{MessageParts}
use Rattle.gw_er7.specs.declared.spans.TextSpan.{TextSpan}
use Rattle.gw_er7.specs.declared.start.SegmentHead.{SegmentHead}
use Rattle.gw_er7.specs.Content.{Line, lines_from, first_bad}
use Rattle.gw_er7.specs.Faults.{Faulty, IsChecked}
use Rattle.gw_er7.specs.Message.{SegmentValue}
use Rattle.gw_er7.specs.Reading.{Reads}
use Rattle.gw_er7.specs.View.{Held, held, lying, AreInside, IsLying}
use Rattle.gw_er7.specs.own.Separators.{Lies, bytes_of, held_in}
use Rattle.gw_er7.specs.own.Gathered.{segment_of, others_of, IsTaken, Takes, LinesLie, HasHeader, AreSegments, IsWhole}
use Rattle.gw_er7.proofs.Faults.{readable}
use Rattle.gw_er7.proofs.Gathers.{closed}
use Rattle.gw_er7.proofs.Messages.{kept, read}
use Rattle.gw_er7.proofs.Placed.{lines_lie}

abbrev pub header_of : Checked → Line
header_of k = record { at = k.header.at; bytes = k.header.bytes.now }

-- the lines behind the first
abbrev pub later_of : Checked → List Line
later_of k = lines_from (k.header.at + length k.header.bytes.now + 1) k.header.behind.now

abbrev pub segments_of : Checked → List SegmentValue
segments_of k = segment_of k.delimiters 3 9 k.header.bytes.now ∷ others_of k.delimiters (later_of k)

pub stands : (content : List ℕ) (k : Checked) → HasHeader content k → Lies content k.header.at k.header.bytes.now × LinesLie content (later_of k)
stands content k has = subst (λ (ls : List Line). LinesLie content ls) has.begins.lines (lines_lie content)

checked : (content : List ℕ) (k : Checked) (count : ℕ) → HasHeader content k → AreSegments k.delimiters.field (later_of k) count → count < 10000 → IsChecked content k.delimiters (header_of k) k.header.behind.now
checked content k count has are few =
    let good = ap (λ (d : Delimiters). first_bad d.field (later_of k)) (sym has.delimiters) ∙ are.good in
    record {
      readable = readable {content = content} (record { all = has.begins.lines }) (record { none = has.clean }) has.headed has.delimited good (omega (arith, are.long, few));
      begins = has.begins;
      delimiters = has.delimiters;
    }

pub whole : (content : List ℕ) (k : Checked) (count : ℕ) (m : MessageParts) (taken : SegmentTexts) → ((i : ℕ) → get_or content i 0 < 256) → HasHeader content k → AreSegments k.delimiters.field (later_of k) count → count < 10000
    → IsTaken m.starts.items taken → taken.content.now ≡ content → taken.spans ≡ m.spans → taken.others.items ≡ m.others.items → lying m.starts.items (held_in taken) ≡ segments_of k → IsWhole content m
whole content k count m taken small has are few is same spans others segments =
    let all = checked content k count has are few in
    let bytes : bytes_of taken ≡ content ++ m.others.items = ap (λ (x : List ℕ). x ++ taken.others.items) same ∙ ap (λ (x : List ℕ). content ++ x) others in
    let texts : held_in taken ≡ held (content ++ m.others.items) m.spans = ap (λ (b : List ℕ). held b taken.spans) bytes ∙ ap (held (content ++ m.others.items)) spans in
    record {
      inside = subst (λ (ls : List TextSpan). AreInside (content ++ m.others.items) ls) spans (subst (λ (b : List ℕ). AreInside b taken.spans) bytes is.inside);
      lies = subst (λ (hs : List Held). IsLying m.starts.items hs) texts (closed m.starts.items taken (segments_of k) is segments (kept content k.delimiters (header_of k) k.header.behind.now small all));
      reads = subst (λ (hs : List Held). Reads content (lying m.starts.items hs)) texts (subst (λ (ss : List SegmentValue). Reads content ss) (sym segments) (read content k.delimiters (header_of k) k.header.behind.now all));
    }

pub whole_of : (content : List ℕ) (k : Checked) (d : Delimiters) (count : ℕ) (m : MessageParts) (none some : List SegmentHead) (old mid taken : SegmentTexts) → ((i : ℕ) → get_or content i 0 < 256) → HasHeader content k → d ≡ k.delimiters → none ≡ [] → old.content.now ≡ content
    → Takes none old some mid (segment_of d 3 9 k.header.bytes.now ∷ []) → Takes some mid m.starts.items taken (others_of d (later_of k)) → AreSegments d.field (later_of k) count → count < 10000
    → taken.spans ≡ m.spans → taken.others.items ≡ m.others.items → IsWhole content m
whole_of content k d count m none some old mid taken small has same empty first one all are few spans others =
    let begun : lying none (held_in old) ≡ [] = ap (λ (ss : List SegmentHead). lying ss (held_in old)) empty in
    let segments = all.segments ∙ ap (λ (ss : List SegmentValue). ss ++ others_of d (later_of k)) (one.segments ∙ ap (λ (ss : List SegmentValue). ss ++ segment_of d 3 9 k.header.bytes.now ∷ []) begun) in
    whole content k count m taken small has (subst (λ (e : Delimiters). AreSegments e.field (later_of k) count) same are) few all.taken (all.content ∙ one.content ∙ first) spans others
    (segments ∙ ap (λ (e : Delimiters). segment_of e 3 9 k.header.bytes.now ∷ others_of e (later_of k)) same)

-- ---- what follows

pub inside_bytes : (content bytes : List ℕ) (m : MessageParts) → IsWhole content m → bytes ≡ content ++ m.others.items → AreInside bytes m.spans
inside_bytes content bytes m is e = subst (λ (b : List ℕ). AreInside b m.spans) (sym e) is.inside

pub lies_bytes : (content bytes : List ℕ) (m : MessageParts) → IsWhole content m → bytes ≡ content ++ m.others.items → IsLying m.starts.items (held bytes m.spans)
lies_bytes content bytes m is e = subst (λ (b : List ℕ). IsLying m.starts.items (held b m.spans)) (sym e) is.lies

pub reads_bytes : (content bytes : List ℕ) (m : MessageParts) (message : List SegmentValue) → IsWhole content m → bytes ≡ content ++ m.others.items → message ≡ lying m.starts.items (held bytes m.spans) → Reads content message
reads_bytes content bytes m message is e same =
    subst (λ (ss : List SegmentValue). Reads content ss) (sym same) (subst (λ (b : List ℕ). Reads content (lying m.starts.items (held b m.spans))) (sym e) is.reads)

-- no fault applies
pub never : {A : Type 0} (x y : A) (content : List ℕ) (m : MessageParts) (fault : ReadFault) → IsWhole content m → Faulty content fault → x ≡ y
never x y content m fault is faulty = absurd (is.reads.readable fault faulty.applies)

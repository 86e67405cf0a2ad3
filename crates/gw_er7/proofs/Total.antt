-- Each content reads as a message or has a fault.
use Rattle.std.proofs.Common.{◌≡◌, ℕ, ◌<◌, ◌⊎◌, Bool, true, false, not, List, [], ◌∷◌, length, get_or, take, drop, Option, None, Some, refl, sym, subst, inl, inr}
use Rattle.std.specs.Prelude.{position}
use Rattle.std.proofs.lemmas.Bool.{cases_lt}
use Rattle.gw_er7.specs.declared.fault.ReadFault.{ReadFault}
use Rattle.gw_er7.specs.declared.fault.ReadFault.TheVariants.{Empty, Control, NoHeader, BadDelimiters, BadSegment, TooManySegments}
use Rattle.gw_er7.specs.Names.{is_header}
use Rattle.gw_er7.specs.Content.{Line, lines, header_line, is_allowed, is_delimited, delimiters_of, first_bad}
use Rattle.gw_er7.specs.Faults.{Faulty}
use Rattle.gw_er7.specs.Message.{SegmentValue, IsMessage}
use Rattle.gw_er7.specs.Reading.{ReadsLines, Reads}
use Rattle.gw_er7.specs.own.Gathered.{segment_of, others_of}
use Rattle.gw_er7.proofs.Levels.{reads_fields}
use Rattle.gw_er7.proofs.Faults.{HasLine, HasNoControl, no_lines, a_control, no_header, bad_delimiters, bad_segment, too_many, readable}
use Rattle.gw_er7.proofs.Messages.{LawfulLines, lawful-lines, delimiters_kept, header_kept, others_kept, others_read}

abbrev pub IsAnswered : List ℕ → Type 0
IsAnswered content = ((fault : ReadFault) × Faulty content fault) ⊎ ((message : List SegmentValue) × (IsMessage message × Reads content message))

abbrev Bytes : List ℕ → Type 0
Bytes content = (k : ℕ) → get_or content k 0 < 256

-- a content that passed all tests
good : (content : List ℕ) (header : Line) (ls : List Line) → Bytes content → HasLine content header ls → HasNoControl content → is_header header.bytes ≡ true → is_delimited header.bytes ≡ true → first_bad (delimiters_of header.bytes).field ls ≡ None → length ls < 10000
    → (message : List SegmentValue) × (IsMessage message × Reads content message)
good content header ls small has no_control headed delimited none few =
    let d = delimiters_of header.bytes in
    let all : LawfulLines (header ∷ ls) = subst LawfulLines has.all (lawful-lines content small no_control.none) in
    let lawful = delimiters_kept header.bytes delimited in
    let ss = segment_of d 3 9 header.bytes ∷ others_of d ls in
    let here : ReadsLines d (header ∷ ls) ss = (record { name = refl; fields = reads_fields d 3 (drop 9 header.bytes) (take 3 header.bytes) }, others_read d ls) in (
      ss,
      (
        (header_kept d header.bytes lawful all.0 headed, others_kept d ls lawful all.1 none),
        record {
          readable = readable has no_control headed delimited none few;
          segments = subst (λ (xs : List Line). ReadsLines (delimiters_of (header_line xs)) xs ss) (sym has.all) here;
        },
      ),
    )

pub answered : (content : List ℕ) → Bytes content → IsAnswered content
answered content small = by_lines (lines content) refl
  where
    by_segments : (header : Line) (ls : List Line) → HasLine content header ls → HasNoControl content → is_header header.bytes ≡ true → is_delimited header.bytes ≡ true → (o : Option ℕ) → first_bad (delimiters_of header.bytes).field ls ≡ o → IsAnswered content
    by_segments header ls has no_control headed delimited None none =
        elim (cases_lt (length ls) 10000) as (λ _. IsAnswered content) [
          | inl few ↦ inr (good content header ls small has no_control headed delimited none few)
          | inr many ↦ inl (TooManySegments, too_many has no_control headed delimited none many)
        ]
    by_segments header ls has no_control headed delimited (Some at) e = inl (BadSegment at, bad_segment has no_control headed delimited at e)

    by_delimiters : (header : Line) (ls : List Line) → HasLine content header ls → HasNoControl content → is_header header.bytes ≡ true → (v : Bool) → is_delimited header.bytes ≡ v → IsAnswered content
    by_delimiters header ls has no_control headed true e = by_segments header ls has no_control headed e (first_bad (delimiters_of header.bytes).field ls) refl
    by_delimiters header ls has no_control headed false e = inl (BadDelimiters, bad_delimiters has no_control headed e)

    by_header : (header : Line) (ls : List Line) → HasLine content header ls → HasNoControl content → (v : Bool) → is_header header.bytes ≡ v → IsAnswered content
    by_header header ls has no_control true e = by_delimiters header ls has no_control e (is_delimited header.bytes) refl
    by_header header ls has no_control false e = inl (NoHeader, no_header has no_control e)

    by_bytes : (header : Line) (ls : List Line) → HasLine content header ls → (o : Option ℕ) → position (λ b. not (is_allowed b)) content ≡ o → IsAnswered content
    by_bytes header ls has None e = by_header header ls has (record { none = e }) (is_header header.bytes) refl
    by_bytes header ls has (Some at) e = inl (Control at, a_control has at e)

    by_lines : (ls : List Line) → lines content ≡ ls → IsAnswered content
    by_lines [] e = inl (Empty, no_lines content e)
    by_lines (header ∷ ls) e = by_bytes header ls (record { all = e }) (position (λ b. not (is_allowed b)) content) refl

-- A header holds what its segment says.
use Rattle.std.proofs.Common.{◌≡◌, ℕ, List, [], ◌∷◌, ◌++◌, Some, sym, ap, subst, ◌∙◌}
use Rattle.std.proofs.lemmas.Option.{get_or_from_slice_get}
use Rattle.std.specs.Prelude.{slice_get}
use Rattle.std.specs.FinMap as texts
use Rattle.gw_er7.specs.Entries.{Entry}
use Rattle.gw_er7.specs.Message.{SegmentValue, text_of}
use Rattle.gw_er7.specs.Written.{repetition_text}
use Rattle.gw_ack.specs.declared.header.HeaderSpans.{HeaderSpans}
use Rattle.gw_ack.specs.Headers.{IsHeaderValue, first_repetition, header_in, header_of}
use Rattle.gw_ack.specs.Rows.{IsRepetition}
use Rattle.gw_ack.specs.Seen.{repetition_in, seen_header, text_in}
use Rattle.gw_ack.specs.own.Kept.{IsKept, IsWritten, Lies}
use Rattle.gw_ack.proofs.Copying.{lies_more, lies_now}
use Rattle.gw_ack.proofs.Reread.{repetition_back}

-- where the texts of a segment lie, written
pub record Holds (s : SegmentValue) (bytes : List ℕ) (spans : HeaderSpans) : Type 0 where
  pub sending_application : text_in bytes spans.sending_application ≡ repetition_text (first_repetition 3 (texts.entries s.at))
  pub sending_facility : text_in bytes spans.sending_facility ≡ repetition_text (first_repetition 4 (texts.entries s.at))
  pub receiving_application : text_in bytes spans.receiving_application ≡ repetition_text (first_repetition 5 (texts.entries s.at))
  pub receiving_facility : text_in bytes spans.receiving_facility ≡ repetition_text (first_repetition 6 (texts.entries s.at))
  pub event : text_in bytes spans.event ≡ text_of s.at 9 1 2 1
  pub control : text_in bytes spans.control ≡ text_of s.at 10 1 1 1
  pub processing : text_in bytes spans.processing ≡ repetition_text (first_repetition 11 (texts.entries s.at))

-- texts that were copied one behind the other
pub holds : (s : SegmentValue) (a b c d ev co p : List ℕ) (spans : HeaderSpans) (event control : List ℕ)
    → Lies a spans.sending_application (repetition_text (first_repetition 3 (texts.entries s.at)))
    → b ≡ a ++ repetition_text (first_repetition 4 (texts.entries s.at)) → Lies b spans.sending_facility (repetition_text (first_repetition 4 (texts.entries s.at)))
    → c ≡ b ++ repetition_text (first_repetition 5 (texts.entries s.at)) → Lies c spans.receiving_application (repetition_text (first_repetition 5 (texts.entries s.at)))
    → d ≡ c ++ repetition_text (first_repetition 6 (texts.entries s.at)) → Lies d spans.receiving_facility (repetition_text (first_repetition 6 (texts.entries s.at)))
    → ev ≡ d ++ event → Lies ev spans.event event → co ≡ ev ++ control → Lies co spans.control control
    → p ≡ co ++ repetition_text (first_repetition 11 (texts.entries s.at)) → Lies p spans.processing (repetition_text (first_repetition 11 (texts.entries s.at)))
    → event ≡ text_of s.at 9 1 2 1 → control ≡ text_of s.at 10 1 1 1 → Holds s p spans
holds s a b c d ev co p spans event control la eb lb ec lc ed ld ee le eo lo ep lp is_event is_control =
    let event_lies = lies_more co event _ p spans.event ep (lies_more ev event _ co spans.event eo le) in
    let d_lies = lies_more co _ _ p spans.receiving_facility ep (lies_more ev _ _ co spans.receiving_facility eo (lies_more d _ _ ev spans.receiving_facility ee ld)) in
    let c_lies = lies_more co _ _ p spans.receiving_application ep (lies_more ev _ _ co spans.receiving_application eo
    (lies_more d _ _ ev spans.receiving_application ee (lies_more c _ _ d spans.receiving_application ed lc))) in
    let b_lies = lies_more co _ _ p spans.sending_facility ep (lies_more ev _ _ co spans.sending_facility eo
    (lies_more d _ _ ev spans.sending_facility ee (lies_more c _ _ d spans.sending_facility ed (lies_more b _ _ c spans.sending_facility ec lb)))) in
    let a_lies = lies_more co _ _ p spans.sending_application ep (lies_more ev _ _ co spans.sending_application eo
    (lies_more d _ _ ev spans.sending_application ee (lies_more c _ _ d spans.sending_application ed
    (lies_more b _ _ c spans.sending_application ec (lies_more a _ _ b spans.sending_application eb la))))) in
    record {
      sending_application = lies_now p _ spans.sending_application a_lies;
      sending_facility = lies_now p _ spans.sending_facility b_lies;
      receiving_application = lies_now p _ spans.receiving_application c_lies;
      receiving_facility = lies_now p _ spans.receiving_facility d_lies;
      event = lies_now p event spans.event event_lies ∙ is_event;
      control = lies_now p control spans.control (lies_more co control _ p spans.control ep lo) ∙ is_control;
      processing = lies_now p _ spans.processing lp;
    }

-- a repetition is read back
back : (text : List ℕ) (es : List Entry) → IsRepetition es → text ≡ repetition_text es → repetition_in text ≡ es
back text es h is = ap repetition_in is ∙ repetition_back es h

whole : (text : List ℕ) (es : List Entry) → IsRepetition es → text ≡ repetition_text es → IsWritten text
whole text es h is = ap repetition_text (back text es h is) ∙ sym is

pub seen_is : (s : SegmentValue) (bytes : List ℕ) (spans : HeaderSpans) → IsHeaderValue (header_in s) → Holds s bytes spans → seen_header bytes spans ≡ header_in s
seen_is s bytes spans is h i = record {
  sending_application = back _ _ is.sending_application h.sending_application i;
  sending_facility = back _ _ is.sending_facility h.sending_facility i;
  receiving_application = back _ _ is.receiving_application h.receiving_application i;
  receiving_facility = back _ _ is.receiving_facility h.receiving_facility i;
  event = h.event i;
  control = h.control i;
  processing = back _ _ is.processing h.processing i;
}

pub kept : (s : SegmentValue) (bytes : List ℕ) (spans : HeaderSpans) → IsHeaderValue (header_in s) → Holds s bytes spans → IsKept bytes spans
kept s bytes spans is h = record {
  value = subst IsHeaderValue (sym (seen_is s bytes spans is h)) is;
  sending_application = whole _ _ is.sending_application h.sending_application;
  sending_facility = whole _ _ is.sending_facility h.sending_facility;
  receiving_application = whole _ _ is.receiving_application h.receiving_application;
  receiving_facility = whole _ _ is.receiving_facility h.receiving_facility;
  processing = whole _ _ is.processing h.processing;
}

-- the header of a message is that of its first segment
pub of_first : (message : List SegmentValue) (s : SegmentValue) → slice_get message 0 ≡ Some s → header_in s ≡ header_of message
of_first [] s is = absurd (let z : ⊥ = cc in z)
of_first (t ∷ message) s is = ap header_in (sym (get_or_from_slice_get (t ∷ message) 0 s s is))

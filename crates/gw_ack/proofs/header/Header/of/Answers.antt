use Rattle.std.proofs.Common.{refl, arith, ◌∙◌}
use Rattle.gw_ack.specs.declared.header.HeaderSpans.{HeaderSpans}
use Rattle.gw_ack.proofs.Heads.{holds, kept, of_first, seen_is}
use Rattle.gw_ack.proofs.Lawful.{header_is_lawful}
use Rattle.gw_ack.proofs.header.Header.of.Goals as goal

pub copy_repetition-requires : goal.copy_repetition-requires
copy_repetition-requires c k le = refl

pub copy_repetition-requires-5 : goal.copy_repetition-requires-5
copy_repetition-requires-5 c k le = c.in_ok-receiving_facility.ensures.next k (omega (arith, le))

pub invariant_of-result : goal.invariant_of-result
invariant_of-result c =
    let spans : HeaderSpans = record {
      sending_application = c.in_ok-sending_application.sending_application;
      sending_facility = c.in_ok-sending_facility.sending_facility;
      receiving_application = c.in_ok-receiving_application.receiving_application;
      receiving_facility = c.in_ok-receiving_facility.receiving_facility;
      event = c.in_ok-event.event;
      control = c.in_ok-control.control;
      processing = c.in_ok-processing.processing;
    } in
    let s = c.segment-msh.result in
    kept s c.copy_repetition-5.new.bytes.items spans (header_is_lawful s c.value_count-values.ensures.segment)
    (holds s c.copy_repetition.new.bytes.items c.copy_repetition-2.new.bytes.items c.copy_repetition-3.new.bytes.items c.copy_repetition-4.new.bytes.items
    c.copy_text.new.bytes.items c.copy_text-2.new.bytes.items c.copy_repetition-5.new.bytes.items spans _ _ c.in_ok-sending_application.ensures.lies
    c.in_ok-sending_facility.ensures.behind c.in_ok-sending_facility.ensures.lies c.in_ok-receiving_application.ensures.behind c.in_ok-receiving_application.ensures.lies
    c.in_ok-receiving_facility.ensures.behind c.in_ok-receiving_facility.ensures.lies c.in_ok-event.ensures.behind c.in_ok-event.ensures.lies
    c.in_ok-control.ensures.behind c.in_ok-control.ensures.lies c.in_ok-processing.ensures.behind c.in_ok-processing.ensures.lies c.text.ensures c.first_text.ensures)

pub returns : goal.returns
returns c =
    let spans : HeaderSpans = record {
      sending_application = c.in_ok-sending_application.sending_application;
      sending_facility = c.in_ok-sending_facility.sending_facility;
      receiving_application = c.in_ok-receiving_application.receiving_application;
      receiving_facility = c.in_ok-receiving_facility.receiving_facility;
      event = c.in_ok-event.event;
      control = c.in_ok-control.control;
      processing = c.in_ok-processing.processing;
    } in
    let s = c.segment-msh.result in
    seen_is s c.copy_repetition-5.new.bytes.items spans (header_is_lawful s c.value_count-values.ensures.segment)
    (holds s c.copy_repetition.new.bytes.items c.copy_repetition-2.new.bytes.items c.copy_repetition-3.new.bytes.items c.copy_repetition-4.new.bytes.items
    c.copy_text.new.bytes.items c.copy_text-2.new.bytes.items c.copy_repetition-5.new.bytes.items spans _ _ c.in_ok-sending_application.ensures.lies
    c.in_ok-sending_facility.ensures.behind c.in_ok-sending_facility.ensures.lies c.in_ok-receiving_application.ensures.behind c.in_ok-receiving_application.ensures.lies
    c.in_ok-receiving_facility.ensures.behind c.in_ok-receiving_facility.ensures.lies c.in_ok-event.ensures.behind c.in_ok-event.ensures.lies
    c.in_ok-control.ensures.behind c.in_ok-control.ensures.lies c.in_ok-processing.ensures.behind c.in_ok-processing.ensures.lies c.text.ensures c.first_text.ensures)
    ∙ of_first c.args.message.now s c.segment-msh.ensures

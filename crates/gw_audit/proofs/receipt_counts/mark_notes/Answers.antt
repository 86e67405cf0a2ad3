use Rattle.std.proofs.Common.{◌++◌, ◌∙◌, ap, sym, subst, take, append_assoc}
use Rattle.std.specs.Option.{option_to_list}
use Rattle.gw_crew.specs.Notes.{receipt_of}
use Rattle.gw_crew.specs.Seen.{note_seen, notes_seen}
use Rattle.gw_audit.specs.own.Joins.{Marks}
use Rattle.gw_run.specs.Passes.{receipts}
use Rattle.std.proofs.lemmas.List.{take_all}
use Rattle.gw_audit.proofs.Marking.{receipts_next}
use Rattle.gw_audit.proofs.receipt_counts.mark_notes.Goals as goal

pub loop-note-preserved : goal.loop-note-preserved
loop-note-preserved c =
    let notes = c.args.notes.now in
    let i = c.loop-note.note-index in
    let n = c.note-item.result in
    record {
      marks = λ all was.
          subst (λ l. Marks c.args.since l c.mark_note.new.marks.items)
          (append_assoc all (receipts (notes_seen (take i notes))) (option_to_list (receipt_of (note_seen n)))
          ∙ ap (λ l. all ++ l) (sym (receipts_next notes i n c.loop-note-test.true c.note-item.is)))
          (c.mark_note.ensures.marks (all ++ receipts (notes_seen (take i notes))) (c.loop-note.invariant.marks all was));
      len = c.mark_note.ensures.len ∙ c.loop-note.invariant.len;
    }

pub returns-clause-marks : goal.returns-clause-marks
returns-clause-marks c all was =
    subst (λ l. Marks c.args.since (all ++ receipts (notes_seen l)) c.loop-note.marks.items)
    (take_all c.loop-note.note-index c.args.notes.now c.loop-note-test.false) (c.loop-note.invariant.marks all was)

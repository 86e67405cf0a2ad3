use Rattle.std.proofs.Common.{◌≡◌, ◌++◌, List, length, take}
use Rattle.gw_crew.specs.Notes.{ReceiptSeen}
use Rattle.gw_crew.specs.Seen.{notes_seen}
use Rattle.gw_audit.specs.own.Joins.{Marks}
use Rattle.gw_run.specs.Passes.{receipts}
use Rattle.gw_audit.proofs.receipt_counts.mark_notes.Given as goal

abbrev pub invariant-loop-note : goal.invariant-loop-note
invariant-loop-note l = record {
  marks : (all : List ReceiptSeen) → Marks l.since all l.initial.marks.items
      → Marks l.since (all ++ receipts (notes_seen (take l.note-index l.notes))) l.marks.items;
  len : length l.marks.items ≡ length l.initial.marks.items;
}

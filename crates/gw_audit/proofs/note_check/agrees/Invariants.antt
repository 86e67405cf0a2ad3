use Rattle.std.proofs.Common.{◌≡◌, drop}
use Rattle.gw_crew.specs.Seen.{notes_seen}
use Rattle.gw_audit.specs.own.Joins.{meets}
use Rattle.gw_audit.specs.Settled.{GoOn, agrees}
use Rattle.gw_audit.proofs.note_check.agrees.Given as goal

abbrev pub invariant-loop-note : goal.invariant-loop-note
invariant-loop-note l = GoOn l.parts → agrees l.parts l.since (notes_seen l.notes) ≡ meets l.parts l.low l.need (notes_seen (drop l.note-index l.notes))

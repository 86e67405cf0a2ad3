-- Notes of the program, without where their parts lie in memory.
use Rattle.std.specs.Prelude.{List, map}
use Rattle.std.specs.Arc.{arc_value}
use Rattle.gw_gate.specs.Seen.{plan_seen, conforming_seen}
use Rattle.gw_gate.specs.Entries.{entry_seen}
use Rattle.gw_crew.specs.declared.note.Note as note
use Rattle.gw_crew.specs.Notes.{NoteSeen, Looked, WasStale, WasFull, WasIdle, WasNothing, Added}

abbrev pub note_seen : note.Note → NoteSeen
note_seen (note.TheVariants.Look version plan) = Looked version (plan_seen (arc_value plan))
note_seen (note.TheVariants.Stale version c) = WasStale version (conforming_seen (arc_value c))
note_seen note.TheVariants.Full = WasFull
note_seen note.TheVariants.Idle = WasIdle
note_seen (note.TheVariants.Nothing receiver) = WasNothing receiver
note_seen (note.TheVariants.Added receipt) = Added receipt.at (entry_seen receipt.entry)

abbrev pub notes_seen : List note.Note → List NoteSeen
notes_seen notes = map note_seen notes

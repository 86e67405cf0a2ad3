use Rattle.std.proofs.Common.{◌≡◌, drop}
use Rattle.gw_gate.specs.Entries.{entry_seen}
use Rattle.gw_audit.specs.Settled.{GoOn, stands}
use Rattle.gw_audit.proofs.note_check.stands.Given as goal

abbrev pub invariant-loop-part : goal.invariant-loop-part
invariant-loop-part l = GoOn l.parts → stands l.parts l.at (entry_seen l.entry) ≡ stands (drop l.part-index l.parts) l.at (entry_seen l.entry)

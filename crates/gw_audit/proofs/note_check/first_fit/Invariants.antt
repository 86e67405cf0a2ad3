use Rattle.std.proofs.Common.{ℕ, Option, drop}
use Rattle.gw_crew.specs.Seen.{note_seen}
use Rattle.gw_audit.specs.Settled.{GoOn}
use Rattle.gw_audit.specs.own.Joins.{IsFirst}
use Rattle.gw_audit.proofs.note_check.first_fit.Given as goal

abbrev pub invariant-loop-part : goal.invariant-loop-part
invariant-loop-part l = GoOn l.parts → (o : Option ℕ) → IsFirst (drop l.part-index l.parts) l.low (note_seen l.note) o → IsFirst l.parts l.low (note_seen l.note) o

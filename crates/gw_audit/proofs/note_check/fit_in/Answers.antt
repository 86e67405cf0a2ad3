use Rattle.std.proofs.Common.{Some}
use Rattle.gw_crew.specs.Seen.{note_seen}
use Rattle.gw_audit.proofs.Chaining.{first_fits}
use Rattle.gw_audit.proofs.note_check.fit_in.Goals as goal

pub returns-in-Some : goal.returns-in-Some
returns-in-Some c =
    rw c.within.ensures (first_fits c.args.part.now c.args.low c.saturating_sub-from.result (note_seen c.args.note.now) (Some c.in-Some.first)
    (rw c.start.ensures at c.saturating_sub-from.ensures) (rw c.in-Some.is at c.first_in.ensures))

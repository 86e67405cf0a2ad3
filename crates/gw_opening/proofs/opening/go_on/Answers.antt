use Rattle.std.proofs.Common.{subst}
use Rattle.gw_opening.proofs.Denying.{log_sound, state_sound}
use Rattle.gw_opening.proofs.Reading.{state_in}
use Rattle.gw_opening.proofs.opening.go_on.Goals as goal

pub returns-in-Err-clause-sound : goal.returns-in-Err-clause-sound
returns-in-Err-clause-sound g c = λ honest entries is.
    log_sound g.R.Rules.routes c.args.id _ entries c.in-Err.fault is (c.in-Err.ensures.undamaged honest) (c.in-Err.ensures.missing honest)

pub returns-in-Ok-state_by-clause-state : goal.returns-in-Ok-state_by-clause-state
returns-in-Ok-state_by-clause-state g c = λ honest.
    state_in c.args.id _ _ _ (c.in-Ok.ensures.last honest) c.in-Ok-state_by.ensures.by

pub returns-clause-sound : goal.returns-clause-sound
returns-clause-sound g c = λ honest entries is.
    state_sound g.R.Rules.routes c.args.id _ entries _ c.in-Err-state_by.fault is (c.in-Ok.ensures.last (subst g.D.Disk.honest c.into_disk.ensures honest)) c.in-Err-state_by.ensures.sound

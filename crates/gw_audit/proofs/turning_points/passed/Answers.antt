use Rattle.gw_audit.proofs.Turning.{passes_found, passes_missed}
use Rattle.gw_audit.proofs.turning_points.passed.Goals as goal

pub returns-in-Ok : goal.returns-in-Ok
returns-in-Ok c rising = passes_found c.args.ats.now c.args.low c.in-Ok.place rising c.in-Ok.ensures.position

pub returns-in-Err : goal.returns-in-Err
returns-in-Err c rising = passes_missed c.args.ats.now c.args.low c.in-Err.place rising c.in-Err.ensures.position

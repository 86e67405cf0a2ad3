use Rattle.gw_reorder.proofs.search.place_among.Goals as goal
use Rattle.gw_reorder.proofs.Places.{place_ok, place_err}

pub returns-in-Ok : goal.returns-in-Ok
returns-in-Ok c = place_ok c.args.due.now c.args.n c.in-Ok.place c.requires.rising c.in-Ok.ensures.position

pub returns-in-Err : goal.returns-in-Err
returns-in-Err c = place_err c.args.due.now c.args.n c.in-Err.field-0 c.requires.rising c.in-Err.ensures.position

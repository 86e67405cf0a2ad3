use Rattle.gw_opening.proofs.Reading.{tells_none}
use Rattle.gw_opening.proofs.opening.begin.Goals as goal

pub create-requires-clause-told : goal.create-requires-clause-told
create-requires-clause-told g c = tells_none _ _ _ c.deref.ensures.value c.in-Ok.ensures.ok c.in-Ok.ensures.fits c.new-state.ensures

use Rattle.gw_er7.proofs.Writings.{the_one}
use Rattle.gw_er7.proofs.laws.written_is_the_one.Goals as goal

pub returns : goal.returns
returns c = the_one

use Rattle.gw_interp.proofs.Once.{means_once}
use Rattle.gw_interp.proofs.laws.a_map_makes_one_message.Goals as goal

pub returns : goal.returns
returns c = λ target map m tree made other is_made is_other means also. means_once target map m tree made other is_made is_other means also

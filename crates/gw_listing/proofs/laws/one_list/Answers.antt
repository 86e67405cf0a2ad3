use Rattle.gw_listing.proofs.Given.{one_list}
use Rattle.gw_listing.proofs.laws.one_list.Goals as goal

pub returns : goal.returns
returns c = one_list c.one_reading.ensures

use Rattle.gw_listing.proofs.Given.{all_given}
use Rattle.gw_listing.proofs.laws.all_given.Goals as goal

pub returns : goal.returns
returns g c = all_given g.D.Disk.seen

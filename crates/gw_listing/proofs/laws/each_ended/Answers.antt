use Rattle.gw_listing.proofs.Given.{each_ended}
use Rattle.gw_listing.proofs.laws.each_ended.Goals as goal

pub returns : goal.returns
returns g c = each_ended g.D.Disk.seen

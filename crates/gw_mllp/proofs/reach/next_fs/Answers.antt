use Rattle.std.proofs.Common.{None, Some}
use Rattle.gw_mllp.proofs.Occurs.{fs_there}
use Rattle.gw_mllp.proofs.reach.next_fs.Goals as goal

pub returns-in-None : goal.returns-in-None
returns-in-None c = fs_there c.args.bytes.now c.args.from None c.in-None.ensures

pub returns-in-Some : goal.returns-in-Some
returns-in-Some c = fs_there c.args.bytes.now c.args.from (Some c.in-Some.at) c.in-Some.ensures

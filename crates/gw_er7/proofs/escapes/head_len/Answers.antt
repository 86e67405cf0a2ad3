use Rattle.gw_er7.proofs.Heads.{stops, head_is}
use Rattle.gw_er7.proofs.escapes.head_len.Goals as goal

pub returns : goal.returns
returns c = rw c.unwrap_or.ensures (rw c.first_stop.ensures (head_is (stops c.args.delimiters) c.args.raw.now))

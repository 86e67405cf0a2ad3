use Rattle.gw_maplang.proofs.Added.{one_added}
use Rattle.gw_maplang.proofs.chosen.add.Goals as goal

pub returns : goal.returns
returns c = one_added c.in_ok-from_slice.field-0 c.args.value.now c.args.found.now.keys c.insert.new.self.keys c.in_ok-from_slice.ensures.items c.in_ok-insert.ensures.keys

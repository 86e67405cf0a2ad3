use Rattle.gw_check.proofs.rules.failures.Goals as goal

pub look-requires : goal.look-requires
look-requires c = c.new.ensures c.args.source.now c.args.target.now

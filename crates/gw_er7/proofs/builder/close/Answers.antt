use Rattle.std.proofs.Common.{arith}
use Rattle.gw_er7.proofs.Lying.{last_fits, closed}
use Rattle.gw_er7.proofs.builder.close.Goals as goal

pub sort_from-requires : goal.sort_from-requires
sort_from-requires c = last_fits c.args.starts.now _ c.args.texts.now (omega (arith, c.in-len1-up.len_at_least)) c.requires

pub returns-in-len1-up-clause-each : goal.returns-in-len1-up-clause-each
returns-in-len1-up-clause-each c = (closed c.args.starts.now _ c.args.texts.now c.sort_from.new.self (omega (arith, c.in-len1-up.len_at_least)) c.requires c.sort_from.ensures).each

pub returns-in-len1-up-clause-same : goal.returns-in-len1-up-clause-same
returns-in-len1-up-clause-same c = (closed c.args.starts.now _ c.args.texts.now c.sort_from.new.self (omega (arith, c.in-len1-up.len_at_least)) c.requires c.sort_from.ensures).same

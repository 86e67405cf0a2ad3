use Rattle.std.proofs.Common.{[]}
use Rattle.gw_stream.specs.Exchanges.{unanswered}
use Rattle.gw_stream.proofs.Posting.{err_gives}
use Rattle.gw_stream.proofs.exchange.settle.Goals as goal

pub returns-in_err-content-clause-begun : goal.returns-in_err-content-clause-begun
returns-in_err-content-clause-begun g c content is = err_gives _ (unanswered content [] _ _ _ is c.in_ok-outcome.ensures.settled)

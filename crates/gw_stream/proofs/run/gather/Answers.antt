use Rattle.std.proofs.Common.{[]}
use Rattle.gw_stream.specs.Exchanges.{unanswered}
use Rattle.gw_stream.proofs.Posting.{err_gives}
use Rattle.gw_stream.proofs.run.gather.Goals as goal

pub returns-in_err-write_block-clause-begun : goal.returns-in_err-write_block-clause-begun
returns-in_err-write_block-clause-begun g c =
    let is = c.in_ok-answer.ensures.answer in err_gives _ (unanswered _ [] is.what is.outcome _ is.is_read is.settles)

use Rattle.std.proofs.Common.{rules, List, [], ◌∷◌}
use Rattle.gw_stream.specs.Posts.{Post, sender}
use Rattle.gw_stream.proofs.Posting.{some_more}
use Rattle.gw_stream.proofs.send.send_outcome.Goals as goal

pub returns-in_err-send_deliveries-clause-part : goal.returns-in_err-send_deliveries-clause-part
returns-in_err-send_deliveries-clause-part g c =
    let last : List Post = record { whom = sender; bytes = c.args.block.now } ∷ [] in
    let part = some_more _ last _ _ (c.in_err-send_deliveries.ensures.part (g.A.Sink.contents c.args.answers.now)) in search rules

use Rattle.gw_mllp.proofs.Has.{Stands-fed}
use Rattle.gw_mllp.proofs.decoder.Decoder.feed.Goals as goal

pub returns-clause-fed : goal.returns-clause-fed
returns-clause-fed c = λ no. Stands-fed c.args.self.now c.take.new.self c.args.piece.now c.in_ok-take.ensures.ok
